-- What a number names by the record is what it names in the peer's part.
use Rattle.std.proofs.Common.{◌≡◌, ◌⊎◌, refl, sym, ap, subst, ◌∙◌, inl, inr, ℕ, zero, suc, ◌+◌, ◌==◌, Bool, true, false, cond, not, ◌&&◌, List, [], ◌∷◌, ◌++◌, map, find, get_or, length, Option, Some, None, option_map}
use Rattle.std.specs.Prelude.{slice_get}
use Rattle.std.proofs.lemmas.Bool.{eqb-true}
use Rattle.std.proofs.lemmas.Option.{same_Some, slice_get-map, slice_get_past, get_or_from_slice_get}
use native.Mathlib.Omega.{arith}
use Rattle.b1_model.specs.declared.naming.NodeRef.{NodeRef}
use Rattle.b1_model.specs.declared.naming.Opening.{Opening}
use Rattle.b1_model.specs.Names.{is_own, Node, Name, is_known, add_new, node_from, own_node, made}
use Rattle.b1_model.specs.Ledger.{Line, line_node, named, table, node_of}
use Rattle.b1_model.specs.MachineParts.{PeerPart, DriverPart, HandleRecord, State, no_node}
use Rattle.b1_model.specs.MachineTables.{is_number, held_node, serial_of, node_named}
use Rattle.b1_model.specs.MachineStep.{record_of_state}
use Rattle.b1_step.specs.Rights.{Has}
use Rattle.b1_step.proofs.Lists.{has_at}
use Rattle.b1_step.proofs.Orders.{same_ref_is}
use Rattle.b1_inv.specs.Words.{IsPeer, IsDriver}
use Rattle.b1_inv.specs.Notices.{Apart}
use Rattle.b1_inv.specs.Sound.{IsSound}
use Rattle.b1_ledger.specs.Growth.{all_names, calls_len}
use Rattle.b1_ledger.proofs.Sequences.{slice_get-append, slice_get-more}
use Rattle.b1_ledger.proofs.Made.{named_was_made}
use Rattle.b1_inv_record.specs.Epochs.{in_gap, epoch_now, epoch_of_node, ref_of, is_ref}
use Rattle.b1_inv_record.specs.Right.{IsRight}
use Rattle.b1_inv_notices.proofs.Turns.{get_there}
use Rattle.b1_inv_refs.proofs.Places.{found_passes, serial_within}
use Rattle.b1_inv_refs.proofs.GivenUp.{found_has, number_is}

-- ---- lists

-- a number stands at one place of numbers that are apart
pub place_of : (list : List ℕ) (i j n : ℕ) → Apart list → slice_get list i ≡ Some n → slice_get list j ≡ Some n → i ≡ j
place_of [] i j n apart is also = absurd (cc is)
place_of (m ∷ rest) zero zero n apart is also = refl
place_of (m ∷ rest) zero (suc j) n apart is also = let same : m ≡ n = cc is in absurd (apart.0 (subst (Has rest) (sym same) (has_at rest j n also)))
place_of (m ∷ rest) (suc i) zero n apart is also = let same : m ≡ n = cc also in absurd (apart.0 (subst (Has rest) (sym same) (has_at rest i n is)))
place_of (m ∷ rest) (suc i) (suc j) n apart is also = ap suc (place_of rest i j n apart.1 is also)

-- the name that an own number finds
abbrev pub FoundName : ℕ → ℕ → ℕ → List Name → Node → Type 0
FoundName p i n ms x = (j : ℕ) × (m : Name) × (slice_get ms j ≡ Some m) × (m.number ≡ n) × (x.owner ≡ p) × (x.serial ≡ i + j) × (x.epoch ≡ m.epoch)

-- an own number finds a name with it, and the node of that name's place and epoch
pub found_name : (p i n : ℕ) (ms : List Name) (x : Node) → node_from p i n ms ≡ Some x → FoundName p i n ms x
found_name p i n [] x e = absurd (cc e)
found_name p i n (m ∷ ms) x e = go (n == m.number) refl (λ f. found_name p (suc i) n ms x f) e
  where
    go : (b : Bool) → (n == m.number) ≡ b → (node_from p (suc i) n ms ≡ Some x → FoundName p (suc i) n ms x) → cond b (Some (record { owner = p; serial = i; epoch = m.epoch })) (node_from p (suc i) n ms) ≡ Some x → FoundName p i n (m ∷ ms) x
    go true is ih f =
        let y : Node = record { owner = p; serial = i; epoch = m.epoch } in
        let g : y ≡ x = same_Some y x f in
        (0, m, refl, sym (eqb-true n m.number is), sym (ap (λ z. z.owner) g), sym (ap (λ z. z.serial) g) ∙ omega arith, sym (ap (λ z. z.epoch) g))
    go false is ih f = let h = ih f in let s : x.serial ≡ suc i + h.0 = h.5 in (suc h.0, h.1, h.2, h.3, h.4, omega (arith, s), h.6)

-- the line that a given number finds
line_found : (n : ℕ) (ls : List Line) (y : Node) → line_node n ls ≡ Some y → (l : Line) × Has ls l × (l.number ≡ n) × (l.node ≡ Some y)
line_found n [] y e = absurd (cc e)
line_found n (l ∷ ls) y e = go (n == l.number) refl (line_found n ls y) e
  where
    go : (b : Bool) → (n == l.number) ≡ b → (line_node n ls ≡ Some y → (k : Line) × Has ls k × (k.number ≡ n) × (k.node ≡ Some y)) → cond b l.node (line_node n ls) ≡ Some y → (k : Line) × Has (l ∷ ls) k × (k.number ≡ n) × (k.node ≡ Some y)
    go true is ih f = (l, inl refl, sym (eqb-true n l.number is), f)
    go false is ih f = let k = ih f in (k.0, inr k.1, k.2, k.3)

-- a name of a longer list stood in the shorter one, or is of the epoch of the new ones
pub name_was : (e : ℕ) (known : List Name) (ns : List ℕ) (i : ℕ) (m : Name) → slice_get (add_new e known ns) i ≡ Some m → (slice_get known i ≡ Some m) ⊎ ((slice_get known i ≡ None) × (m.epoch ≡ e))
name_was e known [] i m at = inl at
name_was e known (n ∷ ns) i m at = go (is_own n && not (is_known n known)) (name_was e (cond (is_own n && not (is_known n known)) (known ++ record { number = n; epoch = e } ∷ []) known) ns i m at)
  where
    at_end : (slice_get known i ≡ Some m) ⊎ ((i ≡ length known) × (m ≡ record { number = n; epoch = e })) → (slice_get known i ≡ Some m) ⊎ ((slice_get known i ≡ None) × (m.epoch ≡ e))
    at_end (inl was) = inl was
    at_end (inr new) = inr (slice_get_past known i (let same = new.0 in omega (arith, same)), ap (λ z. z.epoch) new.1)

    not_longer : (b : Bool) → slice_get (cond b (known ++ record { number = n; epoch = e } ∷ []) known) i ≡ None → slice_get known i ≡ None
    not_longer true none = shorter (slice_get known i) refl
      where
        shorter : (r : Option Name) → slice_get known i ≡ r → slice_get known i ≡ None
        shorter None is = is
        shorter (Some k) is = let there = slice_get-append known (record { number = n; epoch = e } ∷ []) i k is in let both : Some k ≡ None = sym there ∙ none in absurd (cc both)
    not_longer false none = none

    go : (b : Bool) → (slice_get (cond b (known ++ record { number = n; epoch = e } ∷ []) known) i ≡ Some m) ⊎ ((slice_get (cond b (known ++ record { number = n; epoch = e } ∷ []) known) i ≡ None) × (m.epoch ≡ e)) → (slice_get known i ≡ Some m) ⊎ ((slice_get known i ≡ None) × (m.epoch ≡ e))
    go true (inl was) = at_end (slice_get-more known (record { number = n; epoch = e }) i m was)
    go false (inl was) = inl was
    go b (inr new) = inr (not_longer b new.0, new.1)

-- the epoch of a name, if there is one
abbrev epoch_by : ℕ → Option Name → ℕ
epoch_by now m = elim m [ None ↦ now | Some one ↦ one.epoch ]

-- ---- a peer's part

module _ {o : Opening} {s : State} (sound : IsSound o s) (right : IsRight o s) (p : ℕ) (d : DriverPart) (x : PeerPart) (is_driver : IsDriver s p d) (is_peer : IsPeer s p x) where
  number_at : (n serial : ℕ) → serial_of n x.nodes ≡ Some serial → slice_get (map (λ m. m.number) x.nodes) serial ≡ Some n
  number_at n serial is =
      let m = get_there x.nodes serial (serial_within x.nodes serial n is) in
      slice_get-map (λ k. k.number) x.nodes serial ∙ ap (option_map (λ k. k.number)) m.1
      ∙ ap Some (ap (λ k. k.number) (sym (get_or_from_slice_get x.nodes serial m.0 no_node m.1)) ∙ eqb-true (get_or x.nodes serial no_node).number n (found_passes (λ z. z.number == n) x.nodes serial no_node is))

  -- names that have the numbers of the nodes, each at its place
  pub serial_is : (known : List Name) → map (λ m. m.number) x.nodes ≡ map (λ m. m.number) known → (n serial j : ℕ) (m : Name) → serial_of n x.nodes ≡ Some serial → slice_get known j ≡ Some m → m.number ≡ n → serial ≡ j
  serial_is known numbers n serial j m is at number =
      place_of (map (λ k. k.number) x.nodes) serial j n (right.names.made.apart p x is_peer) (number_at n serial is)
      (ap (λ l. slice_get l j) numbers ∙ slice_get-map (λ k. k.number) known j ∙ ap (option_map (λ k. k.number)) at ∙ ap Some number)

  me_is : x.me ≡ p
  me_is = (sound.numbered.peers p x is_peer).me

  own_serial : (n : ℕ) (node : NodeRef) → is_own n ≡ true → node_named x n ≡ Some node → (serial : ℕ) × (serial_of n x.nodes ≡ Some serial) × (node ≡ record { owner = p; serial = serial })
  own_serial n node own is = by (serial_of n x.nodes) refl (sym (ap (λ b. cond b (elim (serial_of n x.nodes) [ None ↦ None | Some serial ↦ Some (record { owner = x.me; serial = serial }) ]) (held_node n x.handles)) own) ∙ is)
    where
      by : (found : Option ℕ) → serial_of n x.nodes ≡ found → ◌≡◌ {A = Option NodeRef} (elim found [ None ↦ None | Some serial ↦ Some (record { owner = x.me; serial = serial }) ]) (Some node) → (serial : ℕ) × (serial_of n x.nodes ≡ Some serial) × (node ≡ record { owner = p; serial = serial })
      by None found is = absurd (cc is)
      by (Some serial) found is = (serial, found, sym (same_Some _ node is) ∙ ap (λ q. record { owner = q; serial = serial }) me_is)

  -- an own number
  own_is : (known : List Name) → map (λ m. m.number) x.nodes ≡ map (λ m. m.number) known → (n : ℕ) (y : Node) (node : NodeRef) → is_own n ≡ true → own_node p known n ≡ Some y → node_named x n ≡ Some node
      → (ref_of y ≡ node) × (y.owner ≡ p) × ((m : Name) × (slice_get known y.serial ≡ Some m) × (y.epoch ≡ m.epoch))
  own_is known numbers n y node own by_names by_part =
      let k = found_name p 0 n known y by_names in
      let found = own_serial n node own by_part in
      let j : y.serial ≡ k.0 = let f : y.serial ≡ 0 + k.0 = k.5 in omega (arith, f) in
      let same : found.0 ≡ k.0 = serial_is known numbers n found.0 k.0 k.1 found.1 k.2 k.3 in (
        ap (λ q. record { owner = q; serial = y.serial }) k.4 ∙ ap (λ i. record { owner = p; serial = i }) (j ∙ sym same) ∙ sym found.2,
        k.4,
        (k.1, ap (slice_get known) j ∙ k.2, k.6),
      )

  -- a given number
  given_is : in_gap d ≡ false → (n : ℕ) (y : Node) (node : NodeRef) → is_own n ≡ false → line_node n (table o.wires (record_of_state s) p (calls_len (record_of_state s) p)).lines ≡ Some y → node_named x n ≡ Some node → ref_of y ≡ node
  given_is gap n y node own by_table by_part = by (find (is_number n) x.handles) refl (sym (ap (λ b. cond b (elim (serial_of n x.nodes) [ None ↦ None | Some serial ↦ Some (record { owner = x.me; serial = serial }) ]) (held_node n x.handles)) own) ∙ by_part)
    where
      by : (found : Option HandleRecord) → find (is_number n) x.handles ≡ found → ◌≡◌ {A = Option NodeRef} (elim found [ None ↦ None | Some h ↦ Some h.node ]) (Some node) → ref_of y ≡ node
      by None found is = absurd (cc is)
      by (Some h) found is =
          let f = found_has (is_number n) x.handles h found in
          let l = line_found n (table o.wires (record_of_state s) p (calls_len (record_of_state s) p)).lines y by_table in
          let g = right.names.lines.lines p d x l.0 is_driver is_peer gap l.1 in
          let of : is_ref g.0.node (Some y) ≡ true = ap (is_ref g.0.node) (sym l.3) ∙ g.2.2 in
          same_ref_is (ref_of y) g.0.node of
          ∙ (sound.numbers.numbered p x is_peer).apart g.0 h n g.1 f.0 (g.2.0 ∙ ap Some l.2) (number_is n h f.1)
          ∙ same_Some h.node node is

  -- any number, where the names have the numbers of the nodes
  pub named_is : in_gap d ≡ false → (known : List Name) → map (λ m. m.number) x.nodes ≡ map (λ m. m.number) known → (n : ℕ) (y : Node) (node : NodeRef)
      → named p known (table o.wires (record_of_state s) p (calls_len (record_of_state s) p)) n ≡ Some y → node_named x n ≡ Some node → ref_of y ≡ node
  named_is gap known numbers n y node by_record by_part = by (is_own n) refl by_record
    where
      by : (b : Bool) → is_own n ≡ b → cond b (own_node p known n) (line_node n (table o.wires (record_of_state s) p (calls_len (record_of_state s) p)).lines) ≡ Some y → ref_of y ≡ node
      by true own is = (own_is known numbers n y node own is by_part).0
      by false own is = given_is gap n y node own is by_part

  -- the epoch of a node is that of its name, or the present one where its name is new
  pub named_epoch : (known : List Name) (ns : List ℕ) → known ≡ add_new (epoch_now s p) (all_names o.wires (record_of_state s) p) ns → (n : ℕ) (y : Node)
      → named p known (table o.wires (record_of_state s) p (calls_len (record_of_state s) p)) n ≡ Some y → epoch_of_node o s (ref_of y) ≡ y.epoch
  named_epoch known ns news n y by_record = by (is_own n) refl by_record
    where
      of_name : (owner : ℕ) (m : Name) → y.owner ≡ owner → (slice_get (all_names o.wires (record_of_state s) owner) y.serial ≡ Some m) ⊎ ((slice_get (all_names o.wires (record_of_state s) owner) y.serial ≡ None) × (m.epoch ≡ epoch_now s owner)) → epoch_of_node o s (ref_of y) ≡ m.epoch
      of_name owner m is (inl was) = ap (λ q. epoch_by (epoch_now s q) (slice_get (all_names o.wires (record_of_state s) q) y.serial)) is ∙ ap (epoch_by (epoch_now s owner)) was
      of_name owner m is (inr new) = ap (λ q. epoch_by (epoch_now s q) (slice_get (all_names o.wires (record_of_state s) q) y.serial)) is ∙ ap (epoch_by (epoch_now s owner)) new.0 ∙ sym new.1

      by : (b : Bool) → is_own n ≡ b → cond b (own_node p known n) (line_node n (table o.wires (record_of_state s) p (calls_len (record_of_state s) p)).lines) ≡ Some y → epoch_of_node o s (ref_of y) ≡ y.epoch
      by true own is =
          let k = found_name p 0 n known y is in
          let j : k.0 ≡ y.serial = let f : y.serial ≡ 0 + k.0 = k.5 in omega (arith, f) in
          let at : slice_get (add_new (epoch_now s p) (all_names o.wires (record_of_state s) p) ns) y.serial ≡ Some k.1 = ap (λ l. slice_get l y.serial) (sym news) ∙ ap (slice_get known) (sym j) ∙ k.2 in
          of_name p k.1 k.4 (name_was (epoch_now s p) (all_names o.wires (record_of_state s) p) ns y.serial k.1 at) ∙ sym k.6
      by false own is =
          let whole : node_of o.wires (record_of_state s) p (calls_len (record_of_state s) p) n ≡ Some y = ap (λ b. cond b (own_node p (made o.wires (record_of_state s) p (calls_len (record_of_state s) p)) n) (line_node n (table o.wires (record_of_state s) p (calls_len (record_of_state s) p)).lines)) own ∙ is in
          let k = named_was_made o.wires (record_of_state s) p (calls_len (record_of_state s) p) n y whole in
          of_name y.owner k.0 refl (inl k.1) ∙ sym k.2
