-- What a number names in a peer's part, it names in the record.
use Rattle.std.proofs.Common.{◌≡◌, refl, sym, ap, subst, ◌∙◌, inl, inr, ℕ, zero, suc, ◌+◌, Bool, true, false, cond, ◌==◌, List, [], ◌∷◌, map, find, get_or, Option, Some, None, option_map}
use Rattle.std.specs.Prelude.{slice_get}
use Rattle.std.proofs.lemmas.Bool.{and_parts, eqb-true, eq-eqb}
use Rattle.std.proofs.lemmas.Option.{same_Some, get_or_from_slice_get}
use Rattle.std.proofs.lemmas.List.Quantifiers.{position-Some}
use native.Mathlib.Omega.{arith}
use Rattle.b1_model.specs.declared.naming.NodeRef.{NodeRef}
use Rattle.b1_model.specs.declared.naming.Opening.{Opening}
use Rattle.b1_model.specs.Names.{Node, Name, is_own, own_node, node_from}
use Rattle.b1_model.specs.Ledger.{Line, line_node, Table, table, named}
use Rattle.b1_model.specs.MachineParts.{PeerPart, DriverPart, NodePart, HandleRecord, State, no_node}
use Rattle.b1_model.specs.MachineTables.{is_number, held_node, serial_of, node_named}
use Rattle.b1_model.specs.MachineStep.{record_of_state}
use Rattle.b1_step.specs.Rights.{Has}
use Rattle.b1_inv.specs.Words.{IsPeer, IsDriver}
use Rattle.b1_inv.specs.Notices.{Apart}
use Rattle.b1_inv.specs.Sound.{IsSound}
use Rattle.b1_ledger.specs.Growth.{calls_len}
use Rattle.b1_inv_record.specs.Epochs.{in_gap, ref_of, is_ref}
use Rattle.b1_inv_record.specs.Names.{IsLineOf}
use Rattle.b1_inv_record.specs.Right.{IsRight}
use Rattle.b1_inv_notices.proofs.Turns.{get_there}

-- ---- own numbers

-- equal lists of numbers have equal numbers at each place
same_place : {X Y : Type 0} (f : X → ℕ) (g : Y → ℕ) (xs : List X) (ys : List Y) (i : ℕ) (x : X) → map f xs ≡ map g ys → slice_get xs i ≡ Some x → (y : Y) × (slice_get ys i ≡ Some y) × (g y ≡ f x)
same_place f g [] ys i x same at = absurd (cc at)
same_place f g (x ∷ xs) [] i z same at = absurd (cc same)
same_place f g (x ∷ xs) (y ∷ ys) zero z same at = let first : f x ≡ g y = cc same in let this : x ≡ z = cc at in (y, refl, sym first ∙ ap f this)
same_place f g (x ∷ xs) (y ∷ ys) (suc i) z same at = let rest : map f xs ≡ map g ys = cc same in same_place f g xs ys i z rest at

has_number : (names : List Name) (i : ℕ) (m : Name) → slice_get names i ≡ Some m → Has (map (λ k. k.number) names) m.number
has_number [] i m at = absurd (cc at)
has_number (k ∷ ks) zero m at = let same : k ≡ m = cc at in inl (ap (λ z. z.number) (sym same))
has_number (k ∷ ks) (suc i) m at = inr (has_number ks i m at)

-- where no number stands twice, a name's number names its node
node_from_at : (p i : ℕ) (names : List Name) (j : ℕ) (m : Name) → Apart (map (λ k. k.number) names) → slice_get names j ≡ Some m → node_from p i m.number names ≡ Some (record { owner = p; serial = i + j; epoch = m.epoch })
node_from_at p i [] j m apart at = absurd (cc at)
node_from_at p i (k ∷ ks) zero m apart at =
    let same : k ≡ m = cc at in
    let this : (m.number == k.number) ≡ true = eq-eqb m.number k.number (ap (λ z. z.number) (sym same)) in
    let place : i ≡ i + 0 = omega arith in
    rw this (ap (λ z. Some (record { owner = p; serial = i; epoch = z.epoch })) same ∙ ap (λ n. Some (record { owner = p; serial = n; epoch = m.epoch })) place)
node_from_at p i (k ∷ ks) (suc j) m apart at = by (m.number == k.number) refl (node_from_at p (suc i) ks j m apart.1 at)
  where
    by : (b : Bool) → (m.number == k.number) ≡ b → node_from p (suc i) m.number ks ≡ Some (record { owner = p; serial = suc i + j; epoch = m.epoch })
        → cond b (Some (record { owner = p; serial = i; epoch = k.epoch })) (node_from p (suc i) m.number ks) ≡ Some (record { owner = p; serial = i + suc j; epoch = m.epoch })
    by true same further = absurd (apart.0 (subst (Has (map (λ z. z.number) ks)) (eqb-true m.number k.number same) (has_number ks j m at)))
    by false other further = let place : suc i + j ≡ i + suc j = omega arith in further ∙ ap (λ n. Some (record { owner = p; serial = n; epoch = m.epoch })) place

own_place : (nodes : List NodePart) (number serial : ℕ) → serial_of number nodes ≡ Some serial → (n : NodePart) × (slice_get nodes serial ≡ Some n) × (n.number ≡ number)
own_place nodes number serial is =
    let k = position-Some (λ m. m.number == number) nodes serial no_node is in
    let n = get_there nodes serial k.0 in
    let same : get_or nodes serial no_node ≡ n.0 = get_or_from_slice_get nodes serial n.0 no_node n.1 in
    (n.0, n.1, ap (λ m. m.number) (sym same) ∙ eqb-true (get_or nodes serial no_node).number number k.1)

-- ---- given numbers

find_parts : (test : HandleRecord → Bool) (handles : List HandleRecord) (h : HandleRecord) → find test handles ≡ Some h → Has handles h × (test h ≡ true)
find_parts test [] h is = absurd (cc is)
find_parts test (g ∷ rest) h is = by (test g) refl is (find_parts test rest h)
  where
    by : (b : Bool) → test g ≡ b → cond b (Some g) (find test rest) ≡ Some h → (find test rest ≡ Some h → Has rest h × (test h ≡ true)) → Has (g ∷ rest) h × (test h ≡ true)
    by true passes found further = let same : g ≡ h = same_Some g h found in (inl (sym same), ap test (sym same) ∙ passes)
    by false fails found further = let k = further found in (inr k.0, k.1)

number_is : (number : ℕ) (h : HandleRecord) → is_number number h ≡ true → h.number ≡ Some number
number_is number h is = by h.number refl
  where
    by : (found : Option ℕ) → h.number ≡ found → h.number ≡ Some number
    by None none = let both : false ≡ true = ap (λ z. elim z [ None ↦ false | Some n ↦ n == number ]) (sym none) ∙ is in absurd (cc both)
    by (Some n) same = let yes : (n == number) ≡ true = ap (λ z. elim z [ None ↦ false | Some k ↦ k == number ]) (sym same) ∙ is in same ∙ ap Some (eqb-true n number yes)

held_record : (number : ℕ) (handles : List HandleRecord) (node : NodeRef) → held_node number handles ≡ Some node → (h : HandleRecord) × Has handles h × (h.number ≡ Some number) × (h.node ≡ node)
held_record number handles node is = by (find (is_number number) handles) refl
  where
    by : (found : Option HandleRecord) → find (is_number number) handles ≡ found → (h : HandleRecord) × Has handles h × (h.number ≡ Some number) × (h.node ≡ node)
    by None none = let both : None ≡ Some node = ap (λ z. elim z [ None ↦ None | Some h ↦ Some h.node ]) (sym none) ∙ is in absurd (cc both)
    by (Some h) same =
        let k = find_parts (is_number number) handles h same in
        (h, k.0, number_is number h k.1, same_Some h.node node (ap (λ z. elim z [ None ↦ None | Some g ↦ Some g.node ]) (sym same) ∙ is))

-- a number of a line names the node of some line with it
line_there : (number : ℕ) (lines : List Line) (l : Line) → Has lines l → l.number ≡ number → (k : Line) × Has lines k × (k.number ≡ number) × (line_node number lines ≡ k.node)
line_there number [] l has is = absurd has
line_there number (k ∷ rest) l has is = by (number == k.number) refl has (line_there number rest l)
  where
    by : (b : Bool) → (number == k.number) ≡ b → Has (k ∷ rest) l → (Has rest l → l.number ≡ number → (j : Line) × Has rest j × (j.number ≡ number) × (line_node number rest ≡ j.node))
        → (j : Line) × Has (k ∷ rest) j × (j.number ≡ number) × (cond b k.node (line_node number rest) ≡ j.node)
    by true same h further = (k, inl refl, sym (eqb-true number k.number same), refl)
    by false other (inl first) further = let both : true ≡ false = sym (eq-eqb number k.number (sym is ∙ ap (λ z. z.number) first)) ∙ other in absurd (cc both)
    by false other (inr h) further = let j = further h is in (j.0, inr j.1, j.2, j.3)

ref_is : (node : NodeRef) (x : Option Node) → is_ref node x ≡ true → option_map ref_of x ≡ Some node
ref_is node None is = absurd (cc is)
ref_is node (Some x) is =
    let both = and_parts (x.owner == node.owner) (x.serial == node.serial) is in
    let owner = eqb-true x.owner node.owner both.0 in
    let serial = eqb-true x.serial node.serial both.1 in
    ap (λ n. Some (record { owner = n; serial = x.serial })) owner ∙ ap (λ n. Some (record { owner = node.owner; serial = n })) serial

-- a record of a line has the line's number
line_number_is : (h : HandleRecord) (l : Line) (number : ℕ) → IsLineOf h l → l.number ≡ number → h.number ≡ Some number
line_number_is h l number same is = same.0 ∙ ap Some is

-- ---- a state

module _ {o : Opening} {s : State} (sound : IsSound o s) (right : IsRight o s) (p : ℕ) (d : DriverPart) (x : PeerPart) (is_driver : IsDriver s p d) (is_peer : IsPeer s p x) (no_gap : in_gap d ≡ false) where
  abbrev pub end_table : Table
  end_table = table o.wires (record_of_state s) p (calls_len (record_of_state s) p)

  own_named : (names : List Name) → map (λ n. n.number) x.nodes ≡ map (λ m. m.number) names → (number : ℕ) (serial : ℕ) → serial_of number x.nodes ≡ Some serial → option_map ref_of (own_node p names number) ≡ Some (record { owner = x.me; serial = serial })
  own_named names same number serial is =
      let n = own_place x.nodes number serial is in
      let m = same_place (λ k. k.number) (λ k. k.number) x.nodes names serial n.0 same n.1 in
      let apart : Apart (map (λ k. k.number) names) = subst Apart same (right.names.made.apart p x is_peer) in
      let number_same : m.0.number ≡ number = m.2 ∙ n.2 in
      let place : 0 + serial ≡ serial = omega arith in
      ap (λ k. option_map ref_of (own_node p names k)) (sym number_same)
      ∙ ap (option_map ref_of) (node_from_at p 0 names serial m.0 apart m.1)
      ∙ ap (λ k. Some (record { owner = p; serial = k })) place
      ∙ ap (λ k. Some (record { owner = k; serial = serial })) (sym (sound.numbered.peers p x is_peer).me)

  -- the first line with the number of a record is of the record's node
  by_first : (number : ℕ) (node : NodeRef) (h : HandleRecord) (k : Line) (g : HandleRecord) → Has x.handles h → h.number ≡ Some number → h.node ≡ node → k.number ≡ number → line_node number end_table.lines ≡ k.node → Has x.handles g → IsLineOf g k
      → option_map ref_of (line_node number end_table.lines) ≡ Some node
  by_first number node h k g has its_number its_node line_number first there line =
      let same : g.node ≡ h.node = (sound.numbers.numbered p x is_peer).apart g h number there has (line_number_is g k number line line_number) its_number in
      ap (option_map ref_of) first ∙ ref_is g.node k.node line.2 ∙ ap Some (same ∙ its_node)

  by_line : (number : ℕ) (node : NodeRef) (h : HandleRecord) (l : Line) → Has x.handles h → h.number ≡ Some number → h.node ≡ node → Has end_table.lines l → l.number ≡ number → option_map ref_of (line_node number end_table.lines) ≡ Some node
  by_line number node h l has its_number its_node there line_number =
      let k = line_there number end_table.lines l there line_number in
      let g = right.names.lines.lines p d x k.0 is_driver is_peer no_gap k.1 in
      by_first number node h k.0 g.0 has its_number its_node k.2 k.3 g.1 g.2

  by_record : (number : ℕ) (node : NodeRef) (h : HandleRecord) → Has x.handles h → h.number ≡ Some number → h.node ≡ node → option_map ref_of (line_node number end_table.lines) ≡ Some node
  by_record number node h has its_number its_node =
      let l = right.names.lines.records p number d x h is_driver is_peer no_gap has its_number in
      by_line number node h l.0 has its_number its_node l.1 (same_Some l.0.number number (sym l.2.0 ∙ its_number))

  given_named : (number : ℕ) (node : NodeRef) → held_node number x.handles ≡ Some node → option_map ref_of (line_node number end_table.lines) ≡ Some node
  given_named number node is = let h = held_record number x.handles node is in by_record number node h.0 h.1 h.2 h.3

  -- what a number names in the part, it names by the names of the part's nodes and by the table at the end of the calls
  pub number_named : (names : List Name) → map (λ n. n.number) x.nodes ≡ map (λ m. m.number) names → (number : ℕ) (node : NodeRef) → node_named x number ≡ Some node → option_map ref_of (named p names end_table number) ≡ Some node
  number_named names same number node is = by (is_own number) is
    where
      own : (found : Option ℕ) → serial_of number x.nodes ≡ found → elim found [ None ↦ None | Some serial ↦ Some (record { owner = x.me; serial = serial }) ] ≡ Some node → option_map ref_of (own_node p names number) ≡ Some node
      own None at h = absurd (cc h)
      own (Some serial) at h = own_named names same number serial at ∙ h

      by : (b : Bool) → cond b (elim (serial_of number x.nodes) [ None ↦ None | Some serial ↦ Some (record { owner = x.me; serial = serial }) ]) (held_node number x.handles) ≡ Some node
          → option_map ref_of (cond b (own_node p names number) (line_node number end_table.lines)) ≡ Some node
      by true h = own (serial_of number x.nodes) refl h
      by false h = given_named number node h

  -- the same of a list of numbers
  pub all_named : (names : List Name) → map (λ n. n.number) x.nodes ≡ map (λ m. m.number) names → (numbers : List ℕ) (nodes : List NodeRef) → map (node_named x) numbers ≡ map Some nodes → map (option_map ref_of) (map (named p names end_table) numbers) ≡ map Some nodes
  all_named names same [] nodes is = is
  all_named names same (n ∷ rest) [] is = absurd (cc is)
  all_named names same (n ∷ rest) (node ∷ nodes) is =
      let first : node_named x n ≡ Some node = cc is in
      let later : map (node_named x) rest ≡ map Some nodes = cc is in
      ap (λ z. z ∷ map (option_map ref_of) (map (named p names end_table) rest)) (number_named names same n node first) ∙ ap (λ z. Some node ∷ z) (all_named names same rest nodes later)
