-- What the stamp of a destruction destroys in the record: nodes of its own peer, all of which are dying.
use Rattle.std.proofs.Common.{◌≡◌, refl, sym, ap, ◌∙◌, inl, inr, ℕ, zero, suc, ◌+◌, ◌==◌, Bool, true, false, cond, not, ◌&&◌, List, [], ◌∷◌, map, filter, position, Option, Some, None, option_map}
use Rattle.std.specs.Prelude.{slice_get}
use Rattle.std.specs.List.{list_all}
use Rattle.std.proofs.lemmas.Bool.{and_parts, eqb-true, eq-eqb, not-true}
use Rattle.std.proofs.lemmas.Option.{same_Some, slice_get-map, get_or_from_slice_get}
use native.Mathlib.Omega.{arith}
use Rattle.b1_model.specs.declared.commands.Command.{Command}
use Rattle.b1_model.specs.declared.commands.Command.TheVariants as cmd
use Rattle.b1_model.specs.declared.naming.Key.{Key}
use Rattle.b1_model.specs.declared.naming.NodeRef.{NodeRef}
use Rattle.b1_model.specs.declared.naming.Opening.{Opening}
use Rattle.b1_model.specs.declared.parts.NodeState.{NodeState}
use Rattle.b1_model.specs.declared.parts.NodeState.TheVariants.{Live, Dying, Destroyed}
use Rattle.b1_model.specs.declared.events.Destruction.{Destruction as Open}
use Rattle.b1_model.specs.declared.events.Phase.TheVariants.{Dooming}
use Rattle.b1_model.specs.Names.{is_own, Node, same_node, Name, own_node, nodes_from}
use Rattle.b1_model.specs.Ledger.{Table, is_the_node, named, line_node, Destruction, has_node, is_destroyed_in, destructions_of}
use Rattle.b1_model.specs.MachineParts.{PeerPart, NodePart, DriverPart, State, is_live, is_dying, no_node, node_at}
use Rattle.b1_model.specs.MachineTables.{serial_of}
use Rattle.b1_model.specs.MachineDriver.{is_flushing}
use Rattle.b1_model.specs.MachineStep.{record_of_state}
use Rattle.b1_step.specs.Rights.{Has}
use Rattle.b1_step.proofs.Lists.{has_at}
use Rattle.b1_inv.specs.Words.{IsPeer, IsDriver}
use Rattle.b1_inv.specs.Sound.{IsSound}
use Rattle.b1_ledger.proofs.Sequences.{or_true, or_left, or_right}
use Rattle.b1_inv_record.specs.Epochs.{is_ref, doom_from}
use Rattle.b1_inv_record.specs.Destructions.{own_ref}
use Rattle.b1_inv_record.specs.Numbers.{names_own}
use Rattle.b1_inv_record.specs.Right.{IsRight}
use Rattle.b1_inv_notices.proofs.Turns.{doing_in, get_there}
use Rattle.b1_inv_refs.proofs.Places.{found_passes, found_at}
use Rattle.b1_inv_legal.proofs.Named.{serial_is, found_name}

-- ---- lists

same_parts : (y w : Node) → same_node y w ≡ true → (y.owner ≡ w.owner) × (y.serial ≡ w.serial)
same_parts y w is = let k = and_parts (y.owner == w.owner) (y.serial == w.serial) is in (eqb-true y.owner w.owner k.0, eqb-true y.serial w.serial k.1)

-- what passes for a node has its owner and its serial
pub the_node : (y : Node) (z : Option Node) → is_the_node y z ≡ true → (w : Node) × (z ≡ Some w) × (y.owner ≡ w.owner) × (y.serial ≡ w.serial)
the_node y None is = absurd (cc is)
the_node y (Some w) is = let k = same_parts y w is in (w, refl, k.0, k.1)

-- a node of a list stands at a place
pub node_place : (y : Node) (zs : List (Option Node)) → has_node y zs ≡ true → (i : ℕ) × (w : Node) × (slice_get zs i ≡ Some (Some w)) × (y.owner ≡ w.owner) × (y.serial ≡ w.serial)
node_place y [] is = absurd (cc is)
node_place y (z ∷ zs) is = elim (or_true (is_the_node y z) (has_node y zs) is) [
  | inl here ↦ let k = the_node y z here in (0, k.0, ap Some k.1, k.2, k.3)
  | inr there ↦ let k = node_place y zs there in (suc k.0, k.1, k.2, k.3, k.4)
]

all_own : (ns : List ℕ) (i n : ℕ) → list_all is_own ns ≡ true → slice_get ns i ≡ Some n → is_own n ≡ true
all_own [] i n all at = absurd (cc at)
all_own (m ∷ ns) zero n all at = let same : m ≡ n = cc at in ap is_own (sym same) ∙ (and_parts (is_own m) (list_all is_own ns) all).0
all_own (m ∷ ns) (suc i) n all at = all_own ns i n (and_parts (is_own m) (list_all is_own ns) all).1 at

-- what a place of a mapped list comes from
pub place_map : {A B : Type 0} (f : A → B) (xs : List A) (i : ℕ) (b : B) → slice_get (map f xs) i ≡ Some b → (a : A) × (slice_get xs i ≡ Some a) × (f a ≡ b)
place_map f [] i b at = absurd (cc at)
place_map f (x ∷ xs) zero b at = (x, refl, cc at)
place_map f (x ∷ xs) (suc i) b at = place_map f xs i b at

-- a node that stays in a filtered list of a peer's nodes
kept_node : (test : Node → Bool) (p i : ℕ) (known : List Name) (y w : Node) (j : ℕ) → slice_get (filter test (nodes_from p i known)) j ≡ Some w
    → (k : ℕ) × (m : Name) × (slice_get known k ≡ Some m) × (w.owner ≡ p) × (w.serial ≡ i + k) × (test w ≡ true)
kept_node test p i [] y w j at = absurd (cc at)
kept_node test p i (m ∷ known) y w j at = by (test (record { owner = p; serial = i; epoch = m.epoch })) refl j at (kept_node test p (suc i) known y w)
  where
    by : (b : Bool) → test (record { owner = p; serial = i; epoch = m.epoch }) ≡ b → (j : ℕ) → slice_get (cond b (record { owner = p; serial = i; epoch = m.epoch } ∷ filter test (nodes_from p (suc i) known)) (filter test (nodes_from p (suc i) known))) j ≡ Some w
        → ((j : ℕ) → slice_get (filter test (nodes_from p (suc i) known)) j ≡ Some w → (k : ℕ) × (n : Name) × (slice_get known k ≡ Some n) × (w.owner ≡ p) × (w.serial ≡ suc i + k) × (test w ≡ true))
        → (k : ℕ) × (n : Name) × (slice_get (m ∷ known) k ≡ Some n) × (w.owner ≡ p) × (w.serial ≡ i + k) × (test w ≡ true)
    by true is zero at further = let same : record { owner = p; serial = i; epoch = m.epoch } ≡ w = cc at in (0, m, refl, sym (ap (λ z. z.owner) same), sym (ap (λ z. z.serial) same) ∙ omega arith, ap test (sym same) ∙ is)
    by true is (suc j) at further = let k = further j at in (suc k.0, k.1, k.2, k.3, (let e : w.serial ≡ suc i + k.0 = k.4 in omega (arith, e)), k.5)
    by false is j at further = let k = further j at in (suc k.0, k.1, k.2, k.3, (let e : w.serial ≡ suc i + k.0 = k.4 in omega (arith, e)), k.5)

-- what a destruction of the record has a key for is destroyed there
ref_in : (node : NodeRef) (w : Node) (zs : List (Option Node)) (i : ℕ) → w.owner ≡ node.owner → w.serial ≡ node.serial → position (is_ref node) zs ≡ Some i → has_node w zs ≡ true
ref_in node w zs i owner serial is =
    let k = get_there zs i (found_at (is_ref node) zs i is).1 in
    let passes : is_ref node k.0 ≡ true = ap (is_ref node) (sym (get_or_from_slice_get zs i k.0 None k.1)) ∙ found_passes (is_ref node) zs i None is in
    at zs i k.0 k.1 (the_ref k.0 passes)
  where
    the_ref : (z : Option Node) → is_ref node z ≡ true → is_the_node w z ≡ true
    the_ref None is = absurd (cc is)
    the_ref (Some v) is =
        let k = and_parts (v.owner == node.owner) (v.serial == node.serial) is in
        ap (λ b. b && (w.serial == v.serial)) (eq-eqb w.owner v.owner (owner ∙ sym (eqb-true v.owner node.owner k.0))) ∙ eq-eqb w.serial v.serial (serial ∙ sym (eqb-true v.serial node.serial k.1))

    at : (zs : List (Option Node)) (i : ℕ) (z : Option Node) → slice_get zs i ≡ Some z → is_the_node w z ≡ true → has_node w zs ≡ true
    at [] i z there is = absurd (cc there)
    at (u ∷ zs) zero z there is = or_left (is_the_node w u) (has_node w zs) (let same : u ≡ z = cc there in ap (is_the_node w) same ∙ is)
    at (u ∷ zs) (suc i) z there is = or_right (is_the_node w u) (has_node w zs) (at zs i z there is)

keyed_destroyed : (node : NodeRef) (w : Node) (ds : List Destruction) (key : Key) → w.owner ≡ node.owner → w.serial ≡ node.serial → doom_from node ds ≡ Some key → is_destroyed_in ds w ≡ true
keyed_destroyed node w [] key owner serial is = absurd (cc is)
keyed_destroyed node w (d ∷ ds) key owner serial is = by (position (is_ref node) d.nodes) refl is (keyed_destroyed node w ds key owner serial)
  where
    by : (r : Option ℕ) → position (is_ref node) d.nodes ≡ r → elim r [ Some i ↦ Some (record { stamp = d.stamp; origin = d.origin; index = i }) | None ↦ doom_from node ds ] ≡ Some key → (doom_from node ds ≡ Some key → is_destroyed_in ds w ≡ true) → is_destroyed_in (d ∷ ds) w ≡ true
    by (Some i) at is further = or_left (has_node w d.nodes) (is_destroyed_in ds w) (ref_in node w d.nodes i owner serial at)
    by None at is further = or_right (has_node w d.nodes) (is_destroyed_in ds w) (further is)

neither_is_dying : (state : NodeState) → is_live state ≡ false → ((stamp : ℕ) → state ≡ Destroyed stamp → ⊥) → is_dying state ≡ true
neither_is_dying Live live gone = absurd (cc live)
neither_is_dying Dying live gone = refl
neither_is_dying (Destroyed stamp) live gone = absurd (gone stamp refl)

-- ---- an open destruction at its stamp

module _ {o : Opening} {s : State} (sound : IsSound o s) (right : IsRight o s) (p : ℕ) (d : DriverPart) (x : PeerPart) (command : Command) (ending : Open)
    (is_driver : IsDriver s p d) (is_peer : IsPeer s p x) (is_open : d.doing ≡ Some (doing_in command (Dooming ending)))
    (known : List Name) (numbers : map (λ m. m.number) x.nodes ≡ map (λ m. m.number) known) where
  abbrev Ends : Node → Type 0
  Ends y = (y.owner ≡ p) × (is_dying (node_at x y.serial).state ≡ true)

  ends_as : (y w : Node) → y.owner ≡ w.owner → y.serial ≡ w.serial → Ends w → Ends y
  ends_as y w owner serial ends = (owner ∙ ends.0, ap (λ i. is_dying (node_at x i).state) serial ∙ ends.1)

  doomed_dies : (serial : ℕ) → Has ending.doomed serial → is_dying (node_at x serial).state ≡ true
  doomed_dies serial there = ap is_dying ((sound.notices.shape p d x (doing_in command (Dooming ending)) is_driver is_peer is_open).1.made serial there).1

  -- the nodes that a NODES_DESTROY names
  pub named_ends : (ns : List ℕ) (tab : Table) (y : Node) → command ≡ cmd.Destroy ns → has_node y (map (named p known tab) ns) ≡ true → Ends y
  named_ends ns tab y is has =
      let k = node_place y (map (named p known tab) ns) has in
      let n = place_map (named p known tab) ns k.0 (Some k.1) k.2 in
      let own : is_own n.0 ≡ true = all_own ns k.0 n.0 (ap names_own (sym is) ∙ right.destructions.numbers.opened p d (doing_in command (Dooming ending)) is_driver is_open refl) n.1 in
      let name = found_name p 0 n.0 known k.1 (sym (ap (λ b. cond b (own_node p known n.0) (line_node n.0 tab.lines)) own) ∙ n.2) in
      let named_all = right.destructions.doomed.named p ns d x (doing_in command (Dooming ending)) is_driver is_peer is_open is refl in
      let at : slice_get (map Some ending.doomed) k.0 ≡ Some (serial_of n.0 x.nodes) = ap (λ l. slice_get l k.0) (sym named_all) ∙ slice_get-map (λ number. serial_of number x.nodes) ns k.0 ∙ ap (option_map (λ number. serial_of number x.nodes)) n.1 in
      let serial = place_map Some ending.doomed k.0 (serial_of n.0 x.nodes) at in
      let same : serial.0 ≡ name.0 = serial_is sound right p d x is_driver is_peer known numbers n.0 serial.0 name.0 name.1 (sym serial.2) name.2 name.3 in
      let of : k.1.serial ≡ serial.0 = let e : k.1.serial ≡ 0 + name.0 = name.5 in omega (arith, e, same) in
      ends_as y k.1 k.3 k.4 (name.4, ap (λ i. is_dying (node_at x i).state) of ∙ doomed_dies serial.0 (has_at ending.doomed k.0 serial.0 serial.1))

  -- the nodes that a flush ends
  pub flushed_ends : (y : Node) → is_flushing command ≡ true → has_node y (map Some (filter (λ z. not (is_destroyed_in (destructions_of o.wires (record_of_state s) p) z)) (nodes_from p 0 known))) ≡ true → Ends y
  flushed_ends y flushes has =
      let k = node_place y (map Some (filter (λ z. not (is_destroyed_in (destructions_of o.wires (record_of_state s) p) z)) (nodes_from p 0 known))) has in
      let w = place_map Some (filter (λ z. not (is_destroyed_in (destructions_of o.wires (record_of_state s) p) z)) (nodes_from p 0 known)) k.0 (Some k.1) k.2 in
      let same : w.0 ≡ k.1 = same_Some w.0 k.1 w.2 in
      let name = kept_node (λ z. not (is_destroyed_in (destructions_of o.wires (record_of_state s) p) z)) p 0 known y w.0 k.0 w.1 in
      let serial : w.0.serial ≡ name.0 = let e : w.0.serial ≡ 0 + name.0 = name.4 in omega (arith, e) in
      ends_as y w.0 (k.3 ∙ ap (λ z. z.owner) (sym same)) (k.4 ∙ ap (λ z. z.serial) (sym same)) (name.3, dies w.0 name.3 (not-true (is_destroyed_in (destructions_of o.wires (record_of_state s) p) w.0) name.5) (within w.0.serial name.1 (ap (slice_get known) serial ∙ name.2)))
    where
      within : (i : ℕ) (m : Name) → slice_get known i ≡ Some m → (n : NodePart) × (slice_get x.nodes i ≡ Some n)
      within i m at =
          let there = place_map (λ n. n.number) x.nodes i m.number (ap (λ l. slice_get l i) numbers ∙ slice_get-map (λ n. n.number) known i ∙ ap (option_map (λ n. n.number)) at) in
          (there.0, there.1)

      dies : (w : Node) → w.owner ≡ p → is_destroyed_in (destructions_of o.wires (record_of_state s) p) w ≡ false → (n : NodePart) × (slice_get x.nodes w.serial ≡ Some n) → is_dying (node_at x w.serial).state ≡ true
      dies w owner kept n = neither_is_dying (node_at x w.serial).state
          (right.destructions.all.none p d x (doing_in command (Dooming ending)) is_driver is_peer is_open flushes refl w.serial)
          (λ stamp is.
          let key = right.destructions.dying.destroyed p w.serial stamp x n.0 is_peer n.1 (ap (λ m. m.state) (sym (get_or_from_slice_get x.nodes w.serial n.0 no_node n.1)) ∙ is) in
          let gone = keyed_destroyed (own_ref p w.serial) w (destructions_of o.wires (record_of_state s) p) key.0 owner refl key.1 in
          let both : true ≡ false = sym gone ∙ kept in cc both)
