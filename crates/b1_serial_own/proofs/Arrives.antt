-- The handles of a message arrive at a peer of the machine as at a peer of the serial bus, where no record of theirs is dead.
use Rattle.std.proofs.Common.{◌≡◌, refl, sym, ap, ◌∙◌, subst, inl, inr, ℕ, zero, suc, ◌+◌, ◌<◌, ◌≤◌, ◌==◌, Bool, true, false, cond, List, [], ◌∷◌, ◌++◌, map, fold, zip, get_or, Option, Some, None, is_some, option_map, unwrap_or, arith}
use Rattle.std.specs.Prelude.{slice_get}
use Rattle.std.proofs.lemmas.Bool.{ne_eqb}
use Rattle.b1_model.specs.declared.naming.NodeRef.{NodeRef}
use Rattle.b1_model.specs.declared.parts.Slot.{Slot}
use Rattle.b1_model.specs.declared.parts.Slot.TheVariants as slot
use Rattle.b1_model.specs.Names.{invalid}
use Rattle.b1_model.specs.MachineParts.{PeerPart, DriverPart, NodePart, HandleRecord, same_ref, record_of, record_or_none, no_node, node_at}
use Rattle.b1_model.specs.MachineTables.{changed, changed_or_made, more_held, less_flight, next_number, foreign}
use Rattle.b1_model.specs.MachineReceive as machine
use Rattle.b1_model.specs.MachineReceive.{reference_by, slot_arrives}
use Rattle.b1_step.specs.Rights.{Has}
use Rattle.b1_step.specs.Ordered.{Rising}
use Rattle.b1_step.proofs.Orders.{same_ref_itself}
use Rattle.b1_inv.specs.Numbers.{AreNumbered}
use Rattle.b1_inv.specs.References.{AreFilled}
use Rattle.b1_inv_refs.proofs.Views.{Handles, or_none, times_cons}
use Rattle.b1_inv_refs.proofs.GivenUp.{found_has}
use Rattle.b1_inv_refs.proofs.Numbered.{numbers_come}
use Rattle.b1_inv_refs.proofs.Arrivals.{flight_in, slot_flight, slot_rising, slot_rest, InFlight}
use Rattle.b1_serial_bus.specs.Parts.{HeldLine, Part}
use Rattle.b1_serial_bus.specs.Named.{line_of}
use Rattle.b1_serial_bus.specs.Lives.{own_number}
use Rattle.b1_serial_bus.specs.References.{raised, new_line, number_for, with_reference}
use Rattle.b1_serial_bus.specs.Arrival.{Arriving, arrives}
use Rattle.b1_serial_rest.specs.Standing.{own_of, part_of, lines_of}
use Rattle.b1_serial_rest.proofs.Records.{lines_have, lines_raised, lines_new}
use Rattle.b1_serial_own.proofs.Marked.{lines_unexpected, numbers_unexpected, alive_kept, alive_unexpected, lines_come, line_number}

-- the number of a node
pub number_at : (nodes : List NodePart) (serial : ℕ) → elim (slice_get (map own_of nodes) serial) [ None ↦ invalid | Some n ↦ n.number ] ≡ (get_or nodes serial no_node).number
number_at [] serial = refl
number_at (n ∷ rest) zero = refl
number_at (n ∷ rest) (suc serial) = number_at rest serial

pub own_number_is : (x : PeerPart) (d : DriverPart) (serial : ℕ) → own_number (part_of x d) serial ≡ (node_at x serial).number
own_number_is x d serial = number_at x.nodes serial

-- ---- a reference

module _ (node : NodeRef) (x : PeerPart) (d : DriverPart) (up : Rising x.handles) (numbered : AreNumbered x.given x.handles) (there : is_some (record_of node x.handles) ≡ true) (alive : (record_or_none node x.handles).dead ≡ false) where
  abbrev come : HandleRecord → HandleRecord
  come g = more_held (next_number x.given) (less_flight g)

  abbrev come_part : PeerPart
  come_part = record x { handles = changed node come x.handles; given = cond ((record_or_none node x.handles).held == 0) (x.given + 1) x.given }

  abbrev reference : Bool → Part
  reference b = cond b (record (part_of x d) { lines = map (raised node) (lines_of x.handles) }) (record (part_of x d) { lines = lines_of x.handles ++ new_line x.given node ∷ []; given = x.given + 1 })

  held_none : (r : Option HandleRecord) → record_of node x.handles ≡ r → (or_none node r).number ≡ None → (or_none node r).held ≡ 0
  held_none None none nothing = refl
  held_none (Some h) found nothing = numbered.unheld h (found_has (λ g. same_ref g.node node) x.handles h found).0 nothing

  held_some : (k : ℕ) (r : Option HandleRecord) → record_of node x.handles ≡ r → (or_none node r).number ≡ Some k → (or_none node r).held == 0 ≡ false
  held_some k None none nothing = absurd (cc nothing)
  held_some k (Some h) found is = let positive = (numbered.held h k (found_has (λ g. same_ref g.node node) x.handles h found).0 is).0 in ne_eqb h.held 0 (λ e. absurd (omega (arith, positive, e)))

  below : (h : HandleRecord) (k : ℕ) → Has x.handles h → h.number ≡ Some k → k < next_number x.given
  below h k has is = let g = (numbered.held h k has is).1 in let less = g.1 in let same : k ≡ next_number g.0 = g.2 in omega (arith, less, same)

  come_lines : lines_of (changed node come x.handles) ≡ lines_of (changed_or_made node (more_held (next_number x.given)) x.handles)
  come_lines = lines_come node (next_number x.given) x.handles up there

  by : (number : Option ℕ) → (record_or_none node x.handles).number ≡ number → reference (is_some (record_or_none node x.handles).number) ≡ part_of come_part d
  by None none =
      let lines = come_lines ∙ lines_new node (next_number x.given) x.handles up numbered.unheld below alive (ap is_some none) in
      let given_is : cond ((record_or_none node x.handles).held == 0) (x.given + 1) x.given ≡ x.given + 1 = ap (λ k. cond (k == 0) (x.given + 1) x.given) (held_none (record_of node x.handles) refl none) in
      ap (λ k. reference (is_some k)) none ∙ sym (ap (λ g. record (part_of x d) { lines = lines_of (changed node come x.handles); given = g }) given_is ∙ ap (λ ls. record (part_of x d) { lines = ls; given = x.given + 1 }) lines)
  by (Some k) some =
      let lines = come_lines ∙ lines_raised node (next_number x.given) x.handles up (λ h m has is. (numbered.held h m has is).0) (ap is_some some) in
      let given_is : cond ((record_or_none node x.handles).held == 0) (x.given + 1) x.given ≡ x.given = ap (λ b. cond b (x.given + 1) x.given) (held_some k (record_of node x.handles) refl some) in
      ap (λ k. reference (is_some k)) some ∙ sym (ap (λ g. record (part_of x d) { lines = lines_of (changed node come x.handles); given = g }) given_is ∙ ap (λ ls. record (part_of x d) { lines = ls }) lines)

  -- it comes alike
  pub reference_comes : with_reference node (part_of x d) ≡ part_of come_part d
  reference_comes = ap reference (lines_have node x.handles up) ∙ by (record_or_none node x.handles).number refl

  -- under the same number
  pub reference_number : number_for node (part_of x d) ≡ unwrap_or (record_or_none node x.handles).number (next_number x.given)
  reference_number = at (line_of node (lines_of x.handles)) ∙ ap (λ r. unwrap_or r (next_number x.given)) (line_number node x.handles up)
    where
      at : (r : Option HeldLine) → elim r [ None ↦ next_number x.given | Some l ↦ l.number ] ≡ unwrap_or (option_map (λ l. l.number) r) (next_number x.given)
      at None = refl
      at (Some l) = refl

-- ---- the handles of a message

-- what is so of a part while handles arrive at peer q, and of those that are left
pub record CanArrive (q : ℕ) (nodes : List NodeRef) (slots : List Slot) (x : PeerPart) : Type 0 where
  pub me : x.me ≡ q
  pub rising : Rising x.handles
  pub numbered : AreNumbered x.given x.handles
  pub filled : AreFilled q nodes slots
  pub flies : InFlight q nodes x.handles
  pub alive : (n : NodeRef) → Has (zip nodes slots) (n, slot.Attached) → (record_or_none n x.handles).dead ≡ false
  pub untaken : (n : NodeRef) → Has (zip nodes slots) (n, slot.Own) → (node_at x n.serial).taken ≡ false

-- a record that is in flight is there
flying_there : (n : NodeRef) (hs : Handles) → 1 ≤ flight_in n hs → is_some (record_of n hs) ≡ true
flying_there n hs some = by (record_of n hs) some
  where
    by : (r : Option HandleRecord) → 1 ≤ (or_none n r).flight → is_some r ≡ true
    by None more = absurd (omega (arith, more))
    by (Some h) more = refl

-- one handle
module _ (q : ℕ) (n : NodeRef) (nodes : List NodeRef) (slots : List Slot) (d : DriverPart) (a : machine.Arriving) where
  -- what the serial bus has then
  abbrev shown : machine.Arriving → Arriving
  shown c = record { part = part_of c.part d; numbers = c.numbers }

  pub slot_alike : (t : Slot) → CanArrive q (n ∷ nodes) (t ∷ slots) a.part → (arrives (shown a) (n, t) ≡ shown (slot_arrives a (n, t))) × ((slot_arrives a (n, t)).refs ≡ a.refs)
  slot_alike slot.Unattached can = absurd can.filled.0
  slot_alike slot.Void can = (ap (λ ls. record { part = record (part_of a.part d) { lines = ls }; numbers = a.numbers ++ invalid ∷ [] }) (sym (lines_unexpected a.part.given (foreign a.part.me (n ∷ [])) a.part.handles can.numbered)), refl)
  slot_alike slot.Own can = (
    ap (λ k. record { part = part_of a.part d; numbers = a.numbers ++ k ∷ [] }) (own_number_is a.part d n.serial ∙ ap (λ b. cond b invalid (node_at a.part n.serial).number) (sym (can.untaken n (inl refl)))),
    refl,
  )
  slot_alike slot.Attached can =
      let alive = can.alive n (inl refl) in
      let there = flying_there n a.part.handles (at_flight can) in (
        ap (λ y. record { part = y; numbers = a.numbers ++ number_for n (part_of a.part d) ∷ [] }) (reference_comes n a.part d can.rising can.numbered there alive)
            ∙ ap (λ k. record { part = part_of (reference_by false a n).part d; numbers = a.numbers ++ k ∷ [] }) (reference_number n a.part d can.rising can.numbered there alive)
            ∙ ap (λ b. shown (reference_by b a n)) (sym alive),
        ap (λ b. (reference_by b a n).refs) alive,
      )
    where
      at_flight : CanArrive q (n ∷ nodes) (slot.Attached ∷ slots) a.part → 1 ≤ flight_in n a.part.handles
      at_flight can =
          let apart = can.filled.0 in
          let k = can.flies n apart in
          let l = times_cons n n nodes in
          let m : cond {A = ℕ} (same_ref n n) 1 0 ≡ 1 = ap (λ b. cond b 1 0) (same_ref_itself n) in
          omega (arith, k, l, m)

  -- what is left can arrive behind it
  numbered_then : (t : Slot) → CanArrive q (n ∷ nodes) (t ∷ slots) a.part → AreNumbered (slot_arrives a (n, t)).part.given (slot_arrives a (n, t)).part.handles
  numbered_then slot.Unattached can = absurd can.filled.0
  numbered_then slot.Void can = numbers_unexpected a.part.given (foreign a.part.me (n ∷ [])) a.part.handles can.numbered
  numbered_then slot.Own can = can.numbered
  numbered_then slot.Attached can =
      subst (λ b. AreNumbered (reference_by b a n).part.given (reference_by b a n).part.handles) (sym (can.alive n (inl refl)))
      (numbers_come a.part.given less_flight (λ h. refl) (λ h. refl) (λ h. refl) n a.part.handles can.numbered)

  alive_then : (t : Slot) (m : NodeRef) → CanArrive q (n ∷ nodes) (t ∷ slots) a.part → (record_or_none m a.part.handles).dead ≡ false → (record_or_none m (slot_arrives a (n, t)).part.handles).dead ≡ false
  alive_then slot.Unattached m can alive = absurd can.filled.0
  alive_then slot.Void m can alive = alive_unexpected m (foreign a.part.me (n ∷ [])) a.part.handles can.rising alive
  alive_then slot.Own m can alive = alive
  alive_then slot.Attached m can alive =
      subst (λ b. (record_or_none m (reference_by b a n).part.handles).dead ≡ false) (sym (can.alive n (inl refl)))
      (alive_kept n m (λ g. more_held (next_number a.part.given) (less_flight g)) (λ h. refl) (λ h. refl) a.part.handles can.rising alive)

  pub can_then : (t : Slot) → CanArrive q (n ∷ nodes) (t ∷ slots) a.part → CanArrive q nodes slots (slot_arrives a (n, t)).part
  can_then t can = record {
    me = (slot_rest a n t).me ∙ can.me;
    rising = slot_rising a n t can.rising;
    numbered = numbered_then t can;
    filled = can.filled.1;
    flies = λ m apart.
        let k = can.flies m apart in
        let l = times_cons m n nodes in
        let f = slot_flight q a n t m can.me can.filled.0 apart can.rising in
        omega (arith, k, l, f);
    alive = λ m there. alive_then t m can (can.alive m (inr there));
    untaken = λ m there. ap (λ ns. (get_or ns m.serial no_node).taken) (slot_rest a n t).nodes ∙ can.untaken m (inr there);
  }

-- all of them
module _ (q : ℕ) (d : DriverPart) where
  abbrev Alike : List NodeRef → List Slot → machine.Arriving → Type 0
  Alike nodes slots a =
      (fold arrives (record { part = part_of a.part d; numbers = a.numbers }) (zip nodes slots) ≡ record { part = part_of (fold slot_arrives a (zip nodes slots)).part d; numbers = (fold slot_arrives a (zip nodes slots)).numbers })
      × ((fold slot_arrives a (zip nodes slots)).refs ≡ a.refs)

  pub slots_alike : (nodes : List NodeRef) (slots : List Slot) (a : machine.Arriving) → CanArrive q nodes slots a.part → Alike nodes slots a
  slots_alike [] slots a can = (refl, refl)
  slots_alike (n ∷ nodes) [] a can = (refl, refl)
  slots_alike (n ∷ nodes) (t ∷ slots) a can =
      let one = slot_alike q n nodes slots d a t can in
      let rest = slots_alike nodes slots (slot_arrives a (n, t)) (can_then q n nodes slots d a t can) in
      (ap (λ b. fold arrives b (zip nodes slots)) one.0 ∙ rest.0, rest.1 ∙ one.1)
