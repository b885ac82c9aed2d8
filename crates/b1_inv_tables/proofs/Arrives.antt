-- The slots of a message arrive in turn: the numbers delivered are those that the record's contents have, and the table behind them has the lines of the records.
use Rattle.std.proofs.Common.{◌≡◌, ◌≢◌, refl, sym, ap, subst, ◌∙◌, ℕ, zero, suc, ◌≤◌, Bool, cond, List, [], ◌∷◌, ◌++◌, map, fold, zip, Option, Some, None, option_map, append-nil}
use Rattle.std.specs.Prelude.{slice_get}
use Rattle.std.proofs.lemmas.List.{append_assoc}
use native.Mathlib.Omega.{arith}
use Rattle.b1_model.specs.declared.naming.NodeRef.{NodeRef}
use Rattle.b1_model.specs.declared.parts.Slot.{Slot}
use Rattle.b1_model.specs.Names.{Node, Name}
use Rattle.b1_model.specs.Ledger.{Table, received, received_all}
use Rattle.b1_model.specs.Legal.{arrives, arrived}
use Rattle.b1_model.specs.MachineParts.{NodePart, record_or_none, same_ref}
use Rattle.b1_model.specs.MachineReceive.{Arriving, slot_arrives}
use Rattle.b1_step.specs.Ordered.{Rising}
use Rattle.b1_step.proofs.Orders.{same_ref_itself}
use Rattle.b1_inv.specs.Numbers.{AreNumbered}
use Rattle.b1_inv.specs.References.{AreFilled, times_in}
use Rattle.b1_inv_record.specs.Epochs.{ref_of}
use Rattle.b1_inv_refs.proofs.Views.{Handles, times_cons}
use Rattle.b1_inv_refs.proofs.Arrivals.{SameRest, InFlight, flight_in, slot_rest, slot_rising, slot_flight}
use Rattle.b1_inv_tables.proofs.Agrees.{IsTable}
use Rattle.b1_inv_tables.proofs.Slots.{slot_dead, slot_numbered, IsJudged, OwnNumbers, SlotComes, slot_comes}

-- the slots of a message, each of a node, as the record judges them
abbrev pub AreJudged : (Node → Bool) → List Name → (NodeRef → Bool) → List NodePart → List (Option Node) → List Slot → Type 0
AreJudged late known dead parts carried slots = (j : ℕ) (x : Node) (s : Slot) → slice_get carried j ≡ Some (Some x) → slice_get slots j ≡ Some s → IsJudged late known dead parts s x

-- whether the record of each carried foreign node is dead
abbrev pub DeadIs : ℕ → (NodeRef → Bool) → List NodeRef → Handles → Type 0
DeadIs q dead nodes hs = (m : NodeRef) → m.owner ≢ q → 1 ≤ times_in m nodes → (record_or_none m hs).dead ≡ dead m

-- what the arrival of all slots makes
pub record SlotsCome (q : ℕ) (late : Node → Bool) (known : List Name) (dead : NodeRef → Bool) (a b : Arriving) (t : Table) (nodes : List NodeRef) (slots : List Slot) (carried : List (Option Node)) : Type 0 where
  pub numbers : List ℕ
  pub added : b.numbers ≡ a.numbers ++ numbers
  pub table : IsTable (received_all carried numbers t) b.part.given b.part.handles
  pub judged : AreJudged late known dead a.part.nodes carried slots → DeadIs q dead nodes a.part.handles → numbers ≡ arrived late q known carried t

module _ (q : ℕ) (late : Node → Bool) (known : List Name) (dead : NodeRef → Bool) where
  -- one slot more in front
  comes_first : (a : Arriving) (t : Table) (x : Node) (s : Slot) (nodes : List NodeRef) (slots : List Slot) (carried : List (Option Node)) (b : Arriving)
      → (one : SlotComes q late known dead a (slot_arrives a (ref_of x, s)) t s x)
      → (SlotsCome q late known dead (slot_arrives a (ref_of x, s)) b (received one.number (Some x) t) nodes slots carried)
      → (AreJudged late known dead a.part.nodes carried slots → AreJudged late known dead (slot_arrives a (ref_of x, s)).part.nodes carried slots)
      → (DeadIs q dead (ref_of x ∷ nodes) a.part.handles → DeadIs q dead nodes (slot_arrives a (ref_of x, s)).part.handles)
      → SlotsCome q late known dead a b t (ref_of x ∷ nodes) (s ∷ slots) (Some x ∷ carried)
  comes_first a t x s nodes slots carried b one further same_parts same_dead = record {
    numbers = one.number ∷ further.numbers;
    added = further.added ∙ ap (λ ns. ns ++ further.numbers) one.added ∙ append_assoc a.numbers (one.number ∷ []) further.numbers;
    table = further.table;
    judged = λ judged is_dead.
        let first : one.number ≡ arrives late q known t (Some x) = one.judged (judged zero x s refl refl) (λ apart. is_dead (ref_of x) apart first_times) in
        let rest = further.judged (same_parts (λ j y u is also. judged (suc j) y u is also)) (same_dead is_dead) in
        ap (λ ns. one.number ∷ ns) rest ∙ ap (λ n. n ∷ arrived late q known carried (received n (Some x) t)) first;
  }
    where
      first_times : 1 ≤ times_in (ref_of x) (ref_of x ∷ nodes)
      first_times = let more = times_cons (ref_of x) (ref_of x) nodes in let one_time : cond {A = ℕ} (same_ref (ref_of x) (ref_of x)) 1 0 ≡ 1 = ap (λ c. cond c 1 0) (same_ref_itself (ref_of x)) in omega (arith, more, one_time)

  -- the slots behind the first arrive at any part that fits them
  abbrev Next : List NodeRef → List Slot → List (Option Node) → Type 0
  Next nodes slots carried = (b : Arriving) (u : Table) → b.part.me ≡ q → Rising b.part.handles → AreNumbered b.part.given b.part.handles → OwnNumbers b.part.nodes → InFlight q nodes b.part.handles → IsTable u b.part.given b.part.handles
      → SlotsCome q late known dead b (fold slot_arrives b (zip nodes slots)) u nodes slots carried

  module _ (a : Arriving) (t : Table) (me : a.part.me ≡ q) (up : Rising a.part.handles) (all : AreNumbered a.part.given a.part.handles) (own : OwnNumbers a.part.nodes) (k : IsTable t a.part.given a.part.handles)
      (x : Node) (s : Slot) (nodes : List NodeRef) (slots : List Slot) (carried : List (Option Node)) where
    -- the part after the first slot
    abbrev then_part : Arriving
    then_part = slot_arrives a (ref_of x, s)

    module _ (fills : AreFilled q (ref_of x ∷ nodes) (s ∷ slots)) (fly : InFlight q (ref_of x ∷ nodes) a.part.handles) (next : Next nodes slots carried) where
      -- what the first slot leaves of the part
      rest : SameRest a.part then_part.part
      rest = slot_rest a (ref_of x) s

      -- a foreign node of the first slot is in flight
      some_flight : x.owner ≢ q → 1 ≤ flight_in (ref_of x) a.part.handles
      some_flight apart =
          let low = fly (ref_of x) apart in
          let more = times_cons (ref_of x) (ref_of x) nodes in
          let one_time : cond {A = ℕ} (same_ref (ref_of x) (ref_of x)) 1 0 ≡ 1 = ap (λ c. cond c 1 0) (same_ref_itself (ref_of x)) in
          omega (arith, low, more, one_time)

      -- the first slot arrives
      one : SlotComes q late known dead a then_part t s x
      one = slot_comes q late known dead a t x up all k s fills.0 own some_flight

      -- the nodes of the slots behind are in flight
      left : InFlight q nodes then_part.part.handles
      left m apart =
          let low = fly m apart in
          let more = times_cons m (ref_of x) nodes in
          let f = slot_flight q a (ref_of x) s m me fills.0 apart up in
          omega (arith, low, more, f)

      -- and their records are dead as before
      dead_left : DeadIs q dead (ref_of x ∷ nodes) a.part.handles → DeadIs q dead nodes then_part.part.handles
      dead_left is_dead m apart some =
          let more = times_cons m (ref_of x) nodes in
          let low = left m apart in
          slot_dead a (ref_of x) m s up (omega (arith, low, some)) ∙ is_dead m apart (omega (arith, more, some))

      -- the first slot, then those behind it
      at_node : SlotsCome q late known dead a (fold slot_arrives then_part (zip nodes slots)) t (ref_of x ∷ nodes) (s ∷ slots) (Some x ∷ carried)
      at_node =
          comes_first a t x s nodes slots carried (fold slot_arrives then_part (zip nodes slots)) one
          (next then_part (received one.number (Some x) t) (rest.me ∙ me) (slot_rising a (ref_of x) s up) (slot_numbered a (ref_of x) s all) (subst OwnNumbers (sym rest.nodes) own) left one.table)
          (λ judged. subst (λ parts. AreJudged late known dead parts carried slots) (sym rest.nodes) judged) dead_left

    -- the same, by the carried node
    of_ref : (m : NodeRef) → ref_of x ≡ m → AreFilled q (m ∷ nodes) (s ∷ slots) → InFlight q (m ∷ nodes) a.part.handles → Next nodes slots carried
        → SlotsCome q late known dead a (fold slot_arrives (slot_arrives a (m, s)) (zip nodes slots)) t (m ∷ nodes) (s ∷ slots) (Some x ∷ carried)
    of_ref m is fills fly next =
        subst (λ r. SlotsCome q late known dead a (fold slot_arrives (slot_arrives a (r, s)) (zip nodes slots)) t (r ∷ nodes) (s ∷ slots) (Some x ∷ carried)) is
        (at_node (subst (λ r. AreFilled q (r ∷ nodes) (s ∷ slots)) (sym is) fills) (subst (λ r. InFlight q (r ∷ nodes) a.part.handles) (sym is) fly) next)

  -- all slots of a message arrive
  pub slots_come : (nodes : List NodeRef) (slots : List Slot) (carried : List (Option Node)) (a : Arriving) (t : Table) → a.part.me ≡ q → Rising a.part.handles → AreNumbered a.part.given a.part.handles → OwnNumbers a.part.nodes → AreFilled q nodes slots → InFlight q nodes a.part.handles
      → map (option_map ref_of) carried ≡ map Some nodes → IsTable t a.part.given a.part.handles
      → SlotsCome q late known dead a (fold slot_arrives a (zip nodes slots)) t nodes slots carried
  slots_come [] [] [] a t me up all own filled flies same k = record { numbers = []; added = sym (append-nil a.numbers); table = k; judged = λ judged is_dead. refl }
  slots_come [] [] (z ∷ carried) a t me up all own filled flies same k = absurd (cc same)
  slots_come [] (s ∷ slots) carried a t me up all own filled flies same k = absurd filled
  slots_come (n ∷ nodes) [] carried a t me up all own filled flies same k = absurd filled
  slots_come (n ∷ nodes) (s ∷ slots) [] a t me up all own filled flies same k = absurd (cc same)
  slots_come (n ∷ nodes) (s ∷ slots) (None ∷ carried) a t me up all own filled flies same k = absurd (cc same)
  slots_come (n ∷ nodes) (s ∷ slots) (Some x ∷ carried) a t me up all own filled flies same k =
      let node_same : ref_of x ≡ n = cc same in
      let rest_same : map (option_map ref_of) carried ≡ map Some nodes = cc same in
      of_ref a t me up all own k x s nodes slots carried n node_same filled flies
      (λ b u next_me next_up next_all next_own left table. slots_come nodes slots carried b u next_me next_up next_all next_own filled.1 left rest_same table)
