-- The events that move a count: an attach, a commit, a drop, a reap, a release and a flush.
use Rattle.std.proofs.Common.{◌≡◌, ◌≢◌, refl, sym, ap, ◌∙◌, subst, ℕ, ◌+◌, ◌<◌, ◌≤◌, ◌==◌, Bool, true, false, cond, ◌&&◌, List, [], ◌∷◌, get_or, set, drop, length, is_some, Option, Some, None}
use Rattle.std.proofs.lemmas.List.{get_or-set_same, get_or-set_other}
use native.Mathlib.Omega.{arith}
use Rattle.b1_model.specs.declared.naming.Key.{Key}
use Rattle.b1_model.specs.declared.naming.NodeRef.{NodeRef}
use Rattle.b1_model.specs.declared.naming.Opening.{Opening}
use Rattle.b1_model.specs.declared.commands.Command.{Command}
use Rattle.b1_model.specs.declared.parts.Attach.{Attach}
use Rattle.b1_model.specs.declared.parts.Attach.TheVariants as attach
use Rattle.b1_model.specs.declared.parts.Slot.{Slot}
use Rattle.b1_model.specs.declared.parts.Slot.TheVariants as slot
use Rattle.b1_model.specs.declared.entries.Entry.{Entry}
use Rattle.b1_model.specs.declared.answers.Answer.{Answer}
use Rattle.b1_model.specs.declared.events.Action.TheVariants as act
use Rattle.b1_model.specs.declared.events.Outcome.TheVariants as out
use Rattle.b1_model.specs.declared.events.Phase.{Phase}
use Rattle.b1_model.specs.declared.events.Phase.TheVariants.{Starting, Attaching, Committing, Reaping, Flushing}
use Rattle.b1_model.specs.declared.events.Sending.{Sending}
use Rattle.b1_model.specs.declared.events.OwedDrop.{OwedDrop}
use Rattle.b1_model.specs.Names.{is_given}
use Rattle.b1_model.specs.MachineParts.{PeerPart, DriverPart, node_at, same_ref, is_odd, carried}
use Rattle.b1_model.specs.MachineTables.{count_of, held_node}
use Rattle.b1_model.specs.MachineSend.{attach_answer, attached_by, find_stage, committed_by}
use Rattle.b1_model.specs.MachineReceive.{is_released, dropped_refs, with_release_notice, has_dead, reaped_part, released_by, given_up}
use Rattle.b1_model.specs.MachineDestroy.{queued_items, held_items, flushed}
use Rattle.b1_model.specs.MachineDriver.{node_of_place, accepted_from, slot_of, with_slot}
use Rattle.b1_model.specs.MachineTook.{place_references}
use Rattle.b1_model.specs.MachineEvents.{number_of, limits_after}
use Rattle.b1_model.specs.MachineCounts.{amount_in, dead_amount, peer_amount, kept_from}
use Rattle.b1_step.specs.Ordered.{Rising}
use Rattle.b1_inv.specs.Words.{is_accepted_place}
use Rattle.b1_inv.specs.Sends.{slot_of_place}
use Rattle.b1_inv.specs.Numbers.{AreNumbered}
use Rattle.b1_inv_refs.proofs.Amounts.{Refs, slot_amount, slots_amount, nothing_of, refs_cons, owed_cons, owed_drops, dead_append, dead_cons}
use Rattle.b1_inv_refs.proofs.Kept.{at_place, accepted_is, slots_set, kept_filled, kept_attaching}
use Rattle.b1_inv_refs.proofs.Arrivals.{held_in}
use Rattle.b1_inv_refs.proofs.Counts.{attach_counts, drop_counts}
use Rattle.b1_inv_refs.proofs.Turns.{drop_turn}
use Rattle.b1_inv_refs.proofs.Peers.{attach_amount, drop_amount, commit_amount}
use Rattle.b1_inv_refs.proofs.GivenUp.{held_less, held_found, held_of, queued_amount, held_items_amount}
use Rattle.b1_inv_refs.proofs.Goes.{Balance, had, has_then, Goes_on, quiet}

same_tests : (a b : ℕ) (c : ℕ) → a ≡ b → (a == c) ≡ (b == c)
same_tests a b c same = ap (λ n. n == c) same

three_tests : (a b c : Bool) (n : ℕ) → cond a (n + cond (b && c) 1 0) 0 ≡ cond a n 0 + cond c (cond (a && b) 1 0) 0
three_tests true true true n = refl
three_tests true true false n = refl
three_tests true false true n = refl
three_tests true false false n = refl
three_tests false b true n = refl
three_tests false b false n = refl

dropped_tests : (a b c : Bool) (n m k : ℕ) → n + cond (b && c) k 0 ≡ m → cond a n 0 + cond ((a && b) && c) k 0 ≡ cond a m 0
dropped_tests true true true n m k is = is
dropped_tests true true false n m k is = is
dropped_tests true false c n m k is = is
dropped_tests false b c n m k is = refl

cond_sum : (b : Bool) (n m : ℕ) → cond b (n + m) 0 ≡ cond b n 0 + cond b m 0
cond_sum true n m = refl
cond_sum false n m = refl

module _ (o : Opening) (memory : Bool) (e : DriverPart) (x : PeerPart) (at : ℕ) (node : NodeRef) (q : ℕ) (up : Rising x.handles) (command : Command) where
  -- ---- an attach

  module _ (sending : Sending) (place j : ℕ) (accepted : is_accepted_place sending.places place ≡ true) (in_slots : place < length sending.slots) (in_row : j < length (get_or sending.slots place []))
      (in_with : j < length sending.begun.with) (blank : slot_of_place sending place j ≡ slot.Unattached) where
    abbrev with : NodeRef
    with = node_of_place sending.begun.with j

    abbrev to : NodeRef
    to = node_of_place sending.begun.to place

    abbrev row : Attach → List Slot
    row a = set (get_or sending.slots place []) j (slot_of a)

    others : (a : Attach) (there : ℕ) → there ≢ place → amount_in node (place_references (with_slot sending place j a) there) ≡ amount_in node (place_references sending there)
    others a there apart = ap (λ l. slots_amount node sending.begun.with l) (get_or-set_other sending.slots place there (row a) [] apart)

    here_more : (a : Attach) → amount_in node (place_references (with_slot sending place j a) place) ≡ amount_in node (place_references sending place) + slot_amount node with (slot_of a)
    here_more a = ap (λ l. slots_amount node sending.begun.with l) (get_or-set_same sending.slots place (row a) [] in_slots) ∙ slots_set node sending.begun.with (get_or sending.slots place []) j (slot_of a) in_with in_row blank

    attached_kept : (a : Attach) → has_then o memory e x at node q command (Attaching sending place j) [] (out.Attach a) ≡ had o memory e x at node q (Attaching sending place j) [] + cond (to.owner == q) (slot_amount node with (slot_of a)) 0
    attached_kept a =
        let one = kept_attaching node q (with_slot sending place j a) place (j + 1) in
        let two = kept_filled node q sending (with_slot sending place j a) refl place (slot_amount node with (slot_of a)) (others a) (here_more a) sending.places place 0 (omega arith) (accepted_is sending.places place accepted) in
        omega (arith, one, two)

    none_more : (t : Slot) → slot_amount node with t ≡ 0 → cond (to.owner == q) (slot_amount node with t) 0 ≡ 0
    none_more t is = ap (λ n. cond (to.owner == q) n 0) is ∙ nothing_of node (to.owner == q)

    by_answer : (a : Attach) → at ≡ with.owner → with.serial < length x.nodes → to.owner < length (node_at x with.serial).counts
        → Balance at x (attached_by a x with.serial to.owner) (had o memory e x at node q (Attaching sending place j) []) (has_then o memory e x at node q command (Attaching sending place j) [] (out.Attach a)) node q
    by_answer attach.Own here within wide =
        let one = attached_kept attach.Own in
        let two = none_more slot.Own (nothing_of node (same_ref with node)) in
        quiet o memory e x at node q x _ _ (λ s h. refl) refl (omega (arith, one, two))
    by_answer (attach.Void stamp) here within wide =
        let one = attached_kept (attach.Void stamp) in
        let two = none_more slot.Void (nothing_of node (same_ref with node)) in
        quiet o memory e x at node q x _ _ (λ s h. refl) refl (omega (arith, one, two))
    by_answer attach.Counted here within wide =
        let one = attached_kept attach.Counted in
        let two = ap (λ n. cond (at == node.owner) n 0) (attach_counts x with.serial to.owner node.serial q within wide) ∙ ap (λ b. cond b (count_of (node_at x node.serial) q + cond ((with.serial == node.serial) && (to.owner == q)) 1 0) 0) (same_tests at with.owner node.owner here) in
        let three = three_tests (with.owner == node.owner) (with.serial == node.serial) (to.owner == q) (count_of (node_at x node.serial) q) in
        let four = ap (λ b. cond b (count_of (node_at x node.serial) q) 0) (same_tests at with.owner node.owner here) in
        let five = ap (λ n. cond (at == q) n 0) (attach_amount node x up attach.Counted with.serial to.owner) in
        omega (arith, one, two, three, four, five)

    pub attach_goes : at ≡ with.owner → with.serial < length x.nodes → to.owner < length (node_at x with.serial).counts → Goes_on o memory e x at node q command (Attaching sending place j) [] (act.Attach with.owner with.serial to.owner)
    attach_goes = by_answer (attach_answer x with.serial to.owner)

  -- ---- a commit

  module _ (sending : Sending) (stamp place : ℕ) (here : at ≡ (node_of_place sending.begun.to place).owner) (even : is_odd stamp ≡ false)
      (kept : kept_from node q sending place 0 sending.places ≡ at_place node q sending place + kept_from node q sending (accepted_from (place + 1) sending.places) 0 sending.places) where
    by_found : (r : Option (Key × Entry)) → find_stage x e.me place ≡ r → ((f : Key × Entry) → r ≡ Some f → carried f.1 ≡ sending.begun.with)
        → Balance at x (committed_by r x e.me place stamp (get_or sending.slots place [])) (had o memory e x at node q (Committing sending stamp place) []) (has_then o memory e x at node q command (Committing sending stamp place) [] (out.Commit (is_some r))) node q
    by_found None found same =
        let one = owed_drops node q (node_of_place sending.begun.to place).owner stamp (place_references sending place) in
        quiet o memory e x at node q x _ _ (λ s h. refl) refl (omega (arith, kept, one))
    by_found (Some f) found same =
        let one = commit_amount node x up f e.me place stamp (get_or sending.slots place []) found even in
        let two = ap (λ l. slots_amount node l (get_or sending.slots place [])) (same f refl) in
        let three = ap (λ n. cond (at == q) n 0) (one ∙ ap (λ n. peer_amount node x + n) two) ∙ cond_sum (at == q) (peer_amount node x) (slots_amount node sending.begun.with (get_or sending.slots place [])) in
        let four = ap (λ b. cond b (slots_amount node sending.begun.with (get_or sending.slots place [])) 0) (same_tests at (node_of_place sending.begun.to place).owner q here) in
        omega (arith, kept, three, four)

    pub commit_goes : (peer : ℕ) → ((f : Key × Entry) → find_stage x e.me place ≡ Some f → carried f.1 ≡ sending.begun.with) → Goes_on o memory e x at node q command (Committing sending stamp place) [] (act.Commit peer place stamp)
    commit_goes peer same = by_found (find_stage x e.me place) refl same

  -- ---- a drop

  pub drop_goes : (phase : Phase) (one : OwedDrop) (rest : List OwedDrop) → at ≡ one.node.owner → one.node.serial < length x.nodes → one.holder < length (node_at x one.node.serial).counts → one.amount ≤ count_of (node_at x one.node.serial) one.holder
      → Goes_on o memory e x at node q command phase (one ∷ rest) (act.DropRefs one.node.owner one.node.serial one.holder one.amount one.clock)
  drop_goes phase one rest here within wide enough =
      let b = is_released (dropped_refs x one.node.serial one.holder one.amount one.clock) one.node.serial in
      let a = drop_counts b x one.node.serial one.holder one.amount one.clock node.serial q within wide enough in
      let c = dropped_tests (one.node.owner == node.owner) (one.node.serial == node.serial) (one.holder == q) _ _ one.amount a in
      let d = ap (λ t. cond t (count_of (node_at (with_release_notice b (dropped_refs x one.node.serial one.holder one.amount one.clock) one.node.serial) node.serial) q) 0) (same_tests at one.node.owner node.owner here) in
      let f = ap (λ t. cond t (count_of (node_at x node.serial) q) 0) (same_tests at one.node.owner node.owner here) in
      let g = owed_cons node q one rest in
      let h = drop_turn node q e.me command phase in
      let i = ap (λ n. cond (at == q) n 0) (drop_amount node x up b one.node.serial one.holder one.amount one.clock) in
      omega (arith, c, d, f, g, h, i)

  -- ---- a reap

  pub reap_goes : (got : Answer) → at ≡ e.me → Goes_on o memory e x at node q command (Reaping got) [] act.Reap
  reap_goes got here = by_dead x.dead refl
    where
      by_dead : (dead : List Refs) → x.dead ≡ dead → Balance at x (reaped_part x) (had o memory e x at node q (Reaping got) []) (has_then o memory e x at node q command (Reaping got) [] (out.Reap (elim dead [ [] ↦ None | item ∷ rest ↦ Some (record { drops = item; clock = x.clock }) ]) (has_dead (reaped_part x)))) node q
      by_dead [] is =
          let one : dead_amount node (drop 1 x.dead) ≡ dead_amount node x.dead = ap (λ d. dead_amount node (drop 1 d)) is ∙ sym (ap (dead_amount node) is) in
          quiet o memory e x at node q (reaped_part x) _ _ (λ s h. refl) (omega (arith, one)) refl
      by_dead (item ∷ rest) is =
          let one : dead_amount node (drop 1 x.dead) ≡ dead_amount node rest = ap (λ d. dead_amount node (drop 1 d)) is in
          let two : dead_amount node x.dead ≡ amount_in node item + dead_amount node rest = ap (dead_amount node) is ∙ dead_cons node item rest in
          let three = owed_drops node q e.me x.clock item in
          let four = ap (λ b. cond b (amount_in node item) 0) (same_tests at e.me q here) in
          let five : peer_amount node x ≡ peer_amount node (reaped_part x) + amount_in node item = omega (arith, one, two) in
          let six = ap (λ n. cond (at == q) n 0) five ∙ cond_sum (at == q) (peer_amount node (reaped_part x)) (amount_in node item) in
          omega (arith, three, four, six)

  -- ---- a release

  module _ (all : AreNumbered x.given x.handles) (here : at ≡ e.me) where
    one_given : (number : ℕ) (other : NodeRef) → held_node number x.handles ≡ Some other
        → Balance at x (given_up true (Some other) x) (had o memory e x at node q Starting []) (has_then o memory e x at node q command Starting [] (out.Release (released_by true (Some other) x number))) node q
    one_given number other found =
        let k = held_found x.given number x.handles other all found in
        let enough : 1 ≤ held_in other x.handles = subst (λ n. 1 ≤ held_in n x.handles) k.2 (let l = held_of x.handles k.0 up k.1 in omega (arith, l, k.3)) in
        let one = held_less other node x.handles up enough in
        let two = owed_drops node q e.me x.clock ((other, 1) ∷ []) in
        let three : amount_in node ((other, 1) ∷ []) ≡ cond (same_ref other node) 1 0 + 0 = refs_cons node (other, 1) [] in
        let single : amount_in node ((other, 1) ∷ []) ≡ cond (same_ref other node) 1 0 = omega (arith, three) in
        let four = ap (λ n. cond (e.me == q) n 0) single in
        let five = ap (λ b. cond b (cond {A = ℕ} (same_ref other node) 1 0) 0) (same_tests at e.me q here) in
        let six : peer_amount node x ≡ peer_amount node (given_up true (Some other) x) + cond (same_ref other node) 1 0 = omega (arith, one) in
        let seven = ap (λ n. cond (at == q) n 0) six ∙ cond_sum (at == q) (peer_amount node (given_up true (Some other) x)) (cond (same_ref other node) 1 0) in
        omega (arith, two, four, five, seven)

    by_held : (number : ℕ) (b : Bool) (held : Option NodeRef) → held_node number x.handles ≡ held
        → Balance at x (given_up b held x) (had o memory e x at node q Starting []) (has_then o memory e x at node q command Starting [] (out.Release (released_by b held x number))) node q
    by_held number false held found = quiet o memory e x at node q x _ _ (λ s h. refl) refl refl
    by_held number true None found = quiet o memory e x at node q x _ _ (λ s h. refl) refl refl
    by_held number true (Some other) found = one_given number other found

    pub release_goes : Goes_on o memory e x at node q command Starting [] act.Release
    release_goes = by_held (number_of command) (is_given (number_of command)) (held_node (number_of command) x.handles) refl

  -- ---- a flush

  pub flush_goes : (stamp : Option ℕ) → AreNumbered x.given x.handles → Goes_on o memory e x at node q command (Flushing stamp) [] act.Flush
  flush_goes stamp all =
      let one = dead_append node (queued_items x.queue x.dead) (held_items x.given x.handles) in
      let two = queued_amount node x.queue x.dead in
      let three = held_items_amount node x.given x.handles all up in
      quiet o memory e x at node q (flushed x (limits_after command x.limits)) _ _ (λ s h. refl) (omega (arith, one, two, three)) refl
