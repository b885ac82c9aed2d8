-- While a place of a SEND waits, what its peer took in the node's epoch is not above what the SEND has collected, over a step.
use Rattle.std.proofs.Common.{◌≡◌, ◌≢◌, refl, sym, ap, subst, ◌∙◌, inl, inr, ℕ, ◌%◌, ◌<◌, ◌≤◌, Bool, true, false, List, [], ◌∷◌, length, Option, Some, None}
use Rattle.std.specs.Prelude.{slice_get, ◌==◌}
use Rattle.std.proofs.lemmas.Option.{get_or_from_slice_get}
use native.Mathlib.Omega.{arith}
use Rattle.b1_model.specs.declared.commands.Command.{Command}
use Rattle.b1_model.specs.declared.naming.Key.{Key}
use Rattle.b1_model.specs.declared.naming.NodeRef.{NodeRef}
use Rattle.b1_model.specs.declared.naming.Opening.{Opening}
use Rattle.b1_model.specs.declared.answers.Reason.{Reason}
use Rattle.b1_model.specs.declared.parts.Begun.{Begun}
use Rattle.b1_model.specs.declared.events.Doing.{Doing}
use Rattle.b1_model.specs.declared.events.OwedDrop.{OwedDrop}
use Rattle.b1_model.specs.declared.events.Phase.{Phase}
use Rattle.b1_model.specs.declared.events.Phase.TheVariants.{Starting, Staging, Unstaging, Attaching, Stamping, Syncing, Committing}
use Rattle.b1_model.specs.declared.records.Call.{Call}
use Rattle.b1_model.specs.declared.answers.Answer.{Answer}
use Rattle.b1_model.specs.declared.answers.Answer.TheVariants as ans
use Rattle.b1_model.specs.declared.answers.Receipt.TheVariants as rec
use Rattle.b1_model.specs.Names.{calls_of, epoch_at}
use Rattle.b1_model.specs.Ledger.{got_key}
use Rattle.b1_model.specs.Legal.{seen_stamp}
use Rattle.b1_model.specs.MachineParts.{PeerPart, DriverPart, State, is_odd}
use Rattle.b1_model.specs.MachineSend.{stage_refusal}
use Rattle.b1_model.specs.MachineDriver.{next_action, no_ref, node_of_place, peer_of, send_of}
use Rattle.b1_model.specs.MachineEvents.{stage_by, begun_of, collected_of, user_of}
use Rattle.b1_model.specs.MachineStep.{Step, opening_state, record_of_state}
use Rattle.b1_step.proofs.Lists.{has_at, has_all}
use Rattle.b1_inv.specs.Words.{IsPeer, IsDriver, IsMade, waits_at}
use Rattle.b1_inv.specs.Sound.{IsSound}
use Rattle.b1_inv_record.specs.Entries.{PendingAboveTaken}
use Rattle.b1_inv_record.specs.Epochs.{epoch_now, epoch_of_node, is_unstaging}
use Rattle.b1_inv_record.specs.Right.{IsRight}
use Rattle.b1_inv_tools.proofs.Leaves.{driver_cases}
use Rattle.b1_inv_tools.proofs.Openings.{opening_idle}
use Rattle.b1_inv_sends.proofs.Once.{stage_parts}
use Rattle.b1_inv_notices.proofs.Turns.{opened, answered, took_leaves, parts, going_doing, going_answer}
use Rattle.b1_inv_cover.proofs.Collects.{holds, Collected, MoreIn, more_none, more_turn}
use Rattle.b1_inv_destroys.proofs.Nodes.{is_recv}
use Rattle.b1_inv_destroys.proofs.Taken.{is_starting, starting_is}
use Rattle.b1_inv_entries.proofs.Behind.{before_low, message_no_own}
use Rattle.b1_inv_entries.proofs.Calls.{IsNewCall, call_cases}
use Rattle.b1_inv_entries.proofs.EpochsStay.{epochs_stay}
use Rattle.b1_inv_entries.proofs.Keeping.{recv_staged}
use Rattle.b1_inv_entries.proofs.NodeEpochs.{present_first}
use Rattle.b1_inv_entries.proofs.Pending.{Placed, place_waited}
use Rattle.b1_inv_entries.proofs.PendingKept.{begun_shape, placed_there}
use Rattle.b1_inv_entries.proofs.Receipts.{receipt_taken}
use Rattle.b1_inv_entries.proofs.Removed.{taken_before}

waits_holds : (phase : Phase) (at : ℕ) → waits_at phase at ≡ true → holds phase ≡ true
waits_holds (Staging begun places collected) at is = refl
waits_holds (Unstaging begun places refused place) at is = refl
waits_holds (Attaching sending place slot) at is = refl
waits_holds (Stamping sending) at is = refl
waits_holds (Syncing sending stamp place) at is = refl
waits_holds (Committing sending stamp place) at is = refl
waits_holds phase at is = absurd (cc is)

-- a RECV is next where its command begins
pub recv_starting : (d : DriverPart) (command : Command) (phase : Phase) (owed : List OwedDrop) → is_recv (next_action (opened d command phase owed)) ≡ true → is_starting phase ≡ true
recv_starting d command phase (one ∷ rest) is = absurd (cc is)
recv_starting d command Starting [] is = refl
recv_starting d command phase [] is = absurd (cc is)

seen_key : (a : Answer) (key : Key) → got_key a ≡ Some key → seen_stamp a ≡ Some key.stamp
seen_key (ans.Got (rec.Message one number offset handles payload)) key is = let same : one ≡ key = cc is in ap (λ z. Some z.stamp) same
seen_key (ans.Got (rec.Destroyed one number)) key is = let same : one ≡ key = cc is in ap (λ z. Some z.stamp) same
seen_key a key is = absurd (cc is)

even_of : (n : ℕ) → is_odd n ≡ false → n % 2 ≡ 0
even_of n is = let apart : (n % 2 == 1) ≡ false = is in grind (arith, apart)

module _ (o : Opening) (memory : Bool) (d : DriverPart) (command : Command) (x : PeerPart) (at : ℕ) (after : Phase) where
  at_stage : (r : Option Reason) (wants : Bool) (begun : Begun) (places : List (Option Reason)) (collected user serial : ℕ) (payload : List ℕ) (nodes : List NodeRef)
      → Placed (Staging begun places collected) (stage_by r wants d.me user (length places) serial payload nodes x).0 at (begun_of after)
      → Collected (Staging begun places collected) (stage_by r wants d.me user (length places) serial payload nodes x).0 after → x.clock ≤ collected_of after
  at_stage (Some r) wants begun places collected user serial payload nodes placed got = absurd placed
  at_stage None true begun places collected user serial payload nodes placed got = absurd placed
  at_stage None false begun places collected user serial payload nodes placed got = got

  -- a stage's clock is collected
  placed_clock : (phase : Phase) (owed : List OwedDrop) → Placed phase (answered o memory d command phase owed x).0 at (begun_of after) → Collected phase (answered o memory d command phase owed x).0 after → x.clock ≤ collected_of after
  placed_clock (Staging begun places collected) [] placed got =
      at_stage (stage_refusal x (user_of o d.me) (node_of_place begun.to (length places)).serial (length (send_of command).payload) (length begun.with)) memory begun places collected (user_of o d.me) (node_of_place begun.to (length places)).serial (send_of command).payload begun.with placed got
  placed_clock (Staging begun places collected) (one ∷ rest) placed got = absurd placed
  placed_clock phase owed placed got = absurd placed

  -- and it is no RECV
  placed_sends : (phase : Phase) (owed : List OwedDrop) → Placed phase (answered o memory d command phase owed x).0 at (begun_of after) → is_starting phase ≡ false
  placed_sends (Staging begun places collected) owed placed = refl
  placed_sends phase owed placed = absurd placed

module _ {o : Opening} {s : State} {p : ℕ} {c : Option Command} {t : State} (sound : IsSound o s) (right : IsRight o s) (step : Step o s p c t) where
  more : MoreIn (parts step).command (parts step).phase (going_answer step) step.new_driver.doing
  more =
      subst (λ e. MoreIn (parts step).command (parts step).phase (going_answer step) e.doing) (parts step).is_driver
      (took_leaves (MoreIn (parts step).command (parts step).phase (going_answer step)) (parts step).command (λ phase may h. more_none (parts step).command (parts step).phase (going_answer step)) step.driver (parts step).phase step.driver.owed (going_answer step)
      (more_turn (parts step).command step.driver.me (parts step).phase (going_answer step)))

  -- a new receipt is taken where its RECV begins
  received_starts : (q k : ℕ) (d : Call) (key : Key) → IsNewCall step q k d → got_key d.answer ≡ Some key → is_starting (parts step).phase ≡ true
  received_starts q k d key (new, here, same, epoch) got =
      let taken = receipt_taken step new key (ap (λ z. got_key z.answer) (sym same) ∙ got) in
      recv_starting step.driver (parts step).command (parts step).phase step.driver.owed (ap is_recv taken.0)

  -- ---- another driver's SEND

  -- what is taken now is before what the SEND has staged there
  new_below : (r at k : ℕ) (e : DriverPart) (doing : Doing) (node : NodeRef) (d : Call) (key : Key) → IsDriver s r e → e.doing ≡ Some doing → slice_get (begun_of doing.phase).to at ≡ Some node → waits_at doing.phase at ≡ true → is_unstaging doing.phase ≡ false
      → IsNewCall step node.owner k d → got_key d.answer ≡ Some key → epoch_at (record_of_state t) node.owner k ≡ epoch_of_node o s node → key.stamp ≤ collected_of doing.phase
  new_below r at k e doing node d key is_driver is_open is waits un (new, here, same, epoch) got present =
      let taken = receipt_taken step new key (ap (λ z. got_key z.answer) (sym same) ∙ got) in
      let at_own : step.at ≡ p = sym (parts step).is_at ∙ ap (λ a. peer_of step.driver.me a) taken.0 ∙ sound.numbered.drivers p step.driver step.is_driver in
      let is_peer : IsPeer s node.owner step.peer = subst (λ q. IsPeer s q step.peer) (at_own ∙ sym here) step.is_peer in
      let first = present_first o s node (sym present ∙ epoch ∙ ap (epoch_now s) (sym here)) in
      let g = right.entries.pending.staged r at e doing node step.peer is_driver is_open is waits is_peer first in
      let stage = stage_parts r at g.0 g.2 in
      let stays = recv_staged step.peer g.0 stage.staged g.1 in
      let before = taken_before step.peer taken.1.0 g.0 (right.parts.keys.ascending step.at step.peer step.is_peer) taken.1.1 stays in
      let low = before_low taken.1.0.0 g.0.0 before in
      let high = right.clocks.staged.collected step.at step.peer g.0 e doing step.is_peer g.1 stage.staged (message_no_own g.0.1 stage.message) (subst (λ q. IsDriver s q e) (sym stage.origin_is) is_driver) is_open un in
      let even = even_of taken.1.0.0.stamp taken.1.1.2 in
      let clock = (sound.clocks.collected r e doing is_driver is_open).0 in
      let stamp : taken.1.0.0.stamp ≡ key.stamp = ap (λ z. z.stamp) taken.1.2 in
      omega (arith, low, high, even, clock, stamp)

  old_waiting : (r at k : ℕ) (e : DriverPart) (doing : Doing) (node : NodeRef) (d : Call) (key : Key) → r ≢ p → IsDriver s r e → e.doing ≡ Some doing → slice_get (begun_of doing.phase).to at ≡ Some node → waits_at doing.phase at ≡ true → is_unstaging doing.phase ≡ false
      → slice_get (calls_of (record_of_state t) node.owner) k ≡ Some d → got_key d.answer ≡ Some key → epoch_at (record_of_state t) node.owner k ≡ epoch_of_node o t node → key.stamp ≤ collected_of doing.phase
  old_waiting r at k e doing node d key apart is_driver is_open is waits un at_call got present =
      let made = made_part r at e doing node is_driver is_open is waits in
      let epochs = epochs_stay sound right step node made.0 made.1 made.2 in
      elim (call_cases step sound node.owner k d at_call) [
        | inl old ↦ right.entries.above.above r at k e doing node d key is_driver is_open is waits un old.0 got (sym old.1 ∙ present ∙ epochs)
        | inr new ↦ new_below r at k e doing node d key is_driver is_open is waits un new got (present ∙ epochs)
      ]
    where
      made_part : (r at : ℕ) (e : DriverPart) (doing : Doing) (node : NodeRef) → IsDriver s r e → e.doing ≡ Some doing → slice_get (begun_of doing.phase).to at ≡ Some node → waits_at doing.phase at ≡ true → (x : PeerPart) × IsPeer s node.owner x × (node.serial < length x.nodes)
      made_part r at e doing node is_driver is_open is waits =
          let begun = begun_shape s doing.command doing.phase at (sound.sends.shape r e doing is_driver is_open) waits in
          has_all (IsMade s) (begun_of doing.phase).to node begun.to (has_at (begun_of doing.phase).to at node is)

  -- ---- the stepping driver's SEND

  own_waiting : (at k : ℕ) (doing : Doing) (node : NodeRef) (d : Call) (key : Key) → step.new_driver.doing ≡ Some doing → slice_get (begun_of doing.phase).to at ≡ Some node → waits_at doing.phase at ≡ true → is_unstaging doing.phase ≡ false
      → slice_get (calls_of (record_of_state t) node.owner) k ≡ Some d → got_key d.answer ≡ Some key → epoch_at (record_of_state t) node.owner k ≡ epoch_of_node o t node → key.stamp ≤ collected_of doing.phase
  own_waiting at k doing node d key is_open is waits un at_call got present = elim (place_waited step at doing is_open waits) [
    | inl (old, begun, passed) ↦ elim (parts step).was [
      | inr new ↦ let none : false ≡ true = ap (λ z. waits_at z at) (sym new.1) ∙ old in absurd (cc none)
      | inl was ↦
          let rise = more doing is_open (waits_holds doing.phase at waits) un in
          let there : slice_get (begun_of (parts step).phase).to at ≡ Some node = ap (λ b. slice_get b.to at) (sym begun) ∙ is in
          elim (call_cases step sound node.owner k d at_call) [
            | inr new ↦
                let starts = starting_is (parts step).phase (received_starts node.owner k d key new got) in
                let none : false ≡ true = ap (λ z. waits_at z at) (sym starts) ∙ old in absurd (cc none)
            | inl before ↦
                let made = made_begun at (going_doing step) node was there old in
                let epochs = epochs_stay sound right step node made.0 made.1 made.2 in
                let low = right.entries.above.above p at k step.driver (going_doing step) node d key step.is_driver was there old rise.0 before.0 got (sym before.1 ∙ present ∙ epochs) in
                let high = rise.1 in omega (arith, low, high)
          ]
    ]
    | inr placed ↦
        let rise = more doing is_open (waits_holds doing.phase at waits) un in
        let clock = placed_clock o step.local.memory step.driver (parts step).command step.peer at doing.phase (parts step).phase step.driver.owed placed rise.2 in
        let there = placed_there o step.local.memory step.driver (parts step).command step.peer at (parts step).phase step.driver.owed (begun_of doing.phase) (sound.clocks.clock step.at step.peer step.is_peer).0 placed in
        let same : node_of_place (begun_of doing.phase).to at ≡ node = get_or_from_slice_get (begun_of doing.phase).to at node no_ref is in
        let here : node.owner ≡ step.at = ap (λ n. n.owner) (sym same) ∙ sym there.1 ∙ (parts step).is_at in
        elim (call_cases step sound node.owner k d at_call) [
          | inr new ↦
              let starts = received_starts node.owner k d key new got in
              let none = placed_sends o step.local.memory step.driver (parts step).command step.peer at doing.phase (parts step).phase step.driver.owed placed in
              let both : true ≡ false = sym starts ∙ none in absurd (cc both)
          | inl before ↦
              let low = right.clocks.listed.below node.owner step.peer d key.stamp (subst (λ q. IsPeer s q step.peer) (sym here) step.is_peer) (has_at (calls_of (record_of_state s) node.owner) k d before.0) (seen_key d.answer key got) in
              omega (arith, low, clock)
        ]
  ]
    where
      made_begun : (at : ℕ) (doing : Doing) (node : NodeRef) → step.driver.doing ≡ Some doing → slice_get (begun_of doing.phase).to at ≡ Some node → waits_at doing.phase at ≡ true → (x : PeerPart) × IsPeer s node.owner x × (node.serial < length x.nodes)
      made_begun at doing node is_open is waits =
          let begun = begun_shape s doing.command doing.phase at (sound.sends.shape p step.driver doing step.is_driver is_open) waits in
          has_all (IsMade s) (begun_of doing.phase).to node begun.to (has_at (begun_of doing.phase).to at node is)

  pub above_taken : PendingAboveTaken o t
  above_taken = record {
    above = λ r at k e doing node d key is_driver is_open is waits un at_call got present. elim (driver_cases step r e is_driver) [
      | inr other ↦ old_waiting r at k e doing node d key other.0 other.1 is_open is waits un at_call got present
      | inl own ↦ own_waiting at k doing node d key (ap (λ z. z.doing) (sym own.1) ∙ is_open) is waits un at_call got present
    ];
  }

pub above_begins : (o : Opening) → PendingAboveTaken o (opening_state o)
above_begins o = record { above = λ p at k d doing node c key is_driver is_open is waits un at_call got present. let none : None ≡ Some doing = ap (λ e. e.doing) (sym (opening_idle o p d is_driver)) ∙ is_open in absurd (cc none) }
