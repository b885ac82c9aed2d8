-- The published slices of every pool are those that its peer keeps by its calls, over every list of steps.
use Rattle.std.proofs.Common.{◌≡◌, ◌≢◌, ◌⊎◌, refl, sym, ap, subst, ◌∙◌, inl, inr, ℕ, Bool, true, false, List, [], ◌∷◌, ◌++◌, Option, append-nil}
use Rattle.b1_model.specs.declared.commands.Command.{Command}
use Rattle.b1_model.specs.declared.commands.Command.TheVariants as cmd
use Rattle.b1_model.specs.declared.naming.Key.{Key}
use Rattle.b1_model.specs.declared.naming.NodeRef.{NodeRef}
use Rattle.b1_model.specs.declared.naming.Opening.{Opening}
use Rattle.b1_model.specs.declared.answers.Answer.TheVariants as answer
use Rattle.b1_model.specs.declared.entries.Entry.TheVariants.{Message}
use Rattle.b1_model.specs.declared.parts.Slot.{Slot}
use Rattle.b1_model.specs.declared.events.Action.{Action}
use Rattle.b1_model.specs.declared.events.Action.TheVariants as act
use Rattle.b1_model.specs.declared.events.Outcome.{Outcome}
use Rattle.b1_model.specs.declared.events.Phase.{Phase}
use Rattle.b1_model.specs.declared.records.Call.{Call}
use Rattle.b1_model.specs.Opening.{IsOpening}
use Rattle.b1_model.specs.MachineParts.{PeerPart, DriverPart, State, is_staged}
use Rattle.b1_model.specs.MachineReceive.{cleared, received}
use Rattle.b1_model.specs.MachineDriver.{peer_of, recv_answer, turn}
use Rattle.b1_model.specs.MachineTook.{as_call}
use Rattle.b1_model.specs.MachineEvents.{happens, local_answer}
use Rattle.b1_model.specs.MachineStep.{Label, Leads, Reached, Step, opening_state}
use Rattle.b1_step.specs.Rights.{Has}
use Rattle.b1_inv.specs.Words.{IsPeer, IsDriver}
use Rattle.b1_inv.specs.References.{AreFilled}
use Rattle.b1_inv.specs.Sound.{IsSound}
use Rattle.b1_inv_record.specs.Epochs.{flushed_calls}
use Rattle.b1_inv_record.specs.Right.{PartsRight}
use Rattle.b1_inv_tools.proofs.Comes.{has_drop}
use Rattle.b1_inv_tools.proofs.Leaves.{driver_cases, peer_cases}
use Rattle.b1_inv_tools.proofs.Openings.{opening_idle}
use Rattle.b1_inv_tools.proofs.Received.{at_cleared}
use Rattle.b1_inv_notices.proofs.Turns.{parts, going, going_doing, going_action}
use Rattle.b1_inv_destroys.proofs.FirstNode.{left_of, left_turn, flushed_before, flushed_after}
use Rattle.b1_law.proofs.Reached.{opening_sound, step_sound}
use Rattle.b1_inv_parts.proofs.Kept.{parts_begin, parts_kept}
use Rattle.b1_inv_parts.proofs.Pools.{PartSliced, InOrder}
use Rattle.b1_inv_parts.proofs.PoolsKept.{sliced_of, pool_size, opening_whole}
use Rattle.b1_inv_slices.specs.Slices.{kept_after, kept_len, received_len, ReceivedKept}
use Rattle.b1_inv_slices.proofs.Calls.{call_kept}
use Rattle.b1_inv_slices.proofs.Lens.{whole_none}
use Rattle.b1_inv_slices.proofs.Parts.{is_receiving, event_same, recv_kept, local_kept}
use Rattle.b1_inv_slices.proofs.Steps.{ReceivingPhase, receiving_phase, calm_turn}

own_event : (me : ℕ) (action : Action) → is_receiving action ≡ true → peer_of me action ≡ me
own_event me act.Recv is = refl
own_event me act.Local is = refl
own_event me act.Flush is = refl
own_event me action is = absurd (cc is)

-- a local command isn't an AWAIT, or stands as one that keeps what was there
local_call : (offset : ℕ) (shut : Bool) (command : Command) (x : PeerPart) (kept : Option ℕ) → kept_after offset command (local_answer shut command x) kept ≡ kept_after offset (as_call command) (local_answer shut command x) kept
local_call offset shut cmd.Await x kept = by shut
  where
    by : (b : Bool) → kept_after offset cmd.Await (local_answer b cmd.Await x) kept ≡ kept_after offset cmd.Recv (local_answer b cmd.Await x) kept
    by true = refl
    by false = refl
local_call offset shut command x kept = refl

module _ {o : Opening} {s : State} {p : ℕ} {c : Option Command} {t : State} (sound : IsSound o s) (right : PartsRight s) (kept : ReceivedKept s) (step : Step o s p c t) (offset : ℕ) where
  abbrev x : PeerPart
  x = step.peer

  abbrev calls : List Call
  calls = step.driver.calls

  abbrev command : Command
  command = (parts step).command

  sliced : PartSliced step.peer
  sliced = sliced_of s right.pool step.at step.peer step.is_peer (pool_size o s sound.opening sound.numbered step.at step.peer step.is_peer)

  ordered : InOrder step.peer
  ordered = record { rising = sound.rising step.at step.peer step.is_peer; ascending = right.keys.ascending step.at step.peer step.is_peer; sliced = sliced }

  -- ---- an event that receives nothing, gives no slice back and flushes nothing

  module _ (calm : is_receiving (going_action step) ≡ false) where
    same_part : received_len offset step.new_peer.slices ≡ received_len offset step.peer.slices
    same_part = ap (λ y. received_len offset y.slices) (sym (parts step).is_peer) ∙ event_same offset o step.local.memory (going step) (going_doing step) (going_action step) step.peer sliced calm

    same_calls : kept_len offset (flushed_calls step.new_driver) ≡ kept_len offset (flushed_calls step.driver)
    same_calls =
        ap (kept_len offset) (flushed_after step)
        ∙ calm_turn offset o step.local.memory step.driver step.peer (parts step).command (parts step).phase step.driver.owed calm
        ∙ ap (kept_len offset) (sym (flushed_before step))

    calm_kept : (q : ℕ) (y : PeerPart) (e : DriverPart) → IsPeer t q y → IsDriver t q e → received_len offset y.slices ≡ kept_len offset (flushed_calls e)
    calm_kept q y e is_peer is_driver = by (peer_cases step q y is_peer) (driver_cases step q e is_driver)
      where
        by : ((q ≡ step.at) × (y ≡ step.new_peer)) ⊎ ((q ≢ step.at) × IsPeer s q y) → ((q ≡ p) × (e ≡ step.new_driver)) ⊎ ((q ≢ p) × IsDriver s q e) → received_len offset y.slices ≡ kept_len offset (flushed_calls e)
        by (inl here) (inl own) =
            ap (λ z. received_len offset z.slices) here.1 ∙ same_part
            ∙ kept.kept q offset step.peer step.driver (subst (λ r. IsPeer s r step.peer) (sym here.0) step.is_peer) (subst (λ r. IsDriver s r step.driver) (sym own.0) step.is_driver)
            ∙ sym same_calls ∙ ap (λ z. kept_len offset (flushed_calls z)) (sym own.1)
        by (inl here) (inr other) =
            ap (λ z. received_len offset z.slices) here.1 ∙ same_part
            ∙ kept.kept q offset step.peer e (subst (λ r. IsPeer s r step.peer) (sym here.0) step.is_peer) other.1
        by (inr away) (inl own) =
            kept.kept q offset y step.driver away.1 (subst (λ r. IsDriver s r step.driver) (sym own.0) step.is_driver)
            ∙ sym same_calls ∙ ap (λ z. kept_len offset (flushed_calls z)) (sym own.1)
        by (inr away) (inr other) = kept.kept q offset y e away.1 other.1

  -- ---- a RECV, a local command, a flush

  filled : (k : Key) (origin user index serial at len : ℕ) (nodes : List NodeRef) (slots : List Slot) (handles payload : List ℕ) → Has (cleared step.peer).queue (k, Message origin user index serial at len nodes slots handles payload)
      → is_staged (k, Message origin user index serial at len nodes slots handles payload) ≡ false → AreFilled step.at nodes slots
  filled k origin user index serial at len nodes slots handles payload has even =
      sound.slots.filled step.at step.peer (k, Message origin user index serial at len nodes slots handles payload) step.is_peer
      (has_drop _ step.peer.queue (k, Message origin user index serial at len nodes slots handles payload) (subst (λ queue. Has queue (k, Message origin user index serial at len nodes slots handles payload)) (at_cleared step.peer).0 has)) refl even

  abbrev event : Action → Outcome × PeerPart
  event action = happens o step.local.memory (going step) (going_doing step) action step.peer

  abbrev After : Phase → Action → Type 0
  After phase action = received_len offset (event action).1.slices ≡ kept_len offset (calls ++ left_turn command (turn step.driver.me command phase (event action).0))

  -- what was kept when such an event begins
  before : step.at ≡ p → left_of command (parts step).phase ≡ [] → received_len offset step.peer.slices ≡ kept_len offset calls
  before here none =
      kept.kept p offset step.peer step.driver (subst (λ r. IsPeer s r step.peer) here step.is_peer) step.is_driver
      ∙ ap (kept_len offset) (flushed_before step ∙ ap (λ more. step.driver.calls ++ more) none ∙ append-nil step.driver.calls)

  receives : (action : Action) → is_receiving action ≡ true → ReceivingPhase (parts step).phase action → step.at ≡ p → After (parts step).phase action
  receives act.Recv is starting here =
      recv_kept offset (as_call command) step.peer step.at ordered filled
      ∙ ap (kept_after offset (as_call command) (recv_answer (received step.peer))) (before here (ap (left_of command) starting))
      ∙ sym (call_kept offset calls command (recv_answer (received step.peer)))
      ∙ ap (λ phase. kept_len offset (calls ++ left_turn command (turn step.driver.me command phase (event act.Recv).0))) (sym starting)
  receives act.Local is starting here =
      local_kept offset step.driver.shut command command step.peer sliced refl
      ∙ local_call offset step.driver.shut command step.peer (received_len offset step.peer.slices)
      ∙ ap (kept_after offset (as_call command) (local_answer step.driver.shut command step.peer)) (before here (ap (left_of command) starting))
      ∙ sym (call_kept offset calls command (local_answer step.driver.shut command step.peer))
      ∙ ap (λ phase. kept_len offset (calls ++ left_turn command (turn step.driver.me command phase (event act.Local).0))) (sym starting)
  receives act.Flush is flushing here =
      whole_none step.peer.pool offset
      ∙ sym (call_kept offset calls command (answer.Reset flushing.0))
      ∙ ap (λ phase. kept_len offset (calls ++ left_turn command (turn step.driver.me command phase (event act.Flush).0))) (sym flushing.1)
  receives action is phase here = absurd (cc is)

  received_kept : is_receiving (going_action step) ≡ true → (q : ℕ) (y : PeerPart) (e : DriverPart) → IsPeer t q y → IsDriver t q e → received_len offset y.slices ≡ kept_len offset (flushed_calls e)
  received_kept is q y e is_peer is_driver = by (peer_cases step q y is_peer) (driver_cases step q e is_driver)
    where
      here_at : step.at ≡ p
      here_at = sym (parts step).is_at ∙ own_event step.driver.me (going_action step) is ∙ sound.numbered.drivers p step.driver step.is_driver

      by : ((q ≡ step.at) × (y ≡ step.new_peer)) ⊎ ((q ≢ step.at) × IsPeer s q y) → ((q ≡ p) × (e ≡ step.new_driver)) ⊎ ((q ≢ p) × IsDriver s q e) → received_len offset y.slices ≡ kept_len offset (flushed_calls e)
      by (inl here) (inl own) =
          ap (λ z. received_len offset z.slices) (here.1 ∙ sym (parts step).is_peer)
          ∙ receives (going_action step) is (receiving_phase step.driver (parts step).command (parts step).phase step.driver.owed) here_at
          ∙ sym (ap (kept_len offset) (flushed_after step))
          ∙ ap (λ z. kept_len offset (flushed_calls z)) (sym own.1)
      by (inl here) (inr other) = absurd (other.0 (here.0 ∙ here_at))
      by (inr away) (inl own) = absurd (away.0 (own.0 ∙ sym here_at))
      by (inr away) (inr other) = kept.kept q offset y e away.1 other.1

  each_kept : (q : ℕ) (y : PeerPart) (e : DriverPart) → IsPeer t q y → IsDriver t q e → received_len offset y.slices ≡ kept_len offset (flushed_calls e)
  each_kept = by (is_receiving (going_action step)) refl
    where
      by : (b : Bool) → is_receiving (going_action step) ≡ b → (q : ℕ) (y : PeerPart) (e : DriverPart) → IsPeer t q y → IsDriver t q e → received_len offset y.slices ≡ kept_len offset (flushed_calls e)
      by true is = received_kept is
      by false calm = calm_kept calm

pub slices_kept : {o : Opening} {s : State} {p : ℕ} {c : Option Command} {t : State} → IsSound o s → PartsRight s → ReceivedKept s → Step o s p c t → ReceivedKept t
slices_kept sound right kept step = record { kept = λ q offset y e. each_kept sound right kept step offset q y e }

-- ---- the beginning, and every list of steps

pub slices_begin : (o : Opening) → ReceivedKept (opening_state o)
slices_begin o = record {
  kept = λ q offset x d is_peer is_driver.
      ap (received_len offset) (opening_whole o q x is_peer) ∙ whole_none x.pool offset
      ∙ sym (ap (λ e. kept_len offset (flushed_calls e)) (opening_idle o q d is_driver));
}

led_kept : (o : Opening) (steps : List Label) (s t : State) → IsSound o s → PartsRight s → ReceivedKept s → Leads o s steps t → PartsRight t × ReceivedKept t
led_kept o [] s t sound right kept same = (subst PartsRight same right, subst ReceivedKept same kept)
led_kept o (l ∷ rest) s t sound right kept run =
    led_kept o rest run.0 t (step_sound o s l.driver l.command run.0 sound run.1) (parts_kept o s l.driver l.command run.0 sound right run.1) (slices_kept sound right kept run.1) run.2

pub reached_kept : (o : Opening) (s : State) → IsOpening o → Reached o s → PartsRight s × ReceivedKept s
reached_kept o s valid r = led_kept o r.steps (opening_state o) s (opening_sound o valid) (parts_begin o valid) (slices_begin o) r.run
