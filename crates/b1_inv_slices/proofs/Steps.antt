-- What a step's driver keeps of slices by its calls, and its peer by its pool.
use Rattle.std.proofs.Common.{◌≡◌, refl, sym, ap, ◌∙◌, ℕ, Bool, true, false, cond, List, [], ◌∷◌, ◌++◌, Option, Some, None, Ok, Err, append-nil}
use Rattle.std.specs.Prelude.{⊤}
use Rattle.b1_model.specs.declared.commands.Command.{Command}
use Rattle.b1_model.specs.declared.commands.Command.TheVariants as cmd
use Rattle.b1_model.specs.declared.commands.SendCmd.{SendCmd}
use Rattle.b1_model.specs.declared.naming.Opening.{Opening}
use Rattle.b1_model.specs.declared.answers.Answer.TheVariants as answer
use Rattle.b1_model.specs.declared.answers.Reason.{Reason}
use Rattle.b1_model.specs.declared.answers.Reason.TheVariants.{Memory}
use Rattle.b1_model.specs.declared.events.Action.{Action}
use Rattle.b1_model.specs.declared.events.Action.TheVariants as act
use Rattle.b1_model.specs.declared.events.Outcome.TheVariants as out
use Rattle.b1_model.specs.declared.events.OwedDrop.{OwedDrop}
use Rattle.b1_model.specs.declared.events.Phase.{Phase}
use Rattle.b1_model.specs.declared.events.Phase.TheVariants.{Starting, Flushing}
use Rattle.b1_model.specs.declared.records.Call.{Call}
use Rattle.b1_model.specs.MachineParts.{PeerPart, DriverPart}
use Rattle.b1_model.specs.MachineSend.{send_refusal}
use Rattle.b1_model.specs.MachineReceive.{released}
use Rattle.b1_model.specs.MachineDriver.{first_action, next_action, refused_at, started, turn}
use Rattle.b1_model.specs.MachineEvents.{begin_by, destroy_by, begin_refusal, begin_serials}
use Rattle.b1_inv_notices.proofs.Turns.{opened, answered}
use Rattle.b1_inv_destroys.proofs.FirstNode.{left_of, left_turn, is_flush_action, no_flush}
use Rattle.b1_inv_slices.specs.Slices.{kept_len}
use Rattle.b1_inv_slices.proofs.Calls.{call_kept, neutral_keeps}
use Rattle.b1_inv_slices.proofs.Parts.{is_receiving}
use Rattle.b1_inv_slices.proofs.Turns.{is_starting, same_destroying, turn_same}

-- which phase such an event is of
abbrev pub ReceivingPhase : Phase → Action → Type 0
ReceivingPhase phase act.Recv = phase ≡ Starting
ReceivingPhase phase act.Local = phase ≡ Starting
ReceivingPhase phase act.Flush = (stamp : Option ℕ) × (phase ≡ Flushing stamp)
ReceivingPhase phase action = ⊤

first_phase : (b : Bool) (command : Command) → ReceivingPhase Starting (cond b act.Local (first_action command))
first_phase true command = refl
first_phase false cmd.Recv = refl
first_phase false cmd.Await = refl
first_phase false cmd.Query = refl
first_phase false (cmd.Limit limits) = refl
first_phase false (cmd.SliceRelease offset) = refl
first_phase false command = tt

pub receiving_phase : (d : DriverPart) (command : Command) (phase : Phase) (owed : List OwedDrop) → ReceivingPhase phase (next_action (opened d command phase owed))
receiving_phase d command phase (one ∷ rest) = tt
receiving_phase d command Starting [] = first_phase d.shut command
receiving_phase d command (Flushing stamp) [] = (stamp, refl)
receiving_phase d command phase [] = tt

not_flush : (action : Action) → is_receiving action ≡ false → is_flush_action action ≡ false
not_flush act.Flush is = absurd (cc is)
not_flush action is = refl

module _ (offset : ℕ) (o : Opening) (memory : Bool) (d : DriverPart) (x : PeerPart) where
  abbrev H : List Call → Option ℕ
  H more = kept_len offset (d.calls ++ more)

  module _ (command : Command) where
    begins : (r : Option Reason) (c : SendCmd) → H (left_turn command (started command (begin_by r memory c x).0)) ≡ H []
    begins (Some r) c = neutral_keeps offset d.calls command (refused_at r None) refl
    begins None c = by memory
      where
        by : (b : Bool) → H (left_turn command (started command (begin_by None b c x).0)) ≡ H []
        by true = neutral_keeps offset d.calls command (refused_at Memory None) refl
        by false = refl

    destroys : (r : Option Reason) (doomed : List ℕ) → H (left_turn command (started command (destroy_by r doomed x).0)) ≡ H []
    destroys (Some r) doomed = neutral_keeps offset d.calls command (refused_at r None) refl
    destroys None doomed = ap H (same_destroying H command (neutral_keeps offset d.calls command) doomed _)

  -- a HANDLE_RELEASE gives back no slice
  releases : (number : ℕ) → H (left_turn (cmd.Release number) (started (cmd.Release number) (out.Release (released x number)))) ≡ H []
  releases number = by (released x number)
    where
      by : (r : _) → H (left_turn (cmd.Release number) (started (cmd.Release number) (out.Release r))) ≡ H []
      by (Ok owed) = call_kept offset d.calls (cmd.Release number) answer.Done ∙ sym (ap (kept_len offset) (append-nil d.calls))
      by (Err r) = neutral_keeps offset d.calls (cmd.Release number) (refused_at r None) refl

  starts : (command : Command) (owed : List OwedDrop) → is_receiving (next_action (opened d command Starting owed)) ≡ false → H (left_turn command (turn d.me command Starting (answered o memory d command Starting owed x).0)) ≡ H []
  starts command (one ∷ rest) calm = refl
  starts command [] calm = by d.shut command refl calm
    where
      by : (b : Bool) (first : Command) → d.shut ≡ b → is_receiving (cond b act.Local (first_action first)) ≡ false → H (left_turn first (turn d.me first Starting (answered o memory (record d { shut = b }) first Starting [] x).0)) ≡ H []
      by true first shut none = absurd (cc none)
      by false cmd.Disconnect shut none = destroys cmd.Disconnect (begin_refusal cmd.Disconnect x) (begin_serials cmd.Disconnect x)
      by false (cmd.Reset limits) shut none = destroys (cmd.Reset limits) (begin_refusal (cmd.Reset limits) x) (begin_serials (cmd.Reset limits) x)
      by false (cmd.Destroy numbers) shut none = destroys (cmd.Destroy numbers) (begin_refusal (cmd.Destroy numbers) x) (begin_serials (cmd.Destroy numbers) x)
      by false (cmd.Release number) shut none = releases number
      by false (cmd.Send c) shut none = begins (cmd.Send c) (send_refusal x c) c
      by false first shut none = absurd (cc none)

  -- an event that receives nothing, gives no slice back and flushes nothing keeps what is kept
  pub calm_turn : (command : Command) (phase : Phase) (owed : List OwedDrop) → is_receiving (next_action (opened d command phase owed)) ≡ false
      → H (left_turn command (turn d.me command phase (answered o memory d command phase owed x).0)) ≡ H (left_of command phase)
  calm_turn command phase owed calm = by (is_starting phase) refl
    where
      at_start : (ph : Phase) → is_starting ph ≡ true → is_receiving (next_action (opened d command ph owed)) ≡ false → H (left_turn command (turn d.me command ph (answered o memory d command ph owed x).0)) ≡ H (left_of command ph)
      at_start Starting is none = starts command owed none
      at_start ph is none = absurd (cc is)

      by : (b : Bool) → is_starting phase ≡ b → H (left_turn command (turn d.me command phase (answered o memory d command phase owed x).0)) ≡ H (left_of command phase)
      by true is = at_start phase is calm
      by false is = turn_same H command (neutral_keeps offset d.calls command) d.me phase (answered o memory d command phase owed x).0 is (no_flush o memory d command phase owed x (not_flush (next_action (opened d command phase owed)) calm))
