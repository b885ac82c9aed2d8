-- What is played without turns is what the serial bus makes of the script, and so is what stalls.
use Rattle.std.proofs.Common.{◌≡◌, refl, sym, ap, ◌∙◌, ℕ, true, List, []}
use Rattle.b1_model.specs.declared.naming.Opening.{Opening}
use Rattle.b1_model.specs.declared.commands.Command.{Command}
use Rattle.b1_model.specs.declared.records.Record.{Record}
use Rattle.b1_model.specs.Opening.{IsOpening}
use Rattle.b1_model.specs.MachineParts.{State}
use Rattle.b1_model.specs.MachineStep.{opening_state, record_of_state}
use Rattle.b1_schedule.specs.Shortage.{Shortage, shortage_of, no_shortage}
use Rattle.b1_schedule.specs.Schedule.{Turning, Playing, Comes, IsPlay, IsStall}
use Rattle.b1_schedule.specs.Schedule as machine
use Rattle.b1_schedule.proofs.Ends.{IsEnd, finished, stalled, at_stage, one_end}
use Rattle.b1_serial_bus.specs.Serial.{Stage, Rounds, Passes, Finished, Stalled, is_over, waiting_peers}
use Rattle.b1_serial_bus.specs.Report.{serial, IsSerial, IsSerialStall}
use Rattle.b1_serial_bus.proofs.Ends.{serial_over}
use Rattle.b1_serial_plays.specs.Commands.{CommandsKeepRest}
use Rattle.b1_serial_plays.proofs.Scripts.{stage_of, ComesTo, script_comes, same_record, same_waiting}

-- the ends of the serial bus are the schedule's
end_is : (stage : Stage) → is_over stage ≡ true → IsEnd (stage_of stage)
end_is Finished over = finished
end_is Stalled over = stalled
end_is Rounds over = absurd (cc over)
end_is Passes over = absurd (cc over)

stage_finished : (stage : Stage) → stage_of stage ≡ machine.Finished → stage ≡ Finished
stage_finished Finished is = refl
stage_finished Stalled is = absurd (cc is)
stage_finished Rounds is = absurd (cc is)
stage_finished Passes is = absurd (cc is)

stage_stalled : (stage : Stage) → stage_of stage ≡ machine.Stalled → stage ≡ Stalled
stage_stalled Stalled is = refl
stage_stalled Finished is = absurd (cc is)
stage_stalled Rounds is = absurd (cc is)
stage_stalled Passes is = absurd (cc is)

module _ (o : Opening) (lists : List (List Command)) (valid : IsOpening o) (keeps : CommandsKeepRest o) where
  module _ (m : Shortage) where
    k : ComesTo o lists m keeps (opening_state o) (Turning []) (serial o lists m).bus (stage_of (serial o lists m).stage)
    k = script_comes o lists m keeps valid

    over : is_over (serial o lists m).stage ≡ true
    over = serial_over lists m o

    comes : Comes o lists [] m (at_stage k.state (stage_of (serial o lists m).stage))
    comes = record { count = k.goes.count; is_at = k.goes.is_at }

    -- the schedule's end is the serial bus's
    same_end : (s : State) (stage : machine.Stage) → IsEnd stage → Comes o lists [] m (at_stage s stage) → at_stage s stage ≡ at_stage k.state (stage_of (serial o lists m).stage)
    same_end s stage ends c = one_end o lists m m (λ p n place. refl) [] s k.state stage (stage_of (serial o lists m).stage) ends (end_is (serial o lists m).stage over) c comes

  pub play_serial : (r : Record) → IsPlay o lists [] r → IsSerial o lists (shortage_of r) r
  play_serial r play =
      let m = shortage_of r in
      let same = same_end m play.state machine.Finished finished play.comes in
      record {
        finished = stage_finished (serial o lists m).stage (ap (λ (p : Playing). p.stage) (sym same));
        record_is = play.record_is ∙ ap record_of_state (ap (λ (p : Playing). p.state) same) ∙ same_record (k m).rests;
      }

  pub stall_serial : (waiting : List ℕ) (r : Record) → IsStall o lists [] waiting r → IsSerialStall o lists waiting r
  stall_serial waiting r stall =
      let same = same_end no_shortage stall.state machine.Stalled stalled stall.comes in
      record {
        stalled = stage_stalled (serial o lists no_shortage).stage (ap (λ (p : Playing). p.stage) (sym same));
        waiting_is = stall.waiting_is ∙ ap (machine.waiting_peers lists) (ap (λ (p : Playing). p.state) same) ∙ same_waiting (k no_shortage).rests lists;
        record_is = stall.record_is ∙ ap record_of_state (ap (λ (p : Playing). p.state) same) ∙ same_record (k no_shortage).rests;
      }
