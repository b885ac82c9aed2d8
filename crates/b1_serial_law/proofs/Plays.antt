-- The laws of single commands make plays serial.
use Rattle.std.proofs.Common.{◌≡◌, sym, ap, ◌∙◌, subst, ℕ, List, []}
use Rattle.b1_model.specs.declared.naming.Opening.{Opening}
use Rattle.b1_model.specs.declared.commands.Command.{Command}
use Rattle.b1_model.specs.declared.records.Record.{Record}
use Rattle.b1_model.specs.Opening.{IsOpening}
use Rattle.b1_schedule.specs.Shortage.{shortage_of, no_shortage}
use Rattle.b1_schedule.specs.Schedule.{IsPlay, IsStall}
use Rattle.b1_serial_bus.specs.Serial.{Play, Stage, Finished, Stalled}
use Rattle.b1_serial_bus.specs.Report.{record_of, serial, IsSerial, IsSerialStall}
use Rattle.b1_serial_bus.proofs.Ends.{same_end}
use Rattle.b1_serial_plays.proofs.Plays.{play_serial, stall_serial}
use Rattle.b1_serial_law.specs.Ample.{ample_record, IsAmple, StallsAmple}
use Rattle.b1_serial_law.proofs.Keeps.{commands_keep}

module _ (o : Opening) (lists : List (List Command)) (turns : List ℕ) (valid : IsOpening o) (none : turns ≡ []) where
  pub played : (r : Record) → IsPlay o lists turns r → IsSerial o lists (shortage_of r) r
  played r play = play_serial o lists valid (commands_keep o valid) r (subst (λ ts. IsPlay o lists ts r) none play)

  pub stalled : (waiting : List ℕ) (r : Record) → IsStall o lists turns waiting r → IsSerialStall o lists waiting r
  stalled waiting r stall = stall_serial o lists valid (commands_keep o valid) waiting r (subst (λ ts. IsStall o lists ts waiting r) none stall)

  module _ (r : Record) (play : IsPlay o lists turns r) (ample : IsAmple r) where
    same : serial o lists (shortage_of r) ≡ serial o lists no_shortage
    same = same_end o lists (shortage_of r) no_shortage (λ p k place. ample p k place)

    pub alone : r ≡ ample_record o lists
    alone = (played r play).record_is ∙ ap (λ (at : Play). record_of at.bus) same

    pub unstalled : StallsAmple o lists → ⊥
    unstalled stalls = apart (sym (played r play).finished ∙ ap (λ (at : Play). at.stage) same ∙ stalls)
      where
        apart : ◌≡◌ {A = Stage} Finished Stalled → ⊥
        apart e = cc e
