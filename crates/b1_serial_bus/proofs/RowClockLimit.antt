-- No stamp is begun at the clock's limit.
use Rattle.std.specs.Prelude.{refl, List, [], ◌∷◌, None}
use Rattle.b1_model.specs.declared.commands.Command.{Command}
use Rattle.b1_model.specs.declared.commands.Command.TheVariants as cmd
use Rattle.b1_model.specs.declared.answers.Reason.TheVariants as reason
use Rattle.b1_model.specs.declared.answers.Front.TheVariants.{Absent}
use Rattle.b1_model.specs.declared.naming.Opening.{Opening}
use Rattle.b1_model.specs.declared.records.Record.{Record}
use Rattle.b1_step.proofs.RowWords.{call, limits, spec, wire, send, refused, peer, opening}
use Rattle.b1_schedule.specs.Shortage.{no_shortage}
use Rattle.b1_serial_bus.specs.Report.{IsSerial}

-- clocks at the limit
abbrev start : Opening
start =
    opening 4611686018427387904
    (spec 0 4096 (limits 16 4096 16) ∷
    spec 1 4096 (limits 16 4096 16) ∷ [])
    (wire 1 0 4 ∷ [])

-- what each peer does
abbrev commands : List (List Command)
commands =
    (send (2 ∷ []) [] (104 ∷ 105 ∷ []) ∷ []) ∷
    (cmd.Recv ∷ []) ∷
    []

-- what the bus makes of it
abbrev row : Record
row = record {
  peers =
      peer 0 4611686018427387904 (
      call (send (2 ∷ []) [] (104 ∷ 105 ∷ [])) (refused (reason.Overflow 4611686018427387904) None) ∷ []) ∷
      peer 0 4611686018427387904 (
      call cmd.Recv (refused (reason.Again Absent) None) ∷ []) ∷
      [];
}

-- the script ends with this record
pub ends : IsSerial start commands no_shortage row
ends = record { finished = refl; record_is = refl }
