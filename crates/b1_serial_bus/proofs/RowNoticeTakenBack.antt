-- A release notice comes only when the last handle is given up.
use Rattle.std.specs.Prelude.{refl, List, [], ◌∷◌, None}
use Rattle.b1_model.specs.declared.commands.Command.{Command}
use Rattle.b1_model.specs.declared.commands.Command.TheVariants as cmd
use Rattle.b1_model.specs.declared.answers.Receipt.TheVariants as rec
use Rattle.b1_model.specs.declared.answers.Answer.TheVariants as ans
use Rattle.b1_model.specs.declared.naming.Opening.{Opening}
use Rattle.b1_model.specs.declared.records.Record.{Record}
use Rattle.b1_step.proofs.RowWords.{call, key, limits, spec, wire, send, sent, peer, opening}
use Rattle.b1_schedule.specs.Shortage.{no_shortage}
use Rattle.b1_serial_bus.specs.Report.{IsSerial}

-- the second peer holds a node of each other one
abbrev start : Opening
start =
    opening 0
    (spec 0 4096 (limits 16 4096 16) ∷
    spec 1 4096 (limits 16 4096 16) ∷
    spec 2 4096 (limits 16 4096 16) ∷ [])
    (wire 0 1 4 ∷ wire 2 1 4 ∷ [])

-- what each peer does
abbrev commands : List (List Command)
commands =
    (cmd.Await ∷ []) ∷
    (send (6 ∷ []) (2 ∷ []) (97 ∷ []) ∷
    cmd.Release 2 ∷ []) ∷
    (cmd.Await ∷
    cmd.Release 2 ∷ []) ∷
    []

-- what the bus makes of it
abbrev row : Record
row = record {
  peers =
      peer 0 2 (
      call cmd.Recv (ans.Got (rec.Released 2 4)) ∷ []) ∷
      peer 0 2 (
      call (send (6 ∷ []) (2 ∷ []) (97 ∷ [])) (sent 2 (None ∷ [])) ∷
      call (cmd.Release 2) ans.Done ∷ []) ∷
      peer 0 2 (
      call cmd.Recv (ans.Got (rec.Message (key 2 1 0) 4 0 (2 ∷ []) (97 ∷ []))) ∷
      call (cmd.Release 2) ans.Done ∷ []) ∷
      [];
}

-- the script ends with this record
pub ends : IsSerial start commands no_shortage row
ends = record { finished = refl; record_is = refl }
