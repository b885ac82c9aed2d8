-- A destination whose clock is at the limit refuses.
use Rattle.std.specs.Prelude.{refl, List, [], ◌∷◌, None, Some}
use Rattle.b1_model.specs.declared.commands.Command.{Command}
use Rattle.b1_model.specs.declared.commands.Command.TheVariants as cmd
use Rattle.b1_model.specs.declared.answers.Reason.TheVariants as reason
use Rattle.b1_model.specs.declared.answers.Receipt.TheVariants as rec
use Rattle.b1_model.specs.declared.answers.Answer.TheVariants as ans
use Rattle.b1_model.specs.declared.naming.Opening.{Opening}
use Rattle.b1_model.specs.declared.records.Record.{Record}
use Rattle.b1_step.proofs.RowWords.{call, key, limits, spec, wire, send, sent, refused, peer, opening}
use Rattle.b1_schedule.specs.Shortage.{no_shortage}
use Rattle.b1_serial_bus.specs.Report.{IsSerial}

-- clocks two below the limit
abbrev start : Opening
start =
    opening 4611686018427387902
    (spec 0 4096 (limits 16 4096 16) ∷
    spec 1 4096 (limits 16 4096 16) ∷
    spec 2 4096 (limits 16 4096 16) ∷ [])
    (wire 1 0 4 ∷ wire 1 2 4 ∷ [])

-- what each peer does
abbrev commands : List (List Command)
commands =
    (send (2 ∷ []) [] (97 ∷ []) ∷
    send (2 ∷ []) [] (97 ∷ []) ∷ []) ∷
    [] ∷
    (send (2 ∷ []) [] (97 ∷ []) ∷ []) ∷
    []

-- what the bus makes of it
abbrev row : Record
row = record {
  peers =
      peer 0 4611686018427387904 (
      call (send (2 ∷ []) [] (97 ∷ [])) (sent 4611686018427387904 (None ∷ [])) ∷
      call (send (2 ∷ []) [] (97 ∷ [])) (refused (reason.Overflow 4611686018427387904) None) ∷ []) ∷
      peer 0 4611686018427387904 (
      call cmd.Recv (ans.Got (rec.Message (key 4611686018427387904 0 0) 4 0 [] (97 ∷ []))) ∷ []) ∷
      peer 0 4611686018427387902 (
      call (send (2 ∷ []) [] (97 ∷ [])) (refused (reason.Overflow 4611686018427387904) (Some 0)) ∷ []) ∷
      [];
}

-- the script ends with this record
pub ends : IsSerial start commands no_shortage row
ends = record { finished = refl; record_is = refl }
