-- A full pool refuses a SEND, and CONTINUE leaves its destination out.
use Rattle.std.specs.Prelude.{refl, List, [], ◌∷◌, None, Some}
use Rattle.b1_model.specs.declared.commands.Command.{Command}
use Rattle.b1_model.specs.declared.commands.Command.TheVariants as cmd
use Rattle.b1_model.specs.declared.answers.Reason.TheVariants as reason
use Rattle.b1_model.specs.declared.answers.Receipt.TheVariants as rec
use Rattle.b1_model.specs.declared.answers.Answer.TheVariants as ans
use Rattle.b1_model.specs.declared.naming.Opening.{Opening}
use Rattle.b1_model.specs.declared.records.Record.{Record}
use Rattle.b1_step.proofs.RowWords.{call, key, limits, spec, wire, send, carry_on, sent, refused, peer, opening}
use Rattle.b1_schedule.specs.Shortage.{no_shortage}
use Rattle.b1_serial_bus.specs.Report.{IsSerial}

-- the last peer has a small pool
abbrev start : Opening
start =
    opening 0
    (spec 0 4096 (limits 16 4096 16) ∷
    spec 1 4096 (limits 16 4096 16) ∷
    spec 2 8 (limits 16 4096 16) ∷ [])
    (wire 1 0 4 ∷ wire 2 0 4 ∷ [])

-- what each peer does
abbrev commands : List (List Command)
commands =
    (send (2 ∷ 6 ∷ []) [] (97 ∷ 98 ∷ 99 ∷ 100 ∷ 101 ∷ 102 ∷ 103 ∷ 104 ∷ 105 ∷ []) ∷
    carry_on (2 ∷ 6 ∷ []) [] (97 ∷ 98 ∷ 99 ∷ 100 ∷ 101 ∷ 102 ∷ 103 ∷ 104 ∷ 105 ∷ []) ∷
    carry_on (6 ∷ 2 ∷ []) [] (97 ∷ 98 ∷ 99 ∷ 100 ∷ 101 ∷ 102 ∷ 103 ∷ 104 ∷ 105 ∷ []) ∷
    carry_on (6 ∷ []) [] (97 ∷ 98 ∷ 99 ∷ 100 ∷ 101 ∷ 102 ∷ 103 ∷ 104 ∷ 105 ∷ []) ∷ []) ∷
    (cmd.Recv ∷ []) ∷
    [] ∷
    []

-- what the bus makes of it
abbrev row : Record
row = record {
  peers =
      peer 0 4 (
      call (send (2 ∷ 6 ∷ []) [] (97 ∷ 98 ∷ 99 ∷ 100 ∷ 101 ∷ 102 ∷ 103 ∷ 104 ∷ 105 ∷ [])) (refused (reason.Full 16 8) (Some 1)) ∷
      call (carry_on (2 ∷ 6 ∷ []) [] (97 ∷ 98 ∷ 99 ∷ 100 ∷ 101 ∷ 102 ∷ 103 ∷ 104 ∷ 105 ∷ [])) (sent 2 (None ∷ Some (reason.Full 16 8) ∷ [])) ∷
      call (carry_on (6 ∷ 2 ∷ []) [] (97 ∷ 98 ∷ 99 ∷ 100 ∷ 101 ∷ 102 ∷ 103 ∷ 104 ∷ 105 ∷ [])) (sent 4 (Some (reason.Full 16 8) ∷ None ∷ [])) ∷
      call (carry_on (6 ∷ []) [] (97 ∷ 98 ∷ 99 ∷ 100 ∷ 101 ∷ 102 ∷ 103 ∷ 104 ∷ 105 ∷ [])) (refused (reason.Full 16 8) (Some 0)) ∷ []) ∷
      peer 0 4 (
      call cmd.Recv (ans.Got (rec.Message (key 2 0 0) 4 0 [] (97 ∷ 98 ∷ 99 ∷ 100 ∷ 101 ∷ 102 ∷ 103 ∷ 104 ∷ 105 ∷ []))) ∷
      call cmd.Recv (ans.Got (rec.Message (key 4 0 1) 4 16 [] (97 ∷ 98 ∷ 99 ∷ 100 ∷ 101 ∷ 102 ∷ 103 ∷ 104 ∷ 105 ∷ []))) ∷ []) ∷
      peer 0 0 [] ∷
      [];
}

-- the script ends with this record
pub ends : IsSerial start commands no_shortage row
ends = record { finished = refl; record_is = refl }
