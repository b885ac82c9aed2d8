-- A handle whose destroy notice was taken can't be carried, and its node takes no message.
use Rattle.std.specs.Prelude.{refl, List, [], ◌∷◌, None, Some}
use Rattle.b1_model.specs.declared.commands.Command.{Command}
use Rattle.b1_model.specs.declared.commands.Command.TheVariants as cmd
use Rattle.b1_model.specs.declared.answers.Reason.TheVariants as reason
use Rattle.b1_model.specs.declared.answers.Receipt.TheVariants as rec
use Rattle.b1_model.specs.declared.answers.Answer.TheVariants as ans
use Rattle.b1_model.specs.declared.naming.Opening.{Opening}
use Rattle.b1_model.specs.declared.records.Record.{Record}
use Rattle.b1_step.proofs.RowWords.{call, key, limits, spec, wire, send, refused, peer, opening}
use Rattle.b1_schedule.specs.Shortage.{no_shortage}
use Rattle.b1_serial_bus.specs.Report.{IsSerial}

-- the first peer holds two nodes of the second one
abbrev start : Opening
start =
    opening 0
    (spec 0 4096 (limits 16 4096 16) ∷
    spec 1 4096 (limits 16 4096 16) ∷ [])
    (wire 1 0 4 ∷ wire 1 0 8 ∷ [])

-- what each peer does
abbrev commands : List (List Command)
commands =
    (cmd.Await ∷
    send (6 ∷ []) (2 ∷ []) [] ∷
    send (2 ∷ []) [] [] ∷
    cmd.Release 2 ∷ []) ∷
    (cmd.Destroy (4 ∷ []) ∷ []) ∷
    []

-- what the bus makes of it
abbrev row : Record
row = record {
  peers =
      peer 0 2 (
      call cmd.Recv (ans.Got (rec.Destroyed (key 2 1 0) 2)) ∷
      call (send (6 ∷ []) (2 ∷ []) []) (refused (reason.Gone 1 0) None) ∷
      call (send (2 ∷ []) [] []) (refused (reason.Gone 1 0) (Some 0)) ∷
      call (cmd.Release 2) ans.Done ∷ []) ∷
      peer 0 2 (
      call (cmd.Destroy (4 ∷ [])) (ans.Destroyed 2) ∷
      call cmd.Recv (ans.Got (rec.Destroyed (key 2 1 0) 4)) ∷ []) ∷
      [];
}

-- the script ends with this record
pub ends : IsSerial start commands no_shortage row
ends = record { finished = refl; record_is = refl }
