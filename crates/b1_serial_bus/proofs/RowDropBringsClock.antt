-- A handle that is given up brings its holder's clock to the node's owner.
use Rattle.std.specs.Prelude.{refl, List, [], ◌∷◌, None}
use Rattle.b1_model.specs.declared.commands.Command.{Command}
use Rattle.b1_model.specs.declared.commands.Command.TheVariants as cmd
use Rattle.b1_model.specs.declared.answers.Receipt.TheVariants as rec
use Rattle.b1_model.specs.declared.answers.Answer.TheVariants as ans
use Rattle.b1_model.specs.declared.naming.Opening.{Opening}
use Rattle.b1_model.specs.declared.records.Record.{Record}
use Rattle.b1_step.proofs.RowWords.{call, key, limits, spec, wire, send, sent, peer, opening}
use Rattle.b1_schedule.specs.Shortage.{no_shortage}
use Rattle.b1_serial_bus.specs.Report.{IsSerial}

-- the first peer holds a node of each other one
abbrev start : Opening
start =
    opening 0
    (spec 0 4096 (limits 16 4096 16) ∷
    spec 1 4096 (limits 16 4096 16) ∷
    spec 2 4096 (limits 16 4096 16) ∷ [])
    (wire 1 0 4 ∷ wire 2 0 4 ∷ [])

-- what each peer does
abbrev commands : List (List Command)
commands =
    (send (2 ∷ []) [] (97 ∷ []) ∷
    send (2 ∷ []) [] (97 ∷ []) ∷
    send (2 ∷ []) (6 ∷ []) (97 ∷ []) ∷
    cmd.Release 6 ∷ []) ∷
    (cmd.Recv ∷
    cmd.Recv ∷
    cmd.Recv ∷
    cmd.Release 2 ∷ []) ∷
    (cmd.Destroy (4 ∷ []) ∷ []) ∷
    []

-- what the bus makes of it
abbrev row : Record
row = record {
  peers =
      peer 0 6 (
      call (send (2 ∷ []) [] (97 ∷ [])) (sent 2 (None ∷ [])) ∷
      call (send (2 ∷ []) [] (97 ∷ [])) (sent 4 (None ∷ [])) ∷
      call (send (2 ∷ []) (6 ∷ []) (97 ∷ [])) (sent 6 (None ∷ [])) ∷
      call (cmd.Release 6) ans.Done ∷ []) ∷
      peer 0 6 (
      call cmd.Recv (ans.Got (rec.Message (key 2 0 0) 4 0 [] (97 ∷ []))) ∷
      call cmd.Recv (ans.Got (rec.Message (key 4 0 0) 4 8 [] (97 ∷ []))) ∷
      call cmd.Recv (ans.Got (rec.Message (key 6 0 0) 4 16 (2 ∷ []) (97 ∷ []))) ∷
      call (cmd.Release 2) ans.Done ∷ []) ∷
      peer 0 8 (
      call (cmd.Destroy (4 ∷ [])) (ans.Destroyed 8) ∷
      call cmd.Recv (ans.Got (rec.Destroyed (key 8 2 0) 4)) ∷ []) ∷
      [];
}

-- the script ends with this record
pub ends : IsSerial start commands no_shortage row
ends = record { finished = refl; record_is = refl }
