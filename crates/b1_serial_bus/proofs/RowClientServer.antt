-- A client asks a server with a handle for the answer, and a logger hears it.
use Rattle.std.specs.Prelude.{refl, List, [], ◌∷◌, None}
use Rattle.b1_model.specs.declared.commands.Command.{Command}
use Rattle.b1_model.specs.declared.commands.Command.TheVariants as cmd
use Rattle.b1_model.specs.declared.answers.Receipt.TheVariants as rec
use Rattle.b1_model.specs.declared.answers.Answer.TheVariants as ans
use Rattle.b1_model.specs.declared.naming.Opening.{Opening}
use Rattle.b1_model.specs.declared.records.Record.{Record}
use Rattle.b1_step.proofs.RowWords.{call, key, limits, spec, wire, send, sent, peer, opening}
use Rattle.b1_schedule.specs.Shortage.{no_shortage}
use Rattle.b1_serial_bus.specs.Report.{IsSerial}

-- a client, a server and a logger
abbrev start : Opening
start =
    opening 0
    (spec 0 4096 (limits 16 4096 16) ∷
    spec 1 4096 (limits 16 4096 16) ∷
    spec 2 4096 (limits 16 4096 16) ∷ [])
    (wire 1 0 4 ∷ wire 2 0 4 ∷ wire 2 1 4 ∷ [])

-- what each peer does
abbrev commands : List (List Command)
commands =
    (send (2 ∷ 6 ∷ []) (4 ∷ []) (103 ∷ 101 ∷ 116 ∷ []) ∷
    cmd.Await ∷
    cmd.SliceRelease 1 ∷
    cmd.Await ∷
    cmd.Await ∷
    cmd.Release 2 ∷
    cmd.Destroy (4 ∷ []) ∷ []) ∷
    (cmd.Await ∷
    send (1 ∷ []) [] (111 ∷ 107 ∷ []) ∷
    cmd.Release 1 ∷
    cmd.SliceRelease 1 ∷
    cmd.Destroy (4 ∷ []) ∷ []) ∷
    (cmd.Await ∷
    cmd.Release 1 ∷
    cmd.SliceRelease 1 ∷ []) ∷
    []

-- what the bus makes of it
abbrev row : Record
row = record {
  peers =
      peer 0 8 (
      call (send (2 ∷ 6 ∷ []) (4 ∷ []) (103 ∷ 101 ∷ 116 ∷ [])) (sent 2 (None ∷ None ∷ [])) ∷
      call cmd.Recv (ans.Got (rec.Message (key 4 1 0) 4 0 [] (111 ∷ 107 ∷ []))) ∷
      call (cmd.SliceRelease 0) ans.Done ∷
      call cmd.Recv (ans.Got (rec.Destroyed (key 6 1 0) 2)) ∷
      call cmd.Recv (ans.Got (rec.Released 6 4)) ∷
      call (cmd.Release 2) ans.Done ∷
      call (cmd.Destroy (4 ∷ [])) (ans.Destroyed 8) ∷
      call cmd.Recv (ans.Got (rec.Destroyed (key 8 0 0) 4)) ∷ []) ∷
      peer 0 6 (
      call cmd.Recv (ans.Got (rec.Message (key 2 0 0) 4 0 (6 ∷ []) (103 ∷ 101 ∷ 116 ∷ []))) ∷
      call (send (6 ∷ []) [] (111 ∷ 107 ∷ [])) (sent 4 (None ∷ [])) ∷
      call (cmd.Release 6) ans.Done ∷
      call (cmd.SliceRelease 0) ans.Done ∷
      call (cmd.Destroy (4 ∷ [])) (ans.Destroyed 6) ∷
      call cmd.Recv (ans.Got (rec.Destroyed (key 6 1 0) 4)) ∷ []) ∷
      peer 0 2 (
      call cmd.Recv (ans.Got (rec.Message (key 2 0 1) 4 0 (2 ∷ []) (103 ∷ 101 ∷ 116 ∷ []))) ∷
      call (cmd.Release 2) ans.Done ∷
      call (cmd.SliceRelease 0) ans.Done ∷ []) ∷
      [];
}

-- the script ends with this record
pub ends : IsSerial start commands no_shortage row
ends = record { finished = refl; record_is = refl }
