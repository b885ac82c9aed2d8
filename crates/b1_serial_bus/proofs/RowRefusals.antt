-- The refusals that need no message, each with what it keeps.
use Rattle.std.specs.Prelude.{refl, List, [], ◌∷◌, None}
use Rattle.b1_model.specs.declared.commands.Command.{Command}
use Rattle.b1_model.specs.declared.commands.Command.TheVariants as cmd
use Rattle.b1_model.specs.declared.answers.Reason.TheVariants as reason
use Rattle.b1_model.specs.declared.answers.Receipt.TheVariants as rec
use Rattle.b1_model.specs.declared.answers.Answer.TheVariants as ans
use Rattle.b1_model.specs.declared.naming.Opening.{Opening}
use Rattle.b1_model.specs.declared.records.Record.{Record}
use Rattle.b1_step.proofs.RowWords.{call, limits, spec, wire, send, refused, peer, opening}
use Rattle.b1_schedule.specs.Shortage.{no_shortage}
use Rattle.b1_serial_bus.specs.Report.{IsSerial}

-- the first peer holds a node of the second one
abbrev start : Opening
start =
    opening 0
    (spec 0 4096 (limits 16 4096 16) ∷
    spec 1 4096 (limits 16 4096 16) ∷ [])
    (wire 1 0 4 ∷ [])

-- what each peer does
abbrev commands : List (List Command)
commands =
    (send (6 ∷ []) [] [] ∷
    send (8 ∷ []) [] [] ∷
    send (2 ∷ []) (6 ∷ []) [] ∷
    send [] [] [] ∷
    cmd.Release 4 ∷
    cmd.Release 6 ∷
    cmd.SliceRelease 0 ∷
    cmd.Destroy (4 ∷ []) ∷
    cmd.Destroy (4 ∷ 4 ∷ []) ∷
    cmd.Query ∷
    cmd.Disconnect ∷
    cmd.Query ∷ []) ∷
    [] ∷
    []

-- what the bus makes of it
abbrev row : Record
row = record {
  peers =
      peer 1 0 (
      call (send (6 ∷ []) [] []) (refused (reason.Unknown 6) None) ∷
      call (send (8 ∷ []) [] []) (refused (reason.Unknown 8) None) ∷
      call (send (2 ∷ []) (6 ∷ []) []) (refused (reason.Unknown 6) None) ∷
      call (send [] [] []) (refused reason.Invalid None) ∷
      call (cmd.Release 4) (refused reason.Invalid None) ∷
      call (cmd.Release 6) (refused (reason.Unknown 6) None) ∷
      call (cmd.SliceRelease 0) (refused (reason.Unknown 0) None) ∷
      call (cmd.Destroy (4 ∷ [])) (refused (reason.Unknown 4) None) ∷
      call (cmd.Destroy (4 ∷ 4 ∷ [])) (refused reason.Invalid None) ∷
      call cmd.Query (ans.Info 0 4096 (limits 16 4096 16)) ∷
      call cmd.Disconnect (ans.Reset None) ∷
      call cmd.Query (refused reason.Shutdown None) ∷ []) ∷
      peer 0 0 (
      call cmd.Recv (ans.Got (rec.Released 0 4)) ∷ []) ∷
      [];
}

-- the script ends with this record
pub ends : IsSerial start commands no_shortage row
ends = record { finished = refl; record_is = refl }
