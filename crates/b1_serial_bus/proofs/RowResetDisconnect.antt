-- A reset sets new limits, and a peer that has disconnected is refused.
use Rattle.std.specs.Prelude.{refl, List, [], ◌∷◌, None}
use Rattle.b1_model.specs.declared.commands.Command.{Command}
use Rattle.b1_model.specs.declared.commands.Command.TheVariants as cmd
use Rattle.b1_model.specs.declared.answers.Reason.TheVariants as reason
use Rattle.b1_model.specs.declared.answers.Answer.TheVariants as ans
use Rattle.b1_model.specs.declared.naming.Opening.{Opening}
use Rattle.b1_model.specs.declared.records.Record.{Record}
use Rattle.b1_step.proofs.RowWords.{call, limits, spec, refused, peer, opening}
use Rattle.b1_schedule.specs.Shortage.{no_shortage}
use Rattle.b1_serial_bus.specs.Report.{IsSerial}

-- one peer
abbrev start : Opening
start =
    opening 0
    (spec 0 4096 (limits 16 4096 16) ∷ [])
    []

-- what each peer does
abbrev commands : List (List Command)
commands =
    (cmd.Reset (limits 1 8 0) ∷
    cmd.Query ∷
    cmd.Disconnect ∷
    cmd.Recv ∷ []) ∷
    []

-- what the bus makes of it
abbrev row : Record
row = record {
  peers =
      peer 2 0 (
      call (cmd.Reset (limits 1 8 0)) (ans.Reset None) ∷
      call cmd.Query (ans.Info 0 4096 (limits 1 8 0)) ∷
      call cmd.Disconnect (ans.Reset None) ∷
      call cmd.Recv (refused reason.Shutdown None) ∷ []) ∷
      [];
}

-- the script ends with this record
pub ends : IsSerial start commands no_shortage row
ends = record { finished = refl; record_is = refl }
