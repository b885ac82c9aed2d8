-- A reset without nodes, then a disconnect.
use Rattle.std.specs.Prelude.{◌≡◌, refl, List, [], ◌∷◌, None, Some, option_map}
use Rattle.b1_model.specs.declared.commands.Command.TheVariants as cmd
use Rattle.b1_model.specs.declared.answers.Reason.TheVariants as reason
use Rattle.b1_model.specs.declared.answers.Answer.TheVariants as ans
use Rattle.b1_model.specs.declared.naming.Opening.{Opening}
use Rattle.b1_model.specs.declared.records.Record.{Record}
use Rattle.b1_model.specs.MachineStep.{Label, record_of_state}
use Rattle.b1_step.proofs.RowWords.{call, limits, spec, refused, peer, opening, from, labels, LeadsTo, played}
use Rattle.b1_step.proofs.Steps.{leads_to}

abbrev start : Opening
start = opening 0 (spec 0 4096 (limits 16 4096 16) ∷ []) []

abbrev steps : List Label
steps = labels (
    from 0 (cmd.Reset (limits 1 8 0)) 1 ∷
    from 0 cmd.Query 0 ∷
    from 0 cmd.Disconnect 1 ∷
    from 0 cmd.Recv 0 ∷
    [])

abbrev row : Record
row = record {
  peers =
      peer 2 0 (
      call (cmd.Reset (limits 1 8 0)) (ans.Reset None) ∷
      call cmd.Query (ans.Info 0 4096 (limits 1 8 0)) ∷
      call cmd.Disconnect (ans.Reset None) ∷
      call cmd.Recv (refused reason.Shutdown None) ∷ []) ∷ [];
}

computes : option_map (λ s. record_of_state s) (played start steps) ≡ Some row
computes = refl

-- the steps lead from the opening to a state with the record
pub leads : LeadsTo start steps row
leads = leads_to start steps row computes
