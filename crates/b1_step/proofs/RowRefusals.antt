-- The refusals of each command.
use Rattle.std.specs.Prelude.{◌≡◌, refl, List, [], ◌∷◌, None, Some, option_map}
use Rattle.b1_model.specs.declared.commands.Command.TheVariants as cmd
use Rattle.b1_model.specs.declared.answers.Reason.TheVariants as reason
use Rattle.b1_model.specs.declared.answers.Receipt.TheVariants as rec
use Rattle.b1_model.specs.declared.answers.Answer.TheVariants as ans
use Rattle.b1_model.specs.declared.naming.Opening.{Opening}
use Rattle.b1_model.specs.declared.records.Record.{Record}
use Rattle.b1_model.specs.MachineStep.{Label, record_of_state}
use Rattle.b1_step.proofs.RowWords.{call, limits, spec, wire, send, refused, peer, opening, from, labels, LeadsTo, played}
use Rattle.b1_step.proofs.Steps.{leads_to}

abbrev start : Opening
start = opening 0 (spec 0 4096 (limits 16 4096 16) ∷ spec 1 4096 (limits 16 4096 16) ∷ []) (wire 1 0 4 ∷ [])

abbrev steps : List Label
steps = labels (
    from 0 (send (6 ∷ []) [] []) 0 ∷
    from 0 (send (8 ∷ []) [] []) 0 ∷
    from 0 (send (2 ∷ []) (6 ∷ []) []) 0 ∷
    from 0 (send [] [] []) 0 ∷
    from 0 (cmd.Release 4) 0 ∷
    from 0 (cmd.Release 6) 0 ∷
    from 0 (cmd.SliceRelease 0) 0 ∷
    from 0 (cmd.Destroy (4 ∷ [])) 0 ∷
    from 0 (cmd.Destroy (4 ∷ 4 ∷ [])) 0 ∷
    from 0 cmd.Query 0 ∷
    from 0 cmd.Disconnect 3 ∷
    from 0 cmd.Query 0 ∷
    from 1 cmd.Await 0 ∷
    from 1 cmd.Await 0 ∷
    from 1 cmd.Await 0 ∷
    [])

abbrev row : Record
row = record {
  peers =
      peer 1 0 (
      call (send (6 ∷ []) [] []) (refused (reason.Unknown 6) None) ∷
      call (send (8 ∷ []) [] []) (refused (reason.Unknown 8) None) ∷
      call (send (2 ∷ []) (6 ∷ []) []) (refused (reason.Unknown 6) None) ∷
      call (send [] [] []) (refused reason.Invalid None) ∷
      call (cmd.Release 4) (refused reason.Invalid None) ∷
      call (cmd.Release 6) (refused (reason.Unknown 6) None) ∷
      call (cmd.SliceRelease 0) (refused (reason.Unknown 0) None) ∷
      call (cmd.Destroy (4 ∷ [])) (refused (reason.Unknown 4) None) ∷
      call (cmd.Destroy (4 ∷ 4 ∷ [])) (refused reason.Invalid None) ∷
      call cmd.Query (ans.Info 0 4096 (limits 16 4096 16)) ∷
      call cmd.Disconnect (ans.Reset None) ∷
      call cmd.Query (refused reason.Shutdown None) ∷ []) ∷
      peer 0 0 (
      call cmd.Recv (ans.Got (rec.Released 0 4)) ∷ []) ∷ [];
}

computes : option_map (λ s. record_of_state s) (played start steps) ≡ Some row
computes = refl

-- the steps lead from the opening to a state with the record
pub leads : LeadsTo start steps row
leads = leads_to start steps row computes
