-- A destruction that is stamped before a send takes the send's message away.
use Rattle.std.specs.Prelude.{◌≡◌, refl, List, [], ◌∷◌, None, Some, option_map}
use Rattle.b1_model.specs.declared.commands.Command.TheVariants as cmd
use Rattle.b1_model.specs.declared.answers.Reason.TheVariants as reason
use Rattle.b1_model.specs.declared.answers.Front.TheVariants.{Staged}
use Rattle.b1_model.specs.declared.answers.Receipt.TheVariants as rec
use Rattle.b1_model.specs.declared.answers.Answer.TheVariants as ans
use Rattle.b1_model.specs.declared.naming.Opening.{Opening}
use Rattle.b1_model.specs.declared.records.Record.{Record}
use Rattle.b1_model.specs.MachineStep.{Label, record_of_state}
use Rattle.b1_step.proofs.RowWords.{call, key, limits, spec, wire, send, sent, refused, peer, opening, from, more, labels, LeadsTo, played}
use Rattle.b1_step.proofs.Steps.{leads_to}

abbrev start : Opening
start = opening 0 (spec 0 4096 (limits 16 4096 16) ∷ spec 1 4096 (limits 16 4096 16) ∷ []) (wire 0 1 4 ∷ [])

abbrev steps : List Label
steps = labels (
    from 1 (send (2 ∷ []) [] (97 ∷ [])) 1 ∷
    from 0 (cmd.Destroy (4 ∷ [])) 5 ∷
    from 0 cmd.Recv 0 ∷
    more 1 3 ∷
    from 0 cmd.Await 0 ∷
    from 0 cmd.Await 0 ∷
    from 1 cmd.Await 0 ∷
    from 1 cmd.Await 0 ∷
    from 0 cmd.Await 0 ∷
    from 1 cmd.Await 0 ∷
    [])

abbrev row : Record
row = record {
  peers =
      peer 0 4 (
      call (cmd.Destroy (4 ∷ [])) (ans.Destroyed 2) ∷
      call cmd.Recv (refused (reason.Again (Staged 1 1)) None) ∷
      call cmd.Recv (ans.Got (rec.Destroyed (key 2 0 0) 4)) ∷ []) ∷
      peer 0 4 (
      call (send (2 ∷ []) [] (97 ∷ [])) (sent 4 (None ∷ [])) ∷
      call cmd.Recv (ans.Got (rec.Destroyed (key 2 0 0) 2)) ∷ []) ∷ [];
}

computes : option_map (λ s. record_of_state s) (played start steps) ≡ Some row
computes = refl

-- the steps lead from the opening to a state with the record
pub leads : LeadsTo start steps row
leads = leads_to start steps row computes
