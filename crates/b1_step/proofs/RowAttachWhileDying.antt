-- A handle is attached while its node is dying, and its destination is visited late.
use Rattle.std.specs.Prelude.{◌≡◌, refl, List, [], ◌∷◌, None, Some, option_map}
use Rattle.b1_model.specs.declared.commands.Command.TheVariants as cmd
use Rattle.b1_model.specs.declared.answers.Receipt.TheVariants as rec
use Rattle.b1_model.specs.declared.answers.Answer.TheVariants as ans
use Rattle.b1_model.specs.declared.naming.Opening.{Opening}
use Rattle.b1_model.specs.declared.records.Record.{Record}
use Rattle.b1_model.specs.MachineStep.{Label, record_of_state}
use Rattle.b1_step.proofs.RowWords.{call, key, limits, spec, wire, send, sent, peer, opening, from, more, labels, LeadsTo, played}
use Rattle.b1_step.proofs.Steps.{leads_to}

abbrev start : Opening
start = opening 0 (spec 0 4096 (limits 16 4096 16) ∷ spec 1 4096 (limits 16 4096 16) ∷ spec 2 4096 (limits 16 4096 16) ∷ []) (wire 1 0 4 ∷ wire 2 0 4 ∷ [])

abbrev steps : List Label
steps = labels (
    from 2 (cmd.Destroy (4 ∷ [])) 0 ∷
    from 0 (send (2 ∷ []) (6 ∷ []) (97 ∷ [])) 2 ∷
    more 2 3 ∷
    more 0 3 ∷
    more 2 6 ∷
    from 0 cmd.Await 0 ∷
    from 0 cmd.Await 0 ∷
    from 1 cmd.Await 0 ∷
    from 1 cmd.Await 0 ∷
    from 1 cmd.Await 0 ∷
    from 2 cmd.Await 0 ∷
    from 2 cmd.Await 0 ∷
    from 0 cmd.Await 0 ∷
    from 1 cmd.Await 0 ∷
    from 2 cmd.Await 0 ∷
    [])

abbrev row : Record
row = record {
  peers =
      peer 0 2 (
      call (send (2 ∷ []) (6 ∷ []) (97 ∷ [])) (sent 2 (None ∷ [])) ∷
      call cmd.Recv (ans.Got (rec.Destroyed (key 2 2 0) 6)) ∷ []) ∷
      peer 0 2 (
      call cmd.Recv (ans.Got (rec.Message (key 2 0 0) 4 0 (2 ∷ []) (97 ∷ []))) ∷
      call cmd.Recv (ans.Got (rec.Destroyed (key 2 2 0) 2)) ∷ []) ∷
      peer 0 2 (
      call (cmd.Destroy (4 ∷ [])) (ans.Destroyed 2) ∷
      call cmd.Recv (ans.Got (rec.Destroyed (key 2 2 0) 4)) ∷ []) ∷ [];
}

computes : option_map (λ s. record_of_state s) (played start steps) ≡ Some row
computes = refl

-- the steps lead from the opening to a state with the record
pub leads : LeadsTo start steps row
leads = leads_to start steps row computes
