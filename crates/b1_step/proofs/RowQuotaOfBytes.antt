-- The quota of bytes, for another user and for the destination's own.
use Rattle.std.specs.Prelude.{◌≡◌, refl, List, [], ◌∷◌, None, Some, option_map}
use Rattle.b1_model.specs.declared.commands.Command.TheVariants as cmd
use Rattle.b1_model.specs.declared.answers.Reason.TheVariants as reason
use Rattle.b1_model.specs.declared.answers.Quantity.TheVariants.{Bytes}
use Rattle.b1_model.specs.declared.answers.Receipt.TheVariants as rec
use Rattle.b1_model.specs.declared.answers.Answer.TheVariants as ans
use Rattle.b1_model.specs.declared.naming.Opening.{Opening}
use Rattle.b1_model.specs.declared.records.Record.{Record}
use Rattle.b1_model.specs.MachineStep.{Label, record_of_state}
use Rattle.b1_step.proofs.RowWords.{call, key, limits, spec, wire, send, sent, refused, peer, opening, from, labels, LeadsTo, played}
use Rattle.b1_step.proofs.Steps.{leads_to}

abbrev start : Opening
start = opening 0 (spec 0 4096 (limits 16 4096 16) ∷ spec 1 4096 (limits 16 32 16) ∷ []) (wire 1 0 4 ∷ [])

abbrev steps : List Label
steps = labels (
    from 0 (send (2 ∷ []) [] (0 ∷ 0 ∷ 0 ∷ 0 ∷ 0 ∷ 0 ∷ 0 ∷ 0 ∷ 0 ∷ 0 ∷ 0 ∷ 0 ∷ 0 ∷ 0 ∷ 0 ∷ 0 ∷ 0 ∷ [])) 1 ∷
    from 0 (send (2 ∷ []) [] (0 ∷ 0 ∷ 0 ∷ 0 ∷ 0 ∷ 0 ∷ 0 ∷ 0 ∷ 0 ∷ 0 ∷ 0 ∷ 0 ∷ 0 ∷ 0 ∷ 0 ∷ 0 ∷ [])) 4 ∷
    from 0 (send (2 ∷ []) [] (0 ∷ 0 ∷ 0 ∷ 0 ∷ 0 ∷ 0 ∷ 0 ∷ 0 ∷ [])) 1 ∷
    from 1 (send (4 ∷ []) [] (0 ∷ 0 ∷ 0 ∷ 0 ∷ 0 ∷ 0 ∷ 0 ∷ 0 ∷ 0 ∷ 0 ∷ 0 ∷ 0 ∷ 0 ∷ 0 ∷ 0 ∷ 0 ∷ [])) 4 ∷
    from 1 (send (4 ∷ []) [] (0 ∷ 0 ∷ 0 ∷ 0 ∷ 0 ∷ 0 ∷ 0 ∷ 0 ∷ [])) 1 ∷
    from 0 cmd.Await 0 ∷
    from 1 cmd.Await 0 ∷
    from 1 cmd.Await 0 ∷
    from 1 cmd.Await 0 ∷
    from 0 cmd.Await 0 ∷
    from 1 cmd.Await 0 ∷
    [])

abbrev row : Record
row = record {
  peers =
      peer 0 2 (
      call (send (2 ∷ []) [] (0 ∷ 0 ∷ 0 ∷ 0 ∷ 0 ∷ 0 ∷ 0 ∷ 0 ∷ 0 ∷ 0 ∷ 0 ∷ 0 ∷ 0 ∷ 0 ∷ 0 ∷ 0 ∷ 0 ∷ [])) (refused (reason.Quota Bytes 0 0 32 24) (Some 0)) ∷
      call (send (2 ∷ []) [] (0 ∷ 0 ∷ 0 ∷ 0 ∷ 0 ∷ 0 ∷ 0 ∷ 0 ∷ 0 ∷ 0 ∷ 0 ∷ 0 ∷ 0 ∷ 0 ∷ 0 ∷ 0 ∷ [])) (sent 2 (None ∷ [])) ∷
      call (send (2 ∷ []) [] (0 ∷ 0 ∷ 0 ∷ 0 ∷ 0 ∷ 0 ∷ 0 ∷ 0 ∷ [])) (refused (reason.Quota Bytes 16 0 32 8) (Some 0)) ∷ []) ∷
      peer 0 4 (
      call (send (4 ∷ []) [] (0 ∷ 0 ∷ 0 ∷ 0 ∷ 0 ∷ 0 ∷ 0 ∷ 0 ∷ 0 ∷ 0 ∷ 0 ∷ 0 ∷ 0 ∷ 0 ∷ 0 ∷ 0 ∷ [])) (sent 4 (None ∷ [])) ∷
      call (send (4 ∷ []) [] (0 ∷ 0 ∷ 0 ∷ 0 ∷ 0 ∷ 0 ∷ 0 ∷ 0 ∷ [])) (refused (reason.Quota Bytes 16 16 32 8) (Some 0)) ∷
      call cmd.Recv (ans.Got (rec.Message (key 2 0 0) 4 0 [] (0 ∷ 0 ∷ 0 ∷ 0 ∷ 0 ∷ 0 ∷ 0 ∷ 0 ∷ 0 ∷ 0 ∷ 0 ∷ 0 ∷ 0 ∷ 0 ∷ 0 ∷ 0 ∷ []))) ∷
      call cmd.Recv (ans.Got (rec.Message (key 4 1 0) 4 16 [] (0 ∷ 0 ∷ 0 ∷ 0 ∷ 0 ∷ 0 ∷ 0 ∷ 0 ∷ 0 ∷ 0 ∷ 0 ∷ 0 ∷ 0 ∷ 0 ∷ 0 ∷ 0 ∷ []))) ∷ []) ∷ [];
}

computes : option_map (λ s. record_of_state s) (played start steps) ≡ Some row
computes = refl

-- the steps lead from the opening to a state with the record
pub leads : LeadsTo start steps row
leads = leads_to start steps row computes
