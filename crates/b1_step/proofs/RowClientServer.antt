-- A client, a server and a logger.
use Rattle.std.specs.Prelude.{◌≡◌, refl, List, [], ◌∷◌, None, Some, option_map}
use Rattle.b1_model.specs.declared.commands.Command.TheVariants as cmd
use Rattle.b1_model.specs.declared.answers.Receipt.TheVariants as rec
use Rattle.b1_model.specs.declared.answers.Answer.TheVariants as ans
use Rattle.b1_model.specs.declared.naming.Opening.{Opening}
use Rattle.b1_model.specs.declared.records.Record.{Record}
use Rattle.b1_model.specs.MachineStep.{Label, record_of_state}
use Rattle.b1_step.proofs.RowWords.{call, key, limits, spec, wire, send, sent, peer, opening, from, labels, LeadsTo, played}
use Rattle.b1_step.proofs.Steps.{leads_to}

abbrev start : Opening
start = opening 0 (spec 0 4096 (limits 16 4096 16) ∷ spec 1 4096 (limits 16 4096 16) ∷ spec 2 4096 (limits 16 4096 16) ∷ []) (wire 1 0 4 ∷ wire 2 0 4 ∷ wire 2 1 4 ∷ [])

abbrev steps : List Label
steps = labels (
    from 0 (send (2 ∷ 6 ∷ []) (4 ∷ []) (103 ∷ 101 ∷ 116 ∷ [])) 9 ∷
    from 0 cmd.Await 0 ∷
    from 1 cmd.Await 0 ∷
    from 1 (send (6 ∷ []) [] (111 ∷ 107 ∷ [])) 4 ∷
    from 1 (cmd.Release 6) 1 ∷
    from 1 (cmd.SliceRelease 0) 0 ∷
    from 1 (cmd.Destroy (4 ∷ [])) 5 ∷
    from 2 cmd.Await 0 ∷
    from 2 (cmd.Release 2) 1 ∷
    from 2 (cmd.SliceRelease 0) 0 ∷
    from 0 cmd.Await 0 ∷
    from 0 (cmd.SliceRelease 0) 0 ∷
    from 0 cmd.Await 0 ∷
    from 0 cmd.Await 0 ∷
    from 0 (cmd.Release 2) 1 ∷
    from 0 (cmd.Destroy (4 ∷ [])) 2 ∷
    from 0 cmd.Await 0 ∷
    from 0 cmd.Await 0 ∷
    from 1 cmd.Await 0 ∷
    from 1 cmd.Await 0 ∷
    from 2 cmd.Await 0 ∷
    from 0 cmd.Await 0 ∷
    from 1 cmd.Await 0 ∷
    from 2 cmd.Await 0 ∷
    [])

abbrev row : Record
row = record {
  peers =
      peer 0 8 (
      call (send (2 ∷ 6 ∷ []) (4 ∷ []) (103 ∷ 101 ∷ 116 ∷ [])) (sent 2 (None ∷ None ∷ [])) ∷
      call cmd.Recv (ans.Got (rec.Message (key 4 1 0) 4 0 [] (111 ∷ 107 ∷ []))) ∷
      call (cmd.SliceRelease 0) ans.Done ∷
      call cmd.Recv (ans.Got (rec.Destroyed (key 6 1 0) 2)) ∷
      call cmd.Recv (ans.Got (rec.Released 6 4)) ∷
      call (cmd.Release 2) ans.Done ∷
      call (cmd.Destroy (4 ∷ [])) (ans.Destroyed 8) ∷
      call cmd.Recv (ans.Got (rec.Destroyed (key 8 0 0) 4)) ∷ []) ∷
      peer 0 6 (
      call cmd.Recv (ans.Got (rec.Message (key 2 0 0) 4 0 (6 ∷ []) (103 ∷ 101 ∷ 116 ∷ []))) ∷
      call (send (6 ∷ []) [] (111 ∷ 107 ∷ [])) (sent 4 (None ∷ [])) ∷
      call (cmd.Release 6) ans.Done ∷
      call (cmd.SliceRelease 0) ans.Done ∷
      call (cmd.Destroy (4 ∷ [])) (ans.Destroyed 6) ∷
      call cmd.Recv (ans.Got (rec.Destroyed (key 6 1 0) 4)) ∷ []) ∷
      peer 0 2 (
      call cmd.Recv (ans.Got (rec.Message (key 2 0 1) 4 0 (2 ∷ []) (103 ∷ 101 ∷ 116 ∷ []))) ∷
      call (cmd.Release 2) ans.Done ∷
      call (cmd.SliceRelease 0) ans.Done ∷ []) ∷ [];
}

computes : option_map (λ s. record_of_state s) (played start steps) ≡ Some row
computes = refl

-- the steps lead from the opening to a state with the record
pub leads : LeadsTo start steps row
leads = leads_to start steps row computes
