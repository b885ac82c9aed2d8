use Rattle.std.proofs.Common.{◌≡◌, sym, ap, subst, ◌∙◌, rules}
use Rattle.b1_model.specs.MachineDriver.{next_action}
use Rattle.b1_driver.specs.Parts.{Driver}
use Rattle.b1_driver.specs.Stages.{OwesDrop}
use Rattle.b1_driver.proofs.Fitting.{rests, rests_there}
use Rattle.b1_driver.proofs.driver.DriverState.next.Goals as goal

pub returns-in-None-clause-rest : goal.returns-in-None-clause-rest
returns-in-None-clause-rest c =
    let d = c.args.self.now.part in
    let action : c.stage_action.result ≡ next_action d = search rules in
    let owes = subst (λ l. OwesDrop l c.self.inside.doing) (ap (λ (e : Driver). e.part.owed) c.self.view_is) c.self.invariant.owes in
    ((λ e. rests d c.self.inside.doing c.self.inside.doomed.items (sym (ap (λ (e : Driver). e.part.doing) c.self.view_is)) owes (sym action ∙ e)), (λ e. action ∙ rests_there d e))
