use Rattle.std.proofs.Common.{get_or, ap, ◌∙◌}
use Rattle.b1_model.specs.MachineDriver.{Goes, visiting, with_visit}
use Rattle.b1_driver.specs.Stages.{with_doomed}
use Rattle.b1_driver.proofs.destroyed.visit_answered.Goals as goal

pub returns-in-Destroying-Visiting-clause-turn : goal.returns-in-Destroying-Visiting-clause-turn
returns-in-Destroying-Visiting-clause-turn c me command doomed =
    rw (c.in-Destroying-Visiting.is, c.in-Destroying-Visiting.field-0-is)
    (ap Goes
    (c.visiting.ensures.phase doomed
    ∙ ap (λ v. visiting v c.take_peer-peer.new.left) (c.with_visit-visits.ensures doomed ∙ ap (λ p. with_visit (with_doomed doomed c.in-Destroying-Visiting.visits) p c.args.got) (c.take_peer-peer.ensures.peer me))
    ∙ ap (visiting (with_visit (with_doomed doomed c.in-Destroying-Visiting.visits) (get_or c.in-Destroying-Visiting.left 0 me) c.args.got)) c.take_peer-peer.ensures.rest))
