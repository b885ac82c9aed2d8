use Rattle.std.proofs.Common.{◌≡◌, false}
use Rattle.b1_model.specs.Script.{commands_of}
use Rattle.b1_run.specs.Workers.{HasEnded, IsAt}
use Rattle.b1_run.proofs.draining.drain_at.Given as goal

abbrev pub invariant-loop : goal.invariant-loop
invariant-loop g l =
    (goal.iterator-loop g).can_next l.iterator' × (goal.iterator-loop g).is_finite l.iterator'
    × IsAt l.bus (commands_of l.lists l.p) l.p l.worker.driver
    × HasEnded (commands_of l.lists l.p) l.worker.driver.own
    × (l.worker.driver.own.part.shut ≡ false)
