-- At the beginning of a pass.
use Rattle.b1_progress.specs.Level.{level}
use Rattle.b1_play.specs.Draining.{Drains}
use Rattle.b1_play.proofs.drain.drain_all.Given as goal

abbrev pub invariant-loop : goal.invariant-loop
invariant-loop g l = Drains l.fn.core l.core

abbrev pub decreases-loop : goal.decreases-loop
decreases-loop g l = level l.core.state
