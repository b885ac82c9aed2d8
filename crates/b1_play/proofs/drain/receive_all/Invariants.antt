-- The peer goes on to receive.
use Rattle.b1_progress.specs.Level.{level}
use Rattle.b1_play.specs.Draining.{Receives}
use Rattle.b1_play.proofs.drain.receive_all.Given as goal

abbrev pub invariant-loop : goal.invariant-loop
invariant-loop g l = Receives l.fn.core l.p l.fn.before l.core l.gained

abbrev pub decreases-loop : goal.decreases-loop
decreases-loop g l = level l.core.state
