-- At the beginning of a round.
use Rattle.b1_progress.specs.Level.{attempts_left}
use Rattle.b1_play.specs.Rounds.{Rounds}
use Rattle.b1_play.proofs.rounds.rounds_of_attempts.Given as goal

abbrev pub invariant-loop-gain : goal.invariant-loop-gain
invariant-loop-gain g l = Rounds l.fn.core l.core

abbrev pub decreases-loop-gain : goal.decreases-loop-gain
decreases-loop-gain g l = attempts_left l.core.state
