-- At the beginning of a round.
use Rattle.b1_progress.specs.Level.{commands_left}
use Rattle.b1_play.specs.Rounds.{Rounds}
use Rattle.b1_play.proofs.rounds.play_rounds.Given as goal

abbrev pub invariant-loop-end : goal.invariant-loop-end
invariant-loop-end g l = Rounds l.fn.core l.core

abbrev pub decreases-loop-end : goal.decreases-loop-end
decreases-loop-end g l = commands_left l.core.commands l.core.state
