-- The command runs, or has ended.
use Rattle.b1_play.specs.Runs.{RoundTurns, work_after}
use Rattle.b1_play.proofs.commands.run_command.Given as goal

abbrev pub invariant-loop-turn : goal.invariant-loop-turn
invariant-loop-turn g l = RoundTurns l.fn.core l.p l.turn l.core

abbrev pub decreases-loop-turn : goal.decreases-loop-turn
decreases-loop-turn g l = work_after l.turn l.core l.p
