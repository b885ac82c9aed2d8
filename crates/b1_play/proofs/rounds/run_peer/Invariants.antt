-- The round goes on at this peer.
use Rattle.b1_progress.specs.Level.{commands_left}
use Rattle.b1_play.specs.Rounds.{Passes}
use Rattle.b1_play.proofs.rounds.run_peer.Given as goal

abbrev pub invariant-loop-gain : goal.invariant-loop-gain
invariant-loop-gain g l = Passes l.fn.core l.p l.fn.before l.core l.p l.gain

abbrev pub decreases-loop-gain : goal.decreases-loop-gain
decreases-loop-gain g l = commands_left l.core.commands l.core.state
