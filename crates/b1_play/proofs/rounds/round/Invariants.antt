-- The round has come to this peer.
use Rattle.b1_play.specs.Rounds.{Passes, no_gain}
use Rattle.b1_play.proofs.rounds.round.Given as goal

abbrev pub invariant-loop-p : goal.invariant-loop-p
invariant-loop-p g l = Passes l.fn.core 0 no_gain l.core l.p l.gain
