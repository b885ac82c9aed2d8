-- The turns up to here are played.
use Rattle.std.proofs.Common.{drop}
use Rattle.b1_play.specs.Plays.{TurnsTo}
use Rattle.b1_play.proofs.playing.play_turns.Given as goal

abbrev pub invariant-loop-p : goal.invariant-loop-p
invariant-loop-p g l = TurnsTo l.fn.core l.turns l.core (drop l.p-index l.turns)
