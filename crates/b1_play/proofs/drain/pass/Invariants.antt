-- The pass has come to this peer.
use Rattle.std.proofs.Common.{false}
use Rattle.b1_play.specs.Draining.{Empties}
use Rattle.b1_play.proofs.drain.pass.Given as goal

abbrev pub invariant-loop-p : goal.invariant-loop-p
invariant-loop-p g l = Empties l.fn.core 0 false l.core l.p l.gained
