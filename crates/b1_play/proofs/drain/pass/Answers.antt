use Rattle.std.proofs.Common.{false}
use Rattle.b1_play.proofs.Emptying.{empties_trans}
use Rattle.b1_play.proofs.drain.pass.Goals as goal

pub loop-p-preserved : goal.loop-p-preserved
loop-p-preserved g c = empties_trans c.args.core.now c.loop-p.core c.drain_peer.new.core 0 c.loop-p.p _ false c.loop-p.gained c.in_ok-gained.gained c.loop-p.invariant c.in_ok-gained.ensures
