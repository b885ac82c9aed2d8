use Rattle.std.proofs.Common.{arith}
use Rattle.b1_play.specs.Rounds.{no_gain}
use Rattle.b1_play.proofs.Passing.{passes_trans}
use Rattle.b1_play.proofs.rounds.round.Goals as goal

pub loop-p-preserved : goal.loop-p-preserved
loop-p-preserved g c = passes_trans c.args.core.now c.loop-p.core c.run_peer.new.core 0 c.loop-p.p _ no_gain c.loop-p.gain c.in_ok-gain.gain c.loop-p.invariant c.in_ok-gain.ensures (omega arith)
