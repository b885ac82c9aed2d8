use Rattle.b1_judge_facts.proofs.Starts.{begun_next}
use Rattle.b1_judge_facts.proofs.start.begin.Goals as goal

pub loop-wire-preserved : goal.loop-wire-preserved
loop-wire-preserved c = begun_next c.args.wires.now c.loop-wire.wire-index c.args.count _ c.loop-wire.all.items c.give.new.all.items c.loop-wire-test.true c.loop-wire.invariant c.in_ok-give.ensures
