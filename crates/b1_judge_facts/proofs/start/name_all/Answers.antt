use Rattle.b1_judge_facts.proofs.Starts.{named_next}
use Rattle.b1_judge_facts.proofs.start.name_all.Goals as goal

pub loop-wire-preserved : goal.loop-wire-preserved
loop-wire-preserved c = named_next c.args.wires.now c.loop-wire.wire-index c.args.count _ c.loop-wire.all.items c.name.new.all.items c.loop-wire-test.true c.loop-wire.invariant c.in_ok-name.ensures
