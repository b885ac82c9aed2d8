use Rattle.b1_judge_facts.proofs.LinesLeft.{received_step}
use Rattle.b1_judge_facts.proofs.table.Table.receive_all.Goals as goal

pub loop-index-preserved : goal.loop-index-preserved
loop-index-preserved c = received_step _ _ _ _ _ _ _ c.loop-index.invariant c.loop-index-test.true c.slot.ensures c.in_ok-receive.ensures
