use Rattle.b1_model.proofs.BusOrder.{gathered_one}
use Rattle.b1_model.proofs.order.gather.Goals as goal

pub loop-index-preserved : goal.loop-index-preserved
loop-index-preserved c = gathered_one _ _ _ _ _ _ _ _ c.loop-index.invariant c.loop-index-test.true c.index-calls-index.is c.in_ok-gather_one.ensures c.answer_stamp.ensures
