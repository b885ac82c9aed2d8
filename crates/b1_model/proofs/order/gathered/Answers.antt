use Rattle.b1_model.proofs.BusOrder.{gathered_peer}
use Rattle.b1_model.proofs.order.gathered.Goals as goal

pub loop-origin-preserved : goal.loop-origin-preserved
loop-origin-preserved c = gathered_peer c.args.rec.now _ _ _ _ _ _ c.as_slice-peer-items.ensures c.as_slice.ensures c.loop-origin.invariant c.loop-origin-test.true c.peer-item.is c.in_ok-gather.ensures
