use Rattle.b1_pool.proofs.PoolLemmas.{total-IsPool}
use Rattle.b1_pool.proofs.OrderLemmas.{rising-IsPool}
use Rattle.b1_poolx.proofs.pool.SizedPoolPoolKind.cancel.Goals as goal

pub cancel-requires-clause-inside : goal.cancel-requires-clause-inside
cancel-requires-clause-inside c = total-IsPool _ _ c.self.invariant.pool

pub cancel-requires-clause-rising : goal.cancel-requires-clause-rising
cancel-requires-clause-rising c = rising-IsPool _ _ c.self.invariant.pool
