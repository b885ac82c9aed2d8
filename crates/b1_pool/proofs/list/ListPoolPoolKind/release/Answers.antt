use Rattle.b1_pool.proofs.PoolLemmas.{total-IsPool}
use Rattle.b1_pool.proofs.OrderLemmas.{rising-IsPool}
use Rattle.b1_pool.proofs.list.ListPoolPoolKind.release.Goals as goal

pub release-requires-clause-rising : goal.release-requires-clause-rising
release-requires-clause-rising c = rising-IsPool _ _ c.self.invariant.pool

pub release-requires-clause-inside : goal.release-requires-clause-inside
release-requires-clause-inside c = total-IsPool _ _ c.self.invariant.pool
