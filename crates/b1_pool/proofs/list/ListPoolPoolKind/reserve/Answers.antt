use Rattle.std.proofs.Common.{length, ap, arith}
use Rattle.b1_pool.proofs.FreeLemmas.{free-least}
use Rattle.b1_pool.proofs.list.ListPoolPoolKind.reserve.Goals as goal

pub overflow_sub-len : goal.overflow_sub-len
overflow_sub-len c = omega (arith, ap length c.self.invariant.listed, free-least c.self.inside.slices.items, ap length c.reserve.ensures.items)
