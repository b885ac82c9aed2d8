use Rattle.std.proofs.Common.{length, ap, arith}
use Rattle.b1_poolx.proofs.ChangeLemmas.{length-by_size-le}
use Rattle.b1_poolx.proofs.pool.SizedPoolPoolKind.reserve.Goals as goal

pub overflow_sub-len : goal.overflow_sub-len
overflow_sub-len c = omega (arith, ap length c.self.invariant.sized, length-by_size-le c.self.inside.slices.items)
