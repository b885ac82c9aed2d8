use Rattle.std.proofs.Common.{ap, ◌∙◌, arith}
use Rattle.b1_pool.specs.Slices.{is_used, begins, length_at}
use Rattle.b1_pool.proofs.PoolLemmas.{within-IsPool}
use Rattle.b1_pool.proofs.list.ListPoolPoolKind.write.Goals as goal

pub slice_bounds-copy_from_slice-end : goal.slice_bounds-copy_from_slice-end
slice_bounds-copy_from_slice-end c =
    let used = ap (λ v. begins is_used c.args.off v.slices) c.self.view_is ∙ c.requires.used in
    omega (arith, within-IsPool _ _ is_used _ c.self.invariant.pool used, ap (λ v. length_at c.args.off v.slices) c.self.view_is)
