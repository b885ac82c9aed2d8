use Rattle.std.proofs.Common.{ap, sym, ◌∙◌, arith}
use Rattle.std.specs.Prelude.{filter}
use Rattle.b1_pool.specs.Slices.{is_free, is_unpublished, begins}
use Rattle.b1_pool.proofs.FreeLemmas.{free-published}
use Rattle.b1_pool.proofs.OrderLemmas.{rising-IsPool}
use Rattle.b1_pool.proofs.list.ListPoolPoolKind.publish.Goals as goal

pub publish_at-requires-clause-rising : goal.publish_at-requires-clause-rising
publish_at-requires-clause-rising c = rising-IsPool _ _ c.self.invariant.pool

pub invariant_of-self : goal.invariant_of-self
invariant_of-self c =
    let unpublished = ap (λ v. begins is_unpublished c.args.off v.slices) c.self.view_is ∙ c.requires in
    record {
      pool = c.publish_at.ensures.sound _ c.self.invariant.pool;
      listed = c.self.invariant.listed ∙ sym (ap (filter is_free) c.publish_at.ensures.slices ∙ free-published c.args.off c.self.inside.slices.items unpublished);
      room_for_all = omega (arith, c.self.invariant.room_for_all, c.publish_at.ensures.len);
    }
