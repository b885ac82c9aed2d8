use Rattle.std.proofs.Common.{rules, nat_lt}
use Rattle.std.proofs.lemmas.List.Sorted.{IsPartitionPoint-from_clause}
use Rattle.b1_pool.proofs.OrderLemmas.{searchable}
use Rattle.b1_pool.proofs.places.count_before.Goals as goal

pub returns-clause-before : goal.returns-clause-before
returns-clause-before c =
    (IsPartitionPoint-from_clause (λ s. nat_lt s.offset c.args.off) c.args.slices.now.items _ c.partition_point.ensures.partitioned
    (searchable c.args.off c.args.slices.now.items c.requires) (λ a r f k. search rules)).0

pub returns-clause-after : goal.returns-clause-after
returns-clause-after c =
    (IsPartitionPoint-from_clause (λ s. nat_lt s.offset c.args.off) c.args.slices.now.items _ c.partition_point.ensures.partitioned
    (searchable c.args.off c.args.slices.now.items c.requires) (λ a r f k. search rules)).1
