use Rattle.std.proofs.Common.{rules}
use Rattle.std.proofs.lemmas.List.Sorted.{IsPartitionPoint-from_clause}
use Rattle.b1_queue.specs.Queue.{is_before}
use Rattle.b1_queue.proofs.Entries.{searchable}
use Rattle.b1_peer_queue.proofs.marks.place_of.Goals as goal

pub returns-clause-before : goal.returns-clause-before
returns-clause-before c =
    (IsPartitionPoint-from_clause (λ e. is_before e.0 c.args.key.now) c.args.marks.now.items _ c.partition_point.ensures.partitioned
    (searchable c.args.key.now c.args.marks.now.items c.requires) (λ a r f k. search rules)).0

pub returns-clause-after : goal.returns-clause-after
returns-clause-after c =
    (IsPartitionPoint-from_clause (λ e. is_before e.0 c.args.key.now) c.args.marks.now.items _ c.partition_point.ensures.partitioned
    (searchable c.args.key.now c.args.marks.now.items c.requires) (λ a r f k. search rules)).1
