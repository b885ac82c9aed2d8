-- The stamped calls stand in order, so a binary search finds those that are passed.
use Rattle.std.proofs.Common.{rules}
use Rattle.std.proofs.lemmas.List.Sorted.{IsPartitionPoint-from_clause}
use Rattle.b1_model.specs.Ledger.{is_before}
use Rattle.b1_judge.proofs.CandidateLemmas.{searchable}
use Rattle.b1_judge.proofs.candidates.passed_calls.Goals as goal

pub returns : goal.returns
returns c =
    (IsPartitionPoint-from_clause (λ s. is_before s.stamp s.origin c.args.key.stamp c.args.key.origin) c.args.stamps.now _ c.partition_point.ensures.partitioned
    (searchable c.args.stamps.now c.args.key c.requires) (λ a r f k. search rules)).0
