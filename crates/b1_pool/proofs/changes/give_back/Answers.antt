use Rattle.std.proofs.Common.{refl, arith}
use Rattle.b1_pool.proofs.SliceLemmas.{given_first, given_later}
use Rattle.b1_pool.proofs.changes.give_back.Goals as goal

pub returns-then-i-gt0-clause-slices : goal.returns-then-i-gt0-clause-slices
returns-then-i-gt0-clause-slices c =
    given_later c.args.slices.now.items _ _ _ c.args.i c.requires.merged refl c.free_at-at.ensures.slices c.if-i-gt0.true c.join.ensures.slices

pub returns-else-i-gt0-clause-slices : goal.returns-else-i-gt0-clause-slices
returns-else-i-gt0-clause-slices c =
    given_first c.args.slices.now.items _ _ c.args.i c.requires.merged refl c.free_at-at.ensures.slices (omega arith)
