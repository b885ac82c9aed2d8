use Rattle.std.proofs.Common.{◌+◌, ap, ◌∙◌, arith}
use Rattle.b1_pool.specs.Slices.{begins, is_used, length_at}
use Rattle.b1_peer_pool.proofs.Words.{len_at-in_words}
use Rattle.b1_peer_pool.proofs.Filling.{used_there, ends_within, numbers_more}
use Rattle.b1_peer_pool.proofs.fill.put_numbers.Goals as goal

pub write-requires-clause-used : goal.write-requires-clause-used
write-requires-clause-used g c = ap (begins is_used c.args.offset) c.loop-number.invariant.0 ∙ used_there c.args.offset _ c.requires.queued

pub write-requires-clause-within : goal.write-requires-clause-within
write-requires-clause-within g c =
    omega (
      arith,
      c.loop-number.invariant.2,
      c.loop-number-test.true,
      c.requires.within,
      len_at-in_words c.args.offset (g.P.PoolKind.slices c.args.pool.now),
      ap (length_at c.args.offset) c.loop-number.invariant.0,
    )

pub overflow_add-place : goal.overflow_add-place
overflow_add-place g c =
    omega (
      arith,
      c.loop-number.invariant.2,
      c.loop-number-test.true,
      c.requires.within,
      ends_within _ c.args.offset _ c.requires.sound c.requires.queued,
      c.requires.sound.in_range.most,
    )

pub loop-number-preserved : goal.loop-number-preserved
loop-number-preserved g c = (
  c.write.ensures.slices ∙ c.loop-number.invariant.0,
  c.write.ensures.spare ∙ c.loop-number.invariant.1,
  omega (arith, c.loop-number.invariant.2),
  numbers_more (c.args.offset + c.args.at) c.loop-number.number-index _ _ _ _ _ _ c.loop-number-test.true
      (omega (arith, c.requires.within, ends_within _ c.args.offset _ c.requires.sound c.requires.queued))
      c.loop-number.invariant.3 c.to_le_bytes.ensures c.write.ensures.content (omega (arith, c.loop-number.invariant.2)),
)
