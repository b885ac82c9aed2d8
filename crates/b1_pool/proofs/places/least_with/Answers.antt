use Rattle.std.proofs.Common.{sym}
use Rattle.b1_pool.proofs.FitLemmas.{least_more, least_passed}
use Rattle.b1_pool.proofs.places.least_with.Goals as goal
use Rattle.b1_pool.proofs.places.least_with.Goals.{then-is_long_enough, else-is_long_enough}

pub loop-s-preserved : goal.loop-s-preserved
loop-s-preserved c =
    elim c.if-is_long_enough.branch [
      | then-is_long_enough w ↦
          rw (w.least-is, w.lesser_so_far.ensures)
          (least_more c.args.len c.args.slices.now c.loop-s.s-index c.loop-s.least _ _ c.loop-s-test.true (sym w.if-is_long_enough.ensures) c.loop-s.invariant)
      | else-is_long_enough w ↦
          rw w.least-is
          (least_passed c.args.len c.args.slices.now c.loop-s.s-index c.loop-s.least _ _ c.loop-s-test.true (sym w.if-is_long_enough.ensures) c.loop-s.invariant)
    ]
