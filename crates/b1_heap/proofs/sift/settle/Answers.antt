use Rattle.std.proofs.Common.{arith, sym}
use Rattle.b1_heap.proofs.Moves.{rises_here, sinks_here}
use Rattle.b1_heap.proofs.sift.settle.Goals as goal
use Rattle.b1_heap.proofs.sift.settle.Goals.{else-at-gt0-via-then-at-gt0+else-is_before, else-at-gt0-via-else-at-gt0}

pub sift_up-requires-clause-rises : goal.sift_up-requires-clause-rises
sift_up-requires-clause-rises g c =
    rises_here c.args.cells.now (record { stamp = 0; origin = 0; index = 0 }, 0) c.args.at c.if-at-gt0.true c.requires.within
    (sym c.if-is_before.ensures.value)
    c.requires.moves

pub sift_down-requires-clause-sinks : goal.sift_down-requires-clause-sinks
sift_down-requires-clause-sinks g c =
    sinks_here c.args.cells.now (record { stamp = 0; origin = 0; index = 0 }, 0) c.requires.apart c.args.at c.requires.within
    (λ positive. elim c.else-at-gt0.branch [
      | else-at-gt0-via-then-at-gt0+else-is_before w ↦ sym w.if-is_before.ensures.value
      | else-at-gt0-via-else-at-gt0 w ↦ absurd (omega arith)
    ])
    c.requires.moves
