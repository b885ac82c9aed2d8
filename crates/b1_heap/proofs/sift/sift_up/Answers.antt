use Rattle.std.proofs.Common.{◌≡◌, ◌+◌, ◌-◌, arith, sym}
use Rattle.std.proofs.lemmas.List.Sorted.{IsPermutation-trans}
use Rattle.b1_heap.proofs.InOrder.{apart_permuted}
use Rattle.b1_heap.proofs.Moves.{rises_swapped, heap_from_root, heap_from_rises, cost_above, cost_here}
use Rattle.b1_heap.proofs.sift.sift_up.Goals as goal

pub returns-then-not-is_before-clause-heap : goal.returns-then-not-is_before-clause-heap
returns-then-not-is_before-clause-heap g c =
    heap_from_rises c.loop-place.cells (record { stamp = 0; origin = 0; index = 0 }, 0)
    (apart_permuted c.args.cells.now c.loop-place.cells c.loop-place.invariant.moved c.requires.apart)
    c.loop-place.place c.loop-place-test.true c.loop-place.invariant.within
    (sym c.if-not-is_before.ensures.value)
    c.loop-place.invariant.rises

pub returns-then-not-is_before-clause-cost : goal.returns-then-not-is_before-clause-cost
returns-then-not-is_before-clause-cost g c =
    let more : c.is_before.new.steps - c.args.steps.now ≡ (c.loop-place.steps - c.args.steps.now) + 1 = omega arith in
    rw more (cost_here (c.loop-place.steps - c.args.steps.now) c.loop-place.place (c.args.at + 1) c.loop-place-test.true c.loop-place.invariant.cost)

pub loop-place-preserved : goal.loop-place-preserved
loop-place-preserved g c =
    let more : c.is_before.new.steps - c.args.steps.now ≡ (c.loop-place.steps - c.args.steps.now) + 1 = omega arith in
    record {
      moved = IsPermutation-trans c.args.cells.now c.loop-place.cells c.swap_cells.new.cells c.loop-place.invariant.moved c.swap_cells.ensures.moved;
      indexed = c.swap_cells.ensures.indexed;
      rises =
          rises_swapped c.loop-place.cells (record { stamp = 0; origin = 0; index = 0 }, 0) c.swap_cells.new.cells
          c.loop-place.place c.loop-place-test.true c.loop-place.invariant.within c.swap_cells.ensures.swapped
          (sym c.if-not-is_before.ensures.value)
          c.loop-place.invariant.rises;
      within = omega arith;
      counted = omega arith;
      cost = rw more (cost_above (c.loop-place.steps - c.args.steps.now) c.loop-place.place (c.args.at + 1) c.loop-place-test.true c.loop-place.invariant.cost);
    }

pub returns-clause-heap : goal.returns-clause-heap
returns-clause-heap g c =
    heap_from_root c.loop-place.cells (record { stamp = 0; origin = 0; index = 0 }, 0) c.loop-place.place c.loop-place-test.false c.loop-place.invariant.rises
