use Rattle.std.proofs.Common.{◌+◌, arith, sym}
use Rattle.std.proofs.lemmas.List.Sorted.{IsPermutation-trans}
use Rattle.b1_heap.proofs.InOrder.{apart_permuted}
use Rattle.b1_heap.proofs.Moves.{sinks_swapped, heap_from_leaf, heap_from_sinks, levels_more}
use Rattle.b1_heap.proofs.sift.sift_down.Goals as goal

pub least_child-requires : goal.least_child-requires
least_child-requires g c = record {
  apart = apart_permuted c.args.cells.now c.loop-child.cells c.loop-child.invariant.moved c.requires.apart;
}

pub returns-then-not-is_before-clause-heap : goal.returns-then-not-is_before-clause-heap
returns-then-not-is_before-clause-heap g c =
    heap_from_sinks c.loop-child.cells (record { stamp = 0; origin = 0; index = 0 }, 0)
    (apart_permuted c.args.cells.now c.loop-child.cells c.loop-child.invariant.moved c.requires.apart)
    c.loop-child.place c.in-Some.child c.loop-child.invariant.within c.in-Some.ensures.child
    (sym c.if-not-is_before.ensures.value)
    c.loop-child.invariant.sinks

pub returns-then-not-is_before-clause-cost : goal.returns-then-not-is_before-clause-cost
returns-then-not-is_before-clause-cost g c =
    let child = c.in-Some.ensures.child in
    let cost = c.loop-child.invariant.cost in (
      cost.0 + 1,
      omega (arith, levels_more cost.0 c.args.at c.loop-child.place c.in-Some.child cost.1 child.positive child.below, child.within, c.loop-child.auto.cells),
      omega (arith, cost.2, c.in-Some.ensures.cost, c.is_before.ensures.cost),
    )

pub loop-child-preserved : goal.loop-child-preserved
loop-child-preserved g c =
    let child = c.in-Some.ensures.child in
    let cost = c.loop-child.invariant.cost in
    record {
      moved = IsPermutation-trans c.args.cells.now c.loop-child.cells c.swap_cells.new.cells c.loop-child.invariant.moved c.swap_cells.ensures.moved;
      indexed = c.swap_cells.ensures.indexed;
      sinks =
          sinks_swapped c.loop-child.cells (record { stamp = 0; origin = 0; index = 0 }, 0) c.swap_cells.new.cells
          c.loop-child.place c.in-Some.child c.loop-child.invariant.within child c.swap_cells.ensures.swapped
          (sym c.if-not-is_before.ensures.value)
          c.loop-child.invariant.sinks;
      within = omega (arith, child.within, c.swap_cells.auto.cells);
      counted = omega (arith, c.in-Some.ensures.counted, c.is_before.ensures.cost);
      cost = (
        cost.0 + 1,
        levels_more cost.0 c.args.at c.loop-child.place c.in-Some.child cost.1 child.positive child.below,
        omega (arith, cost.2, c.in-Some.ensures.cost, c.is_before.ensures.cost),
      );
    }

pub returns-clause-heap : goal.returns-clause-heap
returns-clause-heap g c =
    heap_from_leaf c.loop-child.cells (record { stamp = 0; origin = 0; index = 0 }, 0) c.loop-child.place c.in_default.ensures.none c.loop-child.invariant.sinks
