use Rattle.std.proofs.Common.{get_or, set, ap, ◌∙◌}
use Rattle.std.proofs.lemmas.List.{get_or_default}
use Rattle.b1_queue.specs.Queue.{restamped}
use Rattle.b1_heap.specs.Heap.{in_key_order}
use Rattle.b1_heap.proofs.InOrder.{apart_permuted}
use Rattle.b1_heap.proofs.Places.{distinct_items}
use Rattle.b1_heap.proofs.Changes.{apart_set, order_set}
use Rattle.b1_heap.proofs.Edits.{set_moves}
use Rattle.b1_heap.proofs.cells.restamp_cell.Goals as goal

pub settle-requires-clause-apart : goal.settle-requires-clause-apart
settle-requires-clause-apart g c =
    let cell = get_or c.args.cells.now c.args.at (record { stamp = 0; origin = 0; index = 0 }, 0) in
    apart_set c.args.cells.now c.args.at cell c.args.new c.requires.within
    (get_or_default c.args.cells.now c.args.at (record { stamp = 0; origin = 0; index = 0 }, 0) cell c.requires.within)
    c.requires.heap.apart (distinct_items c.args.cells.now c.args.places.now c.requires.heap.indexed) c.requires.new_key

pub settle-requires-clause-moves : goal.settle-requires-clause-moves
settle-requires-clause-moves g c =
    let cell = get_or c.args.cells.now c.args.at (record { stamp = 0; origin = 0; index = 0 }, 0) in
    set_moves c.args.cells.now c.args.places.now c.args.at c.args.new cell.1 c.requires.within
    (λ d. ap (λ e. e.1) (get_or_default c.args.cells.now c.args.at d (record { stamp = 0; origin = 0; index = 0 }, 0) c.requires.within))
    c.requires.heap.heap

pub returns-clause-heap : goal.returns-clause-heap
returns-clause-heap g c =
    let cell = get_or c.args.cells.now c.args.at (record { stamp = 0; origin = 0; index = 0 }, 0) in
    record {
      heap = c.settle.ensures.heap;
      apart =
          apart_permuted (set c.args.cells.now c.args.at (c.args.new, cell.1)) c.settle.new.cells c.settle.ensures.moved
          (apart_set c.args.cells.now c.args.at cell c.args.new c.requires.within
          (get_or_default c.args.cells.now c.args.at (record { stamp = 0; origin = 0; index = 0 }, 0) cell c.requires.within)
          c.requires.heap.apart (distinct_items c.args.cells.now c.args.places.now c.requires.heap.indexed) c.requires.new_key);
      indexed = c.settle.ensures.indexed;
    }

pub returns-clause-listed : goal.returns-clause-listed
returns-clause-listed g c d =
    let cell = get_or c.args.cells.now c.args.at (record { stamp = 0; origin = 0; index = 0 }, 0) in
    order_set c.args.cells.now c.args.at cell c.args.new c.requires.within
    (get_or_default c.args.cells.now c.args.at (record { stamp = 0; origin = 0; index = 0 }, 0) cell c.requires.within)
    c.requires.heap.apart (distinct_items c.args.cells.now c.args.places.now c.requires.heap.indexed) c.requires.new_key
    c.settle.new.cells c.settle.ensures.moved
    ∙ ap (λ e. restamped e.1 c.args.new (in_key_order c.args.cells.now))
    (get_or_default c.args.cells.now c.args.at (record { stamp = 0; origin = 0; index = 0 }, 0) d c.requires.within)
