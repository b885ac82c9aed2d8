use Rattle.std.proofs.Common.{◌≡◌, ◌≤◌, ◌∷◌, length, drop, rules, arith, sym, ◌∙◌}
use Rattle.std.proofs.lemmas.List.{take_at}
use Rattle.std.proofs.lemmas.List.Sorted.{length_permutation}
use Rattle.b1_heap.proofs.InOrder.{apart_permuted, items_permuted, order_permuted}
use Rattle.b1_heap.proofs.Places.{distinct_items}
use Rattle.b1_heap.proofs.Changes.{apart_rest, fresh_from_distinct, order_key, order_without}
use Rattle.b1_heap.proofs.Edits.{taken_heap, taken_moves}
use Rattle.b1_heap.proofs.cells.remove_cell.Goals as goal

pub settle-requires-clause-apart : goal.settle-requires-clause-apart
settle-requires-clause-apart g c =
    rw c.deref_mut.ensures.value
    (apart_rest c.args.cells.now.items c.take_cell-cell.result c.take_cell-cell.new.cells.items c.take_cell-cell.ensures.moved c.requires.heap.apart)

pub settle-requires-clause-moves : goal.settle-requires-clause-moves
settle-requires-clause-moves g c =
    let shorter : length c.take_cell-cell.new.cells.items ≤ length c.args.cells.now.items =
    omega (arith, length_permutation c.args.cells.now.items (c.take_cell-cell.result ∷ c.take_cell-cell.new.cells.items) c.take_cell-cell.ensures.moved) in
    rw c.deref_mut.ensures.value
    (taken_moves c.args.cells.now.items c.take_cell-cell.new.cells.items c.args.at shorter c.take_cell-cell.ensures.kept c.requires.heap.heap)

pub returns-then-at-len-clause-key : goal.returns-then-at-len-clause-key
returns-then-at-len-clause-key g c =
    order_key c.args.cells.now.items c.take_cell-cell.result c.take_cell-cell.new.cells.items c.take_cell-cell.ensures.moved c.requires.heap.apart
    (fresh_from_distinct c.take_cell-cell.result c.take_cell-cell.new.cells.items
    (items_permuted c.args.cells.now.items (c.take_cell-cell.result ∷ c.take_cell-cell.new.cells.items) c.take_cell-cell.ensures.moved
    (distinct_items c.args.cells.now.items c.args.places.now c.requires.heap.indexed)))

pub returns-else-at-len-clause-key : goal.returns-else-at-len-clause-key
returns-else-at-len-clause-key g c =
    order_key c.args.cells.now.items c.take_cell-cell.result c.take_cell-cell.new.cells.items c.take_cell-cell.ensures.moved c.requires.heap.apart
    (fresh_from_distinct c.take_cell-cell.result c.take_cell-cell.new.cells.items
    (items_permuted c.args.cells.now.items (c.take_cell-cell.result ∷ c.take_cell-cell.new.cells.items) c.take_cell-cell.ensures.moved
    (distinct_items c.args.cells.now.items c.args.places.now c.requires.heap.indexed)))

pub returns-then-at-len-clause-heap : goal.returns-then-at-len-clause-heap
returns-then-at-len-clause-heap g c =
    let long : length c.settle.new.cells ≡ c.take_cell-cell.new.cells.len = search rules in
    rw (take_at c.settle.new.cells (drop (length c.settle.new.cells) c.take_cell-cell.new.cells.items) c.take_cell-cell.new.cells.len long)
    (record {
      heap = c.settle.ensures.heap;
      apart =
          apart_permuted c.take_cell-cell.new.cells.items c.settle.new.cells (rw c.deref_mut.ensures.value at c.settle.ensures.moved)
          (apart_rest c.args.cells.now.items c.take_cell-cell.result c.take_cell-cell.new.cells.items c.take_cell-cell.ensures.moved c.requires.heap.apart);
      indexed = c.settle.ensures.indexed;
    })

pub returns-else-at-len-clause-heap : goal.returns-else-at-len-clause-heap
returns-else-at-len-clause-heap g c =
    let shorter : length c.take_cell-cell.new.cells.items ≤ length c.args.cells.now.items =
    omega (arith, length_permutation c.args.cells.now.items (c.take_cell-cell.result ∷ c.take_cell-cell.new.cells.items) c.take_cell-cell.ensures.moved) in
    let past : length c.take_cell-cell.new.cells.items ≤ c.args.at = search rules in
    record {
      heap = taken_heap c.args.cells.now.items c.take_cell-cell.new.cells.items c.args.at shorter c.take_cell-cell.ensures.kept c.requires.heap.heap past;
      apart = apart_rest c.args.cells.now.items c.take_cell-cell.result c.take_cell-cell.new.cells.items c.take_cell-cell.ensures.moved c.requires.heap.apart;
      indexed = c.take_cell-cell.ensures.indexed;
    }

pub returns-then-at-len-clause-listed : goal.returns-then-at-len-clause-listed
returns-then-at-len-clause-listed g c =
    let long : length c.settle.new.cells ≡ c.take_cell-cell.new.cells.len = search rules in
    rw (take_at c.settle.new.cells (drop (length c.settle.new.cells) c.take_cell-cell.new.cells.items) c.take_cell-cell.new.cells.len long)
    (sym (order_permuted c.take_cell-cell.new.cells.items c.settle.new.cells (rw c.deref_mut.ensures.value at c.settle.ensures.moved)
    (apart_rest c.args.cells.now.items c.take_cell-cell.result c.take_cell-cell.new.cells.items c.take_cell-cell.ensures.moved c.requires.heap.apart))
    ∙ sym (order_without c.args.cells.now.items c.take_cell-cell.result c.take_cell-cell.new.cells.items c.take_cell-cell.ensures.moved c.requires.heap.apart
    (fresh_from_distinct c.take_cell-cell.result c.take_cell-cell.new.cells.items
    (items_permuted c.args.cells.now.items (c.take_cell-cell.result ∷ c.take_cell-cell.new.cells.items) c.take_cell-cell.ensures.moved
    (distinct_items c.args.cells.now.items c.args.places.now c.requires.heap.indexed)))))

pub returns-else-at-len-clause-listed : goal.returns-else-at-len-clause-listed
returns-else-at-len-clause-listed g c =
    sym (order_without c.args.cells.now.items c.take_cell-cell.result c.take_cell-cell.new.cells.items c.take_cell-cell.ensures.moved c.requires.heap.apart
    (fresh_from_distinct c.take_cell-cell.result c.take_cell-cell.new.cells.items
    (items_permuted c.args.cells.now.items (c.take_cell-cell.result ∷ c.take_cell-cell.new.cells.items) c.take_cell-cell.ensures.moved
    (distinct_items c.args.cells.now.items c.args.places.now c.requires.heap.indexed))))
