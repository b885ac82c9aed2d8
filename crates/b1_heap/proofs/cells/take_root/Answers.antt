use Rattle.std.proofs.Common.{◌≡◌, ◌≤◌, ◌<◌, ◌∷◌, length, drop, rules, arith, ap, ◌∙◌}
use Rattle.std.proofs.lemmas.List.{take_at}
use Rattle.std.proofs.lemmas.List.Sorted.{length_permutation}
use Rattle.b1_heap.proofs.InOrder.{apart_permuted, order_permuted}
use Rattle.b1_heap.proofs.Moves.{sinks_here}
use Rattle.b1_heap.proofs.Changes.{apart_rest, order_first}
use Rattle.b1_heap.proofs.Edits.{taken_moves, root_before}
use Rattle.b1_heap.proofs.cells.take_root.Goals as goal

pub sift_down-requires-clause-apart : goal.sift_down-requires-clause-apart
sift_down-requires-clause-apart g c =
    rw c.deref_mut.ensures.value
    (apart_rest c.args.cells.now.items c.take_cell-cell.result c.take_cell-cell.new.cells.items c.take_cell-cell.ensures.moved c.requires.heap.apart)

pub sift_down-requires-clause-sinks : goal.sift_down-requires-clause-sinks
sift_down-requires-clause-sinks g c =
    let shorter : length c.take_cell-cell.new.cells.items ≤ length c.args.cells.now.items =
    omega (arith, length_permutation c.args.cells.now.items (c.take_cell-cell.result ∷ c.take_cell-cell.new.cells.items) c.take_cell-cell.ensures.moved) in
    let some : 0 < length c.take_cell-cell.new.cells.items = search rules in
    rw c.deref_mut.ensures.value
    (sinks_here c.take_cell-cell.new.cells.items c.take_cell-cell.result
    (apart_rest c.args.cells.now.items c.take_cell-cell.result c.take_cell-cell.new.cells.items c.take_cell-cell.ensures.moved c.requires.heap.apart)
    0 some (λ positive. absurd (omega arith))
    (taken_moves c.args.cells.now.items c.take_cell-cell.new.cells.items 0 shorter c.take_cell-cell.ensures.kept c.requires.heap.heap))

pub returns-then-not-is_empty-clause-heap : goal.returns-then-not-is_empty-clause-heap
returns-then-not-is_empty-clause-heap g c =
    let long : length c.sift_down.new.cells ≡ c.take_cell-cell.new.cells.len = search rules in
    rw (take_at c.sift_down.new.cells (drop (length c.sift_down.new.cells) c.take_cell-cell.new.cells.items) c.take_cell-cell.new.cells.len long)
    (record {
      heap = c.sift_down.ensures.heap;
      apart =
          apart_permuted c.take_cell-cell.new.cells.items c.sift_down.new.cells (rw c.deref_mut.ensures.value at c.sift_down.ensures.moved)
          (apart_rest c.args.cells.now.items c.take_cell-cell.result c.take_cell-cell.new.cells.items c.take_cell-cell.ensures.moved c.requires.heap.apart);
      indexed = c.sift_down.ensures.indexed;
    })

pub returns-then-not-is_empty-clause-listed : goal.returns-then-not-is_empty-clause-listed
returns-then-not-is_empty-clause-listed g c =
    let long : length c.sift_down.new.cells ≡ c.take_cell-cell.new.cells.len = search rules in
    rw (take_at c.sift_down.new.cells (drop (length c.sift_down.new.cells) c.take_cell-cell.new.cells.items) c.take_cell-cell.new.cells.len long)
    (order_first c.args.cells.now.items c.take_cell-cell.result c.take_cell-cell.new.cells.items c.take_cell-cell.ensures.moved c.requires.heap.apart
    (root_before c.args.cells.now.items c.take_cell-cell.result c.take_cell-cell.new.cells.items c.take_cell-cell.ensures.moved c.requires.heap.apart c.requires.heap.heap c.take_cell-cell.ensures.value)
    ∙ ap (λ q. c.take_cell-cell.result ∷ q)
    (order_permuted c.take_cell-cell.new.cells.items c.sift_down.new.cells (rw c.deref_mut.ensures.value at c.sift_down.ensures.moved)
    (apart_rest c.args.cells.now.items c.take_cell-cell.result c.take_cell-cell.new.cells.items c.take_cell-cell.ensures.moved c.requires.heap.apart)))
