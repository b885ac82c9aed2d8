use Rattle.std.proofs.Common.{◌≡◌, ◌∙◌, sym, length, drop, rules}
use Rattle.std.proofs.lemmas.List.{take_at}
use Rattle.b1_heap.proofs.Changes.{heap_is_queue, order_absent}
use Rattle.b1_heap.proofs.heap.IndexedHeapQueueKind.remove.Goals as goal

pub returns-in_err-at-clause-key : goal.returns-in_err-at-clause-key
returns-in_err-at-clause-key c =
    c.from_residual.ensures
    ∙ sym (order_absent c.args.item c.args.self.now.cells.items c.args.self.now.in_heap.apart (rw c.deref.ensures.value at c.in_err-at.ensures.none)).0

pub returns-in_err-at-clause-listed : goal.returns-in_err-at-clause-listed
returns-in_err-at-clause-listed c =
    sym (order_absent c.args.item c.args.self.now.cells.items c.args.self.now.in_heap.apart (rw c.deref.ensures.value at c.in_err-at.ensures.none)).1

pub invariant_of-self-2 : goal.invariant_of-self-2
invariant_of-self-2 c =
    let long : length c.remove_cell.new.places ≡ c.args.self.now.places.len = search rules in
    rw (take_at c.remove_cell.new.places (drop (length c.remove_cell.new.places) c.args.self.now.places.items) c.args.self.now.places.len long)
    (record {
      in_heap = c.remove_cell.ensures.heap;
      in_order = heap_is_queue c.remove_cell.new.cells.items c.remove_cell.new.places c.remove_cell.ensures.heap;
    })
