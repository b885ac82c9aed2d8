use Rattle.std.proofs.Common.{◌≡◌, ◌∙◌, ◌<◌, ap, sym, ℕ, length, get_or, rules, Some}
use Rattle.b1_model.specs.declared.naming.Key.{Key}
use Rattle.b1_queue.specs.Queue.{key_of}
use Rattle.b1_queue.proofs.Kept.{key_known}
use Rattle.b1_heap.specs.Heap.{in_key_order}
use Rattle.b1_heap.proofs.InOrder.{All-from_order, in_order}
use Rattle.b1_heap.proofs.Changes.{order_absent}
use Rattle.b1_heap.proofs.heap.IndexedHeapQueueKind.key.Goals as goal

pub returns-in_err-at : goal.returns-in_err-at
returns-in_err-at c =
    c.from_residual.ensures
    ∙ sym (order_absent c.args.item c.args.self.now.cells.items c.args.self.now.in_heap.apart (rw c.deref.ensures.value at c.in_err-at.ensures.none)).0

pub returns : goal.returns
returns c =
    let heap = c.args.self.now in
    let cell = c.index.result.now in
    let within : c.in_ok-at.at < length heap.cells.items = search rules in
    let read : cell ≡ get_or heap.cells.items c.in_ok-at.at cell = search rules in
    let same : (get_or heap.cells.items c.in_ok-at.at cell).1 ≡ c.args.item = search rules in
    let known = All-from_order (λ e. e.1 ≡ c.args.item → key_of c.args.item (in_key_order heap.cells.items) ≡ Some e.0) heap.cells.items
    (in_order heap.cells.items heap.in_heap.apart) (key_known (in_key_order heap.cells.items) c.args.item heap.in_order.distinct) in
    ap (λ (e : Key × ℕ). Some e.0) read ∙ sym (known c.in_ok-at.at cell within same)
