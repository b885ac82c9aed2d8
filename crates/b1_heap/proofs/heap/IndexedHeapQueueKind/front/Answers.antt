use Rattle.std.proofs.Common.{◌≡◌, ◌∙◌, rules}
use Rattle.std.specs.Prelude.{slice_get}
use Rattle.b1_heap.proofs.Changes.{order_front}
use Rattle.b1_heap.proofs.heap.IndexedHeapQueueKind.front.Goals as goal

pub returns : goal.returns
returns c =
    let root : c.copied.result ≡ slice_get c.args.self.now.cells.items 0 = search rules in
    root ∙ order_front c.args.self.now.cells.items c.args.self.now.in_heap.heap c.args.self.now.in_heap.apart
