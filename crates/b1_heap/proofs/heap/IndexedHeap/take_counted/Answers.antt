use Rattle.std.proofs.Common.{◌≡◌, ◌≤◌, length, drop, rules, arith}
use Rattle.std.proofs.lemmas.List.{take_at}
use Rattle.b1_heap.specs.Heap.{in_key_order}
use Rattle.b1_heap.proofs.Changes.{heap_is_queue, length_in_order, within_depth}
use Rattle.b1_heap.proofs.heap.IndexedHeap.take_counted.Goals as goal

pub invariant_of-self-2 : goal.invariant_of-self-2
invariant_of-self-2 g c =
    let long : length c.take_root.new.places ≡ c.args.self.now.places.len = search rules in
    rw (take_at c.take_root.new.places (drop (length c.take_root.new.places) c.args.self.now.places.items) c.args.self.now.places.len long)
    (record {
      in_heap = c.take_root.ensures.heap;
      in_order = heap_is_queue c.take_root.new.cells.items c.take_root.new.places c.take_root.ensures.heap;
    })

pub returns-clause-cost : goal.returns-clause-cost
returns-clause-cost g c depth is =
    let cost = c.take_root.ensures.cost in
    let size : length c.args.self.now.cells.items ≡ c.args.self.now.cells.len = search rules in
    let same = length_in_order c.args.self.now.cells.items c.args.self.now.in_heap.apart in
    let few : cost.0 ≤ depth =
    within_depth cost.0 depth (length (in_key_order c.args.self.now.cells.items)) (omega (arith, cost.1)) is.1 in
    omega (arith, cost.2)
