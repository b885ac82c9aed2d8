use Rattle.std.proofs.Common.{◌≡◌, ◌-◌, ◌≤◌, length, drop, rules, arith}
use Rattle.std.proofs.lemmas.List.{take_at}
use Rattle.b1_heap.specs.Heap.{in_key_order}
use Rattle.b1_heap.proofs.Changes.{heap_is_queue, length_in_order, within_depth}
use Rattle.b1_heap.proofs.heap.IndexedHeap.put_counted.Goals as goal

pub invariant_of-self : goal.invariant_of-self
invariant_of-self g c =
    let long : length c.add_cell.new.places ≡ c.args.self.now.places.len = search rules in
    rw (take_at c.add_cell.new.places (drop (length c.add_cell.new.places) c.args.self.now.places.items) c.args.self.now.places.len long)
    (record {
      in_heap = c.add_cell.ensures.heap;
      in_order = heap_is_queue c.add_cell.new.cells.items c.add_cell.new.places c.add_cell.ensures.heap;
    })

pub returns-clause-cost : goal.returns-clause-cost
returns-clause-cost g c depth is =
    let size : length c.add_cell.new.cells.items ≡ c.add_cell.new.cells.len = search rules in
    let same = length_in_order c.add_cell.new.cells.items c.add_cell.ensures.heap.apart in
    let few : c.add_cell.new.steps - c.args.steps.now ≤ depth =
    within_depth (c.add_cell.new.steps - c.args.steps.now) depth (length (in_key_order c.add_cell.new.cells.items))
    (omega (arith, c.add_cell.ensures.cost)) is.1 in
    omega arith
