use Rattle.std.proofs.Common.{◌≡◌, ◌∙◌, ap, length, drop, rules}
use Rattle.std.proofs.lemmas.List.{get_or_read, take_at}
use Rattle.b1_queue.specs.Queue.{restamped}
use Rattle.b1_heap.specs.Heap.{in_key_order}
use Rattle.b1_heap.proofs.Changes.{heap_is_queue, place_in_room, place_within, place_has}
use Rattle.b1_heap.proofs.heap.IndexedHeapQueueKind.restamp.Goals as goal

pub index-at-requires : goal.index-at-requires
index-at-requires c =
    let within = place_in_room c.args.self.now.cells.items c.args.self.now.places.items c.args.item c.args.self.now.in_heap c.requires.there in
    search rules

pub restamp_cell-requires-clause-within : goal.restamp_cell-requires-clause-within
restamp_cell-requires-clause-within c =
    let room = place_in_room c.args.self.now.cells.items c.args.self.now.places.items c.args.item c.args.self.now.in_heap c.requires.there in
    let within = place_within c.args.self.now.cells.items c.args.self.now.places.items c.args.item c.args.self.now.in_heap c.requires.there in
    let here = get_or_read c.args.self.now.places.items c.args.item c.index-at.result.now room c.index-at.ensures 0 in
    rw (here, c.deref_mut.ensures.value) within

pub invariant_of-self : goal.invariant_of-self
invariant_of-self c =
    let cells : length c.restamp_cell.new.cells ≡ c.args.self.now.cells.len = search rules in
    let places : length c.restamp_cell.new.places ≡ c.args.self.now.places.len = search rules in
    rw (
      take_at c.restamp_cell.new.cells (drop (length c.restamp_cell.new.cells) c.args.self.now.cells.items) c.args.self.now.cells.len cells,
      take_at c.restamp_cell.new.places (drop (length c.restamp_cell.new.places) c.args.self.now.places.items) c.args.self.now.places.len places,
    )
    (record {
      in_heap = c.restamp_cell.ensures.heap;
      in_order = heap_is_queue c.restamp_cell.new.cells c.restamp_cell.new.places c.restamp_cell.ensures.heap;
    })

pub returns-clause-listed : goal.returns-clause-listed
returns-clause-listed c =
    let cells : length c.restamp_cell.new.cells ≡ c.args.self.now.cells.len = search rules in
    let room = place_in_room c.args.self.now.cells.items c.args.self.now.places.items c.args.item c.args.self.now.in_heap c.requires.there in
    let here = get_or_read c.args.self.now.places.items c.args.item c.index-at.result.now room c.index-at.ensures 0 in
    let listed = rw (c.deref_mut.ensures.value, here) at (c.restamp_cell.ensures.listed (record { stamp = 0; origin = 0; index = 0 }, 0)) in
    rw (take_at c.restamp_cell.new.cells (drop (length c.restamp_cell.new.cells) c.args.self.now.cells.items) c.args.self.now.cells.len cells)
    (listed
    ∙ ap (λ item. restamped item c.args.new (in_key_order c.args.self.now.cells.items))
    (place_has c.args.self.now.cells.items c.args.self.now.places.items c.args.item c.args.self.now.in_heap c.requires.there (record { stamp = 0; origin = 0; index = 0 }, 0)))
