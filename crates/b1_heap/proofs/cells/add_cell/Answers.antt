use Rattle.std.proofs.Common.{◌≡◌, length, drop, rules, sym, ◌∙◌, subst}
use Rattle.std.proofs.lemmas.List.{take_at}
use Rattle.b1_heap.specs.Heap.{AreApart}
use Rattle.b1_heap.proofs.InOrder.{apart_permuted}
use Rattle.b1_heap.proofs.Changes.{order_push}
use Rattle.b1_heap.proofs.Edits.{pushed_indexed, pushed_rises, pushed_apart, inserted_at_end}
use Rattle.b1_heap.proofs.cells.add_cell.Goals as goal

pub sift_up-requires-clause-apart : goal.sift_up-requires-clause-apart
sift_up-requires-clause-apart g c =
    let end : c.len-at.result ≡ length c.args.cells.now.items = search rules in
    let whole = c.deref_mut.ensures.value ∙ inserted_at_end c.args.cells.now.items c.insert.new.self.items c.len-at.result c.args.cell end c.in-Ok.ensures.items in
    rw whole (pushed_apart c.args.cells.now.items c.args.places.now c.args.cell c.requires.heap c.requires.new_key)

pub sift_up-requires-clause-indexed : goal.sift_up-requires-clause-indexed
sift_up-requires-clause-indexed g c =
    let end : c.len-at.result ≡ length c.args.cells.now.items = search rules in
    let whole = c.deref_mut.ensures.value ∙ inserted_at_end c.args.cells.now.items c.insert.new.self.items c.len-at.result c.args.cell end c.in-Ok.ensures.items in
    rw (whole, end) (pushed_indexed c.args.cells.now.items c.args.places.now c.args.cell c.requires.heap c.requires.in_room c.requires.new_item)

pub sift_up-requires-clause-rises : goal.sift_up-requires-clause-rises
sift_up-requires-clause-rises g c =
    let end : c.len-at.result ≡ length c.args.cells.now.items = search rules in
    let whole = c.deref_mut.ensures.value ∙ inserted_at_end c.args.cells.now.items c.insert.new.self.items c.len-at.result c.args.cell end c.in-Ok.ensures.items in
    rw (whole, end) (pushed_rises c.args.cells.now.items c.args.places.now c.args.cell c.requires.heap)

pub returns-clause-heap : goal.returns-clause-heap
returns-clause-heap g c =
    let end : c.len-at.result ≡ length c.args.cells.now.items = search rules in
    let whole = c.deref_mut.ensures.value ∙ inserted_at_end c.args.cells.now.items c.insert.new.self.items c.len-at.result c.args.cell end c.in-Ok.ensures.items in
    let long : length c.sift_up.new.cells ≡ c.insert.new.self.len = search rules in
    rw (take_at c.sift_up.new.cells (drop (length c.sift_up.new.cells) c.insert.new.self.items) c.insert.new.self.len long)
    (record {
      heap = c.sift_up.ensures.heap;
      apart =
          apart_permuted c.deref_mut.result.now c.sift_up.new.cells c.sift_up.ensures.moved
          (subst AreApart (sym whole) (pushed_apart c.args.cells.now.items c.args.places.now c.args.cell c.requires.heap c.requires.new_key));
      indexed = c.sift_up.ensures.indexed;
    })

pub returns-clause-listed : goal.returns-clause-listed
returns-clause-listed g c =
    let end : c.len-at.result ≡ length c.args.cells.now.items = search rules in
    let whole = c.deref_mut.ensures.value ∙ inserted_at_end c.args.cells.now.items c.insert.new.self.items c.len-at.result c.args.cell end c.in-Ok.ensures.items in
    let long : length c.sift_up.new.cells ≡ c.insert.new.self.len = search rules in
    rw (take_at c.sift_up.new.cells (drop (length c.sift_up.new.cells) c.insert.new.self.items) c.insert.new.self.len long)
    (order_push c.args.cell.0 c.args.cell.1 c.args.cells.now.items c.requires.heap.apart c.requires.new_key c.sift_up.new.cells
    (rw whole at c.sift_up.ensures.moved))
