use Rattle.std.proofs.Common.{rules, length-set}
use Rattle.b1_heap.proofs.Places.{first_bound, second_bound, indexed_swapped}
use Rattle.b1_heap.proofs.sift.swap_cells.Goals as goal

pub offset_bounds-places-cells : goal.offset_bounds-places-cells
offset_bounds-places-cells c =
    let within = first_bound c.args.cells.now c.args.places.now c.requires.indexed c.swap.new.self c.args.i c.args.j (record { stamp = 0; origin = 0; index = 0 }, 0) c.swap.ensures.after c.requires.apart c.requires.first c.requires.second in
    search rules

pub bounds-places-cells : goal.bounds-places-cells
bounds-places-cells c =
    first_bound c.args.cells.now c.args.places.now c.requires.indexed c.swap.new.self c.args.i c.args.j _ c.swap.ensures.after c.requires.apart c.requires.first c.requires.second

pub offset_bounds-places-cells-2 : goal.offset_bounds-places-cells-2
offset_bounds-places-cells-2 c =
    let within =
    second_bound c.args.cells.now c.args.places.now c.requires.indexed c.swap.new.self c.args.i c.args.j (record { stamp = 0; origin = 0; index = 0 }, 0) c.swap.ensures.after c.requires.apart c.requires.first c.requires.second in
    search rules

pub bounds-places-cells-2 : goal.bounds-places-cells-2
bounds-places-cells-2 c =
    rw length-set
    (second_bound c.args.cells.now c.args.places.now c.requires.indexed c.swap.new.self c.args.i c.args.j _ c.swap.ensures.after c.requires.apart c.requires.first c.requires.second)

pub returns-clause-indexed : goal.returns-clause-indexed
returns-clause-indexed c =
    indexed_swapped c.args.cells.now c.args.places.now c.requires.indexed c.swap.new.self c.args.i c.args.j _ c.swap.ensures.after c.requires.apart c.requires.first c.requires.second
