use Rattle.std.proofs.Common.{rules}
use Rattle.std.proofs.lemmas.List.Sorted.{IsPermutation-swap_remove}
use Rattle.b1_heap.proofs.cells.take_cell.Goals as goal

pub returns-then-at-len-clause-moved : goal.returns-then-at-len-clause-moved
returns-then-at-len-clause-moved c =
    rw c.swap_remove-cell.ensures.items
    (IsPermutation-swap_remove c.args.cells.now.items c.args.at c.swap_remove-cell.result (search rules) c.swap_remove-cell.ensures.value)

pub returns-else-at-len-clause-moved : goal.returns-else-at-len-clause-moved
returns-else-at-len-clause-moved c =
    rw c.swap_remove-cell.ensures.items
    (IsPermutation-swap_remove c.args.cells.now.items c.args.at c.swap_remove-cell.result (search rules) c.swap_remove-cell.ensures.value)
