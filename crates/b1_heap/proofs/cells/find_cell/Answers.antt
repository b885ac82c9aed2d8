use Rattle.std.proofs.Common.{arith}
use Rattle.b1_heap.proofs.cells.find_cell.Goals as goal

pub returns-in_err-at-clause-none : goal.returns-in_err-at-clause-none
returns-in_err-at-clause-none c =
    rw c.from_residual.ensures
    (λ k d lt same. absurd (omega (arith, (c.requires k d lt).0, same, c.in_err-at.ensures.lookup.3)))
