use Rattle.b1_inv_ends.proofs.Late.{late_by_attach}
use Rattle.b1_inv_ends.proofs.laws.late_holders_are_visited.Goals as goal

pub returns : goal.returns
returns c = λ o s p command t sound right step. late_by_attach sound step
