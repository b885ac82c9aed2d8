use Rattle.b1_inv_names.proofs.Staying.{destroyed_stay}
use Rattle.b1_inv_names.proofs.laws.destroyed_nodes_stay.Goals as goal

pub returns : goal.returns
returns c = λ o s p command t step. destroyed_stay step
