use Rattle.b1_inv_taken.proofs.Old.{old_begins, old_kept}
use Rattle.b1_inv_taken.proofs.laws.old_nodes_stay_destroyed.Goals as goal

pub returns-clause-opening_OldNodesDestroyed : goal.returns-clause-opening_OldNodesDestroyed
returns-clause-opening_OldNodesDestroyed c = λ o is. old_begins o

pub returns-clause-kept_OldNodesDestroyed : goal.returns-clause-kept_OldNodesDestroyed
returns-clause-kept_OldNodesDestroyed c = λ o s p command t sound right step. old_kept sound right step
