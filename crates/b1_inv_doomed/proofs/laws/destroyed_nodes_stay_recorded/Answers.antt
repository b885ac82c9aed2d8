use Rattle.b1_inv_doomed.proofs.DyingKept.{dying_begins, dying_kept}
use Rattle.b1_inv_doomed.proofs.laws.destroyed_nodes_stay_recorded.Goals as goal

pub returns-clause-opening_DyingIsDoomed : goal.returns-clause-opening_DyingIsDoomed
returns-clause-opening_DyingIsDoomed c = λ o is. dying_begins o

pub returns-clause-kept_DyingIsDoomed : goal.returns-clause-kept_DyingIsDoomed
returns-clause-kept_DyingIsDoomed c = λ o s p command t sound right step. dying_kept sound right step
