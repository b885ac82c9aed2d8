use Rattle.b1_inv_destroys.proofs.Own.{own_begins, own_kept}
use Rattle.b1_inv_destroys.proofs.laws.destructions_stay_own.Goals as goal

pub returns-clause-opening_DestroysOwn : goal.returns-clause-opening_DestroysOwn
returns-clause-opening_DestroysOwn c = λ o valid. own_begins o

pub returns-clause-kept_DestroysOwn : goal.returns-clause-kept_DestroysOwn
returns-clause-kept_DestroysOwn c = λ o s p command t own step. own_kept own step
