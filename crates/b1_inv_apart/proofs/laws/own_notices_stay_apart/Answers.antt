use Rattle.b1_inv_apart.proofs.Kept.{apart_begins, apart_kept}
use Rattle.b1_inv_apart.proofs.laws.own_notices_stay_apart.Goals as goal

pub returns-clause-opening : goal.returns-clause-opening
returns-clause-opening c = apart_begins

pub returns-clause-kept : goal.returns-clause-kept
returns-clause-kept c = λ o s p command t sound step. apart_kept sound step
