use Rattle.b1_inv_refs.proofs.Flying.{numbers_kept}
use Rattle.b1_inv_refs.proofs.Laying.{numbers_opening}
use Rattle.b1_inv_refs.proofs.laws.numbers_stay_right.Goals as goal

pub returns-clause-opening : goal.returns-clause-opening
returns-clause-opening c = numbers_opening

pub returns-clause-kept : goal.returns-clause-kept
returns-clause-kept c = λ o s p command t sound step. numbers_kept sound step
