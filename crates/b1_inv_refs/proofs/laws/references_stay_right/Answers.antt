use Rattle.b1_inv_refs.proofs.Referring.{references_kept}
use Rattle.b1_inv_refs.proofs.Laying.{references_opening}
use Rattle.b1_inv_refs.proofs.laws.references_stay_right.Goals as goal

pub returns-clause-opening : goal.returns-clause-opening
returns-clause-opening c = references_opening

pub returns-clause-kept : goal.returns-clause-kept
returns-clause-kept c = λ o s p command t sound step. references_kept sound step
