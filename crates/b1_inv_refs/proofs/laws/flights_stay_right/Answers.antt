use Rattle.b1_inv_refs.proofs.Flying.{flights_kept}
use Rattle.b1_inv_refs.proofs.Laying.{flights_opening}
use Rattle.b1_inv_refs.proofs.laws.flights_stay_right.Goals as goal

pub returns-clause-opening : goal.returns-clause-opening
returns-clause-opening c = flights_opening

pub returns-clause-kept : goal.returns-clause-kept
returns-clause-kept c = λ o s p command t sound step. flights_kept sound step
