use Rattle.b1_inv_bounds.proofs.Bounded.{bounds_kept}
use Rattle.b1_inv_bounds.proofs.Opened.{bounds_opening}
use Rattle.b1_inv_bounds.proofs.laws.bounds_stay_right.Goals as goal

pub returns-clause-opening : goal.returns-clause-opening
returns-clause-opening c = λ o valid. bounds_opening o

pub returns-clause-kept : goal.returns-clause-kept
returns-clause-kept c = λ o s p command t sound step. bounds_kept sound step
