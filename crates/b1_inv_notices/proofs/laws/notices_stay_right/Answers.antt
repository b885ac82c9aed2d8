use Rattle.b1_inv_notices.proofs.Begins.{notices_begin}
use Rattle.b1_inv_notices.proofs.NoticesLaw.{notices_kept}
use Rattle.b1_inv_notices.proofs.laws.notices_stay_right.Goals as goal

pub returns-clause-opening : goal.returns-clause-opening
returns-clause-opening c = λ o valid. notices_begin o

pub returns-clause-kept : goal.returns-clause-kept
returns-clause-kept c = λ o s p command t sound step. notices_kept sound step
