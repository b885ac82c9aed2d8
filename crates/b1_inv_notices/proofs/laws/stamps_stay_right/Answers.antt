use Rattle.b1_inv_notices.proofs.Begins.{stamps_begin}
use Rattle.b1_inv_notices.proofs.StampsLaw.{stamps_kept}
use Rattle.b1_inv_notices.proofs.laws.stamps_stay_right.Goals as goal

pub returns-clause-opening : goal.returns-clause-opening
returns-clause-opening c = λ o valid. stamps_begin o

pub returns-clause-kept : goal.returns-clause-kept
returns-clause-kept c = λ o s p command t sound step. stamps_kept sound step
