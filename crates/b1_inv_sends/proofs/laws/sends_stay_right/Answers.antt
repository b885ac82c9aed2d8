use Rattle.b1_inv_sends.proofs.SendsKept.{opening_sends, sends_kept}
use Rattle.b1_inv_sends.proofs.laws.sends_stay_right.Goals as goal

pub returns-clause-opening : goal.returns-clause-opening
returns-clause-opening c = λ o valid. opening_sends o

pub returns-clause-kept : goal.returns-clause-kept
returns-clause-kept c = λ o s p command t sound step. sends_kept sound step
