use Rattle.b1_inv_legal.proofs.Kept.{legal_begins, legal_kept}
use Rattle.b1_inv_legal.proofs.laws.records_stay_legal.Goals as goal

pub returns-clause-opening_Legal : goal.returns-clause-opening_Legal
returns-clause-opening_Legal c = λ o valid. legal_begins o

pub returns-clause-kept_Legal : goal.returns-clause-kept_Legal
returns-clause-kept_Legal c = λ o s p command t sound right next sent step. legal_kept sound right next sent step
