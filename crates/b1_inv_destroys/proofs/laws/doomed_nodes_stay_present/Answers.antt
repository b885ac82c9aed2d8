use Rattle.b1_inv_destroys.proofs.DoomedNow.{doomed_present, doomed_begins}
use Rattle.b1_inv_destroys.proofs.laws.doomed_nodes_stay_present.Goals as goal

pub returns-clause-opening_DoomedPresent : goal.returns-clause-opening_DoomedPresent
returns-clause-opening_DoomedPresent c = λ o valid. doomed_begins o

pub returns-clause-kept_DoomedPresent : goal.returns-clause-kept_DoomedPresent
returns-clause-kept_DoomedPresent c = λ o s p command t sound right step. doomed_present sound right step
