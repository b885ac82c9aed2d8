use Rattle.b1_inv_sends.proofs.StagesKept.{opening_stages, stages_kept}
use Rattle.b1_inv_sends.proofs.laws.stages_stay_right.Goals as goal

pub returns-clause-opening : goal.returns-clause-opening
returns-clause-opening c = λ o valid. opening_stages o

pub returns-clause-kept : goal.returns-clause-kept
returns-clause-kept c = λ o s p command t sound step. stages_kept sound step
