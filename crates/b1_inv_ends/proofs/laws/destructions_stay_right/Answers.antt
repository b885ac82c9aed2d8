use Rattle.b1_inv_ends.proofs.Group.{destructions_begin, destructions_kept}
use Rattle.b1_inv_ends.proofs.laws.destructions_stay_right.Goals as goal

pub returns-clause-opening_DestructionsRight : goal.returns-clause-opening_DestructionsRight
returns-clause-opening_DestructionsRight c = λ o is. destructions_begin o

pub returns-clause-kept_DestructionsRight : goal.returns-clause-kept_DestructionsRight
returns-clause-kept_DestructionsRight c = λ o s p command t sound right step. destructions_kept sound right step
