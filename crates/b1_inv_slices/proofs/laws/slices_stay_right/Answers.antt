use Rattle.b1_inv_slices.proofs.Kept.{slices_begin, slices_kept, reached_kept}
use Rattle.b1_inv_slices.proofs.Used.{slices_used}
use Rattle.b1_inv_slices.proofs.laws.slices_stay_right.Goals as goal

pub returns-clause-opening : goal.returns-clause-opening
returns-clause-opening c = λ o is. slices_begin o

pub returns-clause-kept : goal.returns-clause-kept
returns-clause-kept c = λ o s p command t sound right kept step. slices_kept sound right kept step

pub returns-clause-reached : goal.returns-clause-reached
returns-clause-reached c = λ o s is reached. (reached_kept o s is reached).1

pub returns-clause-used : goal.returns-clause-used
returns-clause-used c = λ o s is reached. let k = reached_kept o s is reached in slices_used k.0.pool k.1
