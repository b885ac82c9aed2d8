use Rattle.b1_inv_parts.proofs.Kept.{parts_begin, parts_kept, reached_right}
use Rattle.b1_inv_parts.proofs.laws.parts_stay_right.Goals as goal

pub returns-clause-opening : goal.returns-clause-opening
returns-clause-opening c = parts_begin

pub returns-clause-kept : goal.returns-clause-kept
returns-clause-kept c = λ o s p command t sound right step. parts_kept o s p command t sound right.parts step

pub returns-clause-alone : goal.returns-clause-alone
returns-clause-alone c = parts_kept

pub returns-clause-reached : goal.returns-clause-reached
returns-clause-reached c = reached_right
