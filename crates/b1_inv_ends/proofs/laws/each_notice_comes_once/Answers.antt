use Rattle.b1_inv_ends.proofs.Once.{one_notice, notices_once}
use Rattle.b1_inv_ends.proofs.laws.each_notice_comes_once.Goals as goal

pub returns-clause-once : goal.returns-clause-once
returns-clause-once c = λ o s sound right. notices_once sound right

pub returns-clause-steps : goal.returns-clause-steps
returns-clause-steps c = λ o s p command t sound right step. one_notice sound right step
