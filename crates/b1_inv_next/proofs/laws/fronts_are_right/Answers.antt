use Rattle.b1_inv_next.proofs.Shown.{again, takes}
use Rattle.b1_inv_next.proofs.laws.fronts_are_right.Goals as goal

pub returns-clause-shown : goal.returns-clause-shown
returns-clause-shown x = λ o s p c t step sound right front recv none. again sound right step recv front none

pub returns-clause-taken : goal.returns-clause-taken
returns-clause-taken x = λ o s p c t step sound got recv is. takes sound step recv got is
