use Rattle.b1_inv_due.proofs.Due.{none_notified, only_live, release_due}
use Rattle.b1_inv_due.proofs.laws.release_notices_are_due.Goals as goal

pub returns-clause-opening : goal.returns-clause-opening
returns-clause-opening c = λ o is. none_notified o

pub returns-clause-live : goal.returns-clause-live
returns-clause-live c = λ o s sound right. only_live o s right

pub returns-clause-due : goal.returns-clause-due
returns-clause-due c = λ o s p command t sound right step node live. release_due sound right step node live
