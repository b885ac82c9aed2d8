use Rattle.b1_inv_doomed.proofs.OwnRight.{own_begins, own_right}
use Rattle.b1_inv_doomed.proofs.laws.own_notices_stay_where_they_are.Goals as goal

pub returns-clause-opening_OwnNoticeRight : goal.returns-clause-opening_OwnNoticeRight
returns-clause-opening_OwnNoticeRight c = λ o is. own_begins o

pub returns-clause-kept_OwnNoticeRight : goal.returns-clause-kept_OwnNoticeRight
returns-clause-kept_OwnNoticeRight c = λ o s p command t sound right step. own_right sound right step
