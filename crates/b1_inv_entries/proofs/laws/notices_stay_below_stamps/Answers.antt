use Rattle.b1_inv_entries.proofs.BelowStamp.{notices_below_stamp, below_stamp_begins}
use Rattle.b1_inv_entries.proofs.laws.notices_stay_below_stamps.Goals as goal

pub returns-clause-opening_NoticesBelowStamp : goal.returns-clause-opening_NoticesBelowStamp
returns-clause-opening_NoticesBelowStamp c = λ o is. below_stamp_begins o

pub returns-clause-kept_NoticesBelowStamp : goal.returns-clause-kept_NoticesBelowStamp
returns-clause-kept_NoticesBelowStamp c = λ o s p command t sound right step. notices_below_stamp sound right step
