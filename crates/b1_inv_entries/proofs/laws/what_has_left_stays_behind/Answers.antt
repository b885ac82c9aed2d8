use Rattle.b1_inv_entries.proofs.GoneKept.{gone_kept, gone_begins}
use Rattle.b1_inv_entries.proofs.laws.what_has_left_stays_behind.Goals as goal

pub returns-clause-opening_GoneBelowQueue : goal.returns-clause-opening_GoneBelowQueue
returns-clause-opening_GoneBelowQueue c = λ o is. gone_begins o

pub returns-clause-kept_GoneBelowQueue : goal.returns-clause-kept_GoneBelowQueue
returns-clause-kept_GoneBelowQueue c = λ o s p command t sound right step. gone_kept sound right step
