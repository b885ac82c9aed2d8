use Rattle.b1_inv_entries.proofs.Present.{queued_present, queued_begins}
use Rattle.b1_inv_entries.proofs.laws.queued_messages_stay_present.Goals as goal

pub returns-clause-opening_QueuedIsPresent : goal.returns-clause-opening_QueuedIsPresent
returns-clause-opening_QueuedIsPresent c = λ o is. queued_begins o

pub returns-clause-kept_QueuedIsPresent : goal.returns-clause-kept_QueuedIsPresent
returns-clause-kept_QueuedIsPresent c = λ o s p command t sound right step. queued_present sound right step
