use Rattle.b1_inv_entries.proofs.CalledKept.{committed_called, called_begins}
use Rattle.b1_inv_entries.proofs.laws.committed_messages_stay_called.Goals as goal

pub returns-clause-opening_CommittedHasCall : goal.returns-clause-opening_CommittedHasCall
returns-clause-opening_CommittedHasCall c = λ o is. called_begins o

pub returns-clause-kept_CommittedHasCall : goal.returns-clause-kept_CommittedHasCall
returns-clause-kept_CommittedHasCall c = λ o s p command t sound right step. committed_called sound right step
