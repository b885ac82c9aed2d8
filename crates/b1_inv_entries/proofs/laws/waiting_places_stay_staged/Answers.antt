use Rattle.b1_inv_entries.proofs.PendingKept.{pending_staged, pending_begins}
use Rattle.b1_inv_entries.proofs.laws.waiting_places_stay_staged.Goals as goal

pub returns-clause-opening_PendingIsStaged : goal.returns-clause-opening_PendingIsStaged
returns-clause-opening_PendingIsStaged c = λ o is. pending_begins o

pub returns-clause-kept_PendingIsStaged : goal.returns-clause-kept_PendingIsStaged
returns-clause-kept_PendingIsStaged c = λ o s p command t sound right step. pending_staged sound right step
