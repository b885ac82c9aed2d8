use Rattle.b1_inv_taken.proofs.Receipts.{taken_begins, taken_kept}
use Rattle.b1_inv_taken.proofs.laws.taken_notices_stay_received.Goals as goal

pub returns-clause-opening_TakenHasReceipt : goal.returns-clause-opening_TakenHasReceipt
returns-clause-opening_TakenHasReceipt c = λ o is. taken_begins o

pub returns-clause-kept_TakenHasReceipt : goal.returns-clause-kept_TakenHasReceipt
returns-clause-kept_TakenHasReceipt c = λ o s p command t sound right step. taken_kept sound right step
