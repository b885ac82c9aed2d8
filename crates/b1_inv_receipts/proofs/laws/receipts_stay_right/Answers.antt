use Rattle.b1_inv_receipts.proofs.Kept.{receipts_begin, receipts_kept}
use Rattle.b1_inv_receipts.proofs.laws.receipts_stay_right.Goals as goal

pub returns-clause-opening : goal.returns-clause-opening
returns-clause-opening c = receipts_begin

pub returns-clause-kept : goal.returns-clause-kept
returns-clause-kept c = λ o s p command t sound step. receipts_kept sound step
