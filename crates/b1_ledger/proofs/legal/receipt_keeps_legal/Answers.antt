use Rattle.b1_ledger.proofs.Calls.{legal_received}
use Rattle.b1_ledger.proofs.legal.receipt_keeps_legal.Goals as goal

pub returns : goal.returns
returns c0 o r t p c b legal a e next was = legal_received o r t p c a legal b e next was
