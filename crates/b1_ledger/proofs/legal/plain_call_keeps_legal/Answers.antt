use Rattle.b1_ledger.proofs.Plain.{legal_plain}
use Rattle.b1_ledger.proofs.legal.plain_call_keeps_legal.Goals as goal

pub returns : goal.returns
returns c0 o r t p c legal a none free = legal_plain o r t p c a legal none free
