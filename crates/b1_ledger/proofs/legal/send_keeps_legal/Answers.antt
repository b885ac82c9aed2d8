use Rattle.b1_ledger.proofs.Stamped.{legal_sent}
use Rattle.b1_ledger.proofs.legal.send_keeps_legal.Goals as goal

pub returns : goal.returns
returns c0 o r t p s b legal a new above = legal_sent o r t p s b a legal new above
