use Rattle.b1_ledger.proofs.Stamped.{legal_doomed}
use Rattle.b1_ledger.proofs.legal.destruction_keeps_legal.Goals as goal

pub returns : goal.returns
returns c0 o r t p c stamp legal a destroys new above = legal_doomed o r t p c a legal stamp destroys new above
