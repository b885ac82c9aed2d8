use Rattle.b1_ledger.proofs.NextAfter.{may_notice}
use Rattle.b1_ledger.proofs.ends.next_after_a_notice.Goals as goal

pub returns : goal.returns
returns c0 o r t p c key other number legal a e above = may_notice o r t p c a legal key number e above other
