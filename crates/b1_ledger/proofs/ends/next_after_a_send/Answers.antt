use Rattle.b1_ledger.proofs.NextAfter.{may_sent, may_sent_notice, may_sent_own}
use Rattle.b1_ledger.proofs.ends.next_after_a_send.Goals as goal

pub returns-clause-others : goal.returns-clause-others
returns-clause-others c0 o r t p s b q key legal a other = may_sent o r t p s b a legal q key other

pub returns-clause-notices : goal.returns-clause-notices
returns-clause-notices c0 o r t p s b q key legal a = may_sent_notice o r t p s b a legal q key

pub returns-clause-own : goal.returns-clause-own
returns-clause-own c0 o r t p s b q key m legal a new es eo e = may_sent_own o r t p s b a legal new q key m es eo e
