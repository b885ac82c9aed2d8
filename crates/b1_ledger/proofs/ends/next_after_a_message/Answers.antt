use Rattle.b1_ledger.proofs.NextAfter.{may_message_received, may_notice_received}
use Rattle.b1_ledger.proofs.ends.next_after_a_message.Goals as goal

pub returns-clause-messages : goal.returns-clause-messages
returns-clause-messages c0 o r t p c key other legal a e above = may_message_received o r t p c a legal key e above other

pub returns-clause-notices : goal.returns-clause-notices
returns-clause-notices c0 o r t p c key other number offset handles payload legal a e h = may_notice_received o r t p c a legal key number offset handles payload e other h
