use Rattle.b1_ledger.proofs.Stamped.{notice_sent, candidate_sent_other, message_sent_own, message_sent, late_sent}
use Rattle.b1_ledger.proofs.entries.send_adds_messages.Goals as goal

pub returns-clause-notices : goal.returns-clause-notices
returns-clause-notices c0 o r t p s b q k key legal a l = notice_sent o r t p s b a legal q k key l

pub returns-clause-others : goal.returns-clause-others
returns-clause-others c0 o r t p s b q k key legal a l other = candidate_sent_other o r t p s b a legal q k key l other

pub returns-clause-own : goal.returns-clause-own
returns-clause-own c0 o r t p s b q k key legal a new l es eo h = message_sent_own o r t p s b a legal new q k key l es eo h

pub returns-clause-message : goal.returns-clause-message
returns-clause-message c0 o r t p s b legal a new = message_sent o r t p s b a legal new

pub returns-clause-late : goal.returns-clause-late
returns-clause-late c0 o r t p s b x key legal a = late_sent o r t p s b a legal x key
