use Rattle.b1_ledger.proofs.Stamped.{message_doomed_was, late_doomed, notice_doomed_other, doomed_own}
use Rattle.b1_ledger.proofs.entries.destruction_adds_notices.Goals as goal

pub returns-clause-messages : goal.returns-clause-messages
returns-clause-messages c0 o r t p c stamp q k key legal a d l h = message_doomed_was o r t p c a legal stamp d q k key l h

pub returns-clause-late : goal.returns-clause-late
returns-clause-late c0 o r t p c stamp x key legal a d h = late_doomed o r t p c a legal stamp d x key h

pub returns-clause-others : goal.returns-clause-others
returns-clause-others c0 o r t p c stamp q k key legal a d l other = notice_doomed_other o r t p c a legal stamp d q k key l other

pub returns-clause-own : goal.returns-clause-own
returns-clause-own c0 o r t p c stamp key x legal a d new es eo h = doomed_own o r t p c a legal stamp d new key x es eo h
