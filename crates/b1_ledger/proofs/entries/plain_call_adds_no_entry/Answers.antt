use Rattle.b1_ledger.proofs.Plain.{message_plain, notice_plain, candidate_plain, late_unstamped}
use Rattle.b1_ledger.proofs.entries.plain_call_adds_no_entry.Goals as goal

pub returns-clause-messages : goal.returns-clause-messages
returns-clause-messages c0 o r t p c q k key legal a none l = message_plain o r t p c a legal none q k key l

pub returns-clause-notices : goal.returns-clause-notices
returns-clause-notices c0 o r t p c q k key legal a none l = notice_plain o r t p c a legal none q k key l

pub returns-clause-candidates : goal.returns-clause-candidates
returns-clause-candidates c0 o r t p c q k key legal a none l = candidate_plain o r t p c a legal none q k key l

pub returns-clause-late : goal.returns-clause-late
returns-clause-late c0 o r t p c x key legal a none = late_unstamped o r t p c a legal none x key
