use Rattle.b1_ledger.proofs.Grows.{message_unsent, message_of_other}
use Rattle.b1_ledger.proofs.growth.messages_after_a_call.Goals as goal

pub returns-clause-unsent : goal.returns-clause-unsent
returns-clause-unsent c0 o r t p c stamp q legal a e = message_unsent o r t p c a legal stamp q e

pub returns-clause-others : goal.returns-clause-others
returns-clause-others c0 o r t p c stamp q legal a n = message_of_other o r t p c a legal stamp q n
