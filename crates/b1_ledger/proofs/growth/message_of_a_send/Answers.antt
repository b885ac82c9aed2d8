use Rattle.b1_ledger.proofs.Bound.{message_is, message_of_call}
use Rattle.b1_ledger.proofs.growth.message_of_a_send.Goals as goal

pub returns-clause-by_tables : goal.returns-clause-by_tables
returns-clause-by_tables c0 ws r stamp q rises = message_is ws r rises stamp q

pub returns-clause-of_call : goal.returns-clause-of_call
returns-clause-of_call c0 ws r q k s b rises at = message_of_call ws r rises q k s b at
