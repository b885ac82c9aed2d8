use Rattle.b1_ledger.proofs.Steps.{message_received}
use Rattle.b1_ledger.proofs.entries.messages_behind_a_receipt.Goals as goal

pub returns : goal.returns
returns c0 ws r q k c key other at e above = message_received ws r q k c at key e above other
