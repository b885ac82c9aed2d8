use Rattle.b1_ledger.proofs.NextAfter.{below_is_less}
use Rattle.b1_ledger.proofs.receipts.keys_are_ordered_as_in_queues.Goals as goal

pub returns : goal.returns
returns c0 x y = below_is_less x y
