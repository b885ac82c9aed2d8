use Rattle.b1_ledger.proofs.Made.{nothing_behind_flush}
use Rattle.b1_ledger.proofs.ends.nothing_behind_a_flush.Goals as goal

pub returns : goal.returns
returns c0 ws r q k c at flush last = nothing_behind_flush ws r q k c at flush last
