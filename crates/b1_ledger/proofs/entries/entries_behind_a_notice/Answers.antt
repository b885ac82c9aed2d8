use Rattle.b1_ledger.proofs.Steps.{candidate_notice}
use Rattle.b1_ledger.proofs.entries.entries_behind_a_notice.Goals as goal

pub returns : goal.returns
returns c0 ws r q k c key other number at e above = candidate_notice ws r q k c at key number e above other
