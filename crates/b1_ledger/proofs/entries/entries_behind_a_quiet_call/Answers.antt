use Rattle.b1_ledger.proofs.Steps.{candidate_quiet}
use Rattle.b1_ledger.proofs.entries.entries_behind_a_quiet_call.Goals as goal

pub returns : goal.returns
returns c0 ws r q k c key at h = candidate_quiet ws r q k c at h key
