use Rattle.b1_ledger.proofs.Steps.{message_released, notice_released}
use Rattle.b1_ledger.proofs.entries.entries_behind_a_release.Goals as goal

pub returns-clause-messages : goal.returns-clause-messages
returns-clause-messages c0 ws r q k c n key at e f = message_released ws r q k c at n e f key

pub returns-clause-notices : goal.returns-clause-notices
returns-clause-notices c0 ws r q k c n key at e f h = notice_released ws r q k c at n e f key h
