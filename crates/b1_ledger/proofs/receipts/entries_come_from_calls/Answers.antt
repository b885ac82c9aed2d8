use Rattle.b1_ledger.proofs.Plain.{message_source, notice_source}
use Rattle.b1_ledger.proofs.Ascends.{candidate_source}
use Rattle.b1_ledger.proofs.receipts.entries_come_from_calls.Goals as goal

pub returns-clause-messages : goal.returns-clause-messages
returns-clause-messages c0 ws r stamp q m e = message_source ws r stamp q m e

pub returns-clause-notices : goal.returns-clause-notices
returns-clause-notices c0 ws r key x e = notice_source ws r key x e

pub returns-clause-candidates : goal.returns-clause-candidates
returns-clause-candidates c0 ws r p k key h = candidate_source ws r p k key h
