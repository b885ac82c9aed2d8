use Rattle.std.proofs.Common.{[]}
use Rattle.b1_ledger.proofs.Steps.{table_next, last_next, epoch_next, made_next, destructions_next}
use Rattle.b1_ledger.proofs.growth.call_behind_call.Goals as goal

pub returns-clause-tables : goal.returns-clause-tables
returns-clause-tables c0 ws r q k c at = table_next ws r q k c at

pub returns-clause-last_keys : goal.returns-clause-last_keys
returns-clause-last_keys c0 r q k c at = last_next [] r q k c at

pub returns-clause-epochs : goal.returns-clause-epochs
returns-clause-epochs c0 r q k c at = epoch_next [] r q k c at

pub returns-clause-names : goal.returns-clause-names
returns-clause-names c0 ws r q k c at = made_next ws r q k c at

pub returns-clause-destructions : goal.returns-clause-destructions
returns-clause-destructions c0 ws r q k c at = destructions_next ws r q k c at
