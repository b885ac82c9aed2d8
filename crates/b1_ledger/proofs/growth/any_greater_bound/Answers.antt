use Rattle.b1_ledger.proofs.Bound.{enough, tables_enough}
use Rattle.b1_ledger.proofs.growth.any_greater_bound.Goals as goal

pub returns-clause-messages : goal.returns-clause-messages
returns-clause-messages c0 ws r m n stamp q rises l h = enough ws r rises m n stamp q l h

pub returns-clause-tables : goal.returns-clause-tables
returns-clause-tables c0 ws r n p k rises low = tables_enough ws r rises n p k low
