use Rattle.b1_inv_names.proofs.Gaps.{gaps_begin, gaps_kept}
use Rattle.b1_inv_names.proofs.laws.tables_are_empty_in_gaps.Goals as goal

pub returns-clause-opening_TableIsLines_gap : goal.returns-clause-opening_TableIsLines_gap
returns-clause-opening_TableIsLines_gap c = λ o is. gaps_begin o

pub returns-clause-kept_TableIsLines_gap : goal.returns-clause-kept_TableIsLines_gap
returns-clause-kept_TableIsLines_gap c = λ o s p command t sound right step. gaps_kept sound step
