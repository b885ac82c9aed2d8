use Rattle.b1_inv_tables.proofs.Begins.{lines_begin}
use Rattle.b1_inv_tables.proofs.LinesKept.{lines_kept}
use Rattle.b1_inv_tables.proofs.laws.tables_stay_lines.Goals as goal

pub returns-clause-opening_TableIsLines : goal.returns-clause-opening_TableIsLines
returns-clause-opening_TableIsLines c = λ o valid. lines_begin o valid

pub returns-clause-kept_TableIsLines : goal.returns-clause-kept_TableIsLines
returns-clause-kept_TableIsLines c = λ o s p command t sound right step. lines_kept sound right step
