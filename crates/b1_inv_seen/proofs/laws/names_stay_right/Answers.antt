use Rattle.b1_inv_seen.proofs.Groups.{names_begin, names_kept}
use Rattle.b1_inv_seen.proofs.laws.names_stay_right.Goals as goal

pub returns-clause-opening_NamesRight : goal.returns-clause-opening_NamesRight
returns-clause-opening_NamesRight c = λ o valid. names_begin o valid

pub returns-clause-kept_NamesRight : goal.returns-clause-kept_NamesRight
returns-clause-kept_NamesRight c = λ o s p command t sound right step. names_kept sound right step
