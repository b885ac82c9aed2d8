use Rattle.b1_inv_names.proofs.Made.{numbers_kept}
use Rattle.b1_inv_names.proofs.MadeFirst.{numbers_begin}
use Rattle.b1_inv_names.proofs.laws.made_numbers_stay_right.Goals as goal

pub returns-clause-opening_MadeNumbers : goal.returns-clause-opening_MadeNumbers
returns-clause-opening_MadeNumbers c = λ o is. numbers_begin o

pub returns-clause-kept_MadeNumbers : goal.returns-clause-kept_MadeNumbers
returns-clause-kept_MadeNumbers c = λ o s p command t sound right step. numbers_kept sound right.names.made step
