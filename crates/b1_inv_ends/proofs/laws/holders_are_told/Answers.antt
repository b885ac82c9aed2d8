use Rattle.b1_inv_ends.proofs.Served.{holders_served}
use Rattle.b1_inv_ends.proofs.laws.holders_are_told.Goals as goal

pub returns : goal.returns
returns c = λ o s sound right. holders_served sound right
