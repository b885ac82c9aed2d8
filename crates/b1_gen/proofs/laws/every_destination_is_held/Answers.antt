use Rattle.b1_gen.proofs.Holds.{holds_other}
use Rattle.b1_gen.proofs.laws.every_destination_is_held.Goals as goal

pub returns : goal.returns
returns c n p q is_p is_q apart = holds_other n p q is_p is_q apart
