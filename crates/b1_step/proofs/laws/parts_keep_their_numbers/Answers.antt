use Rattle.b1_step.proofs.Numbers.{reached_numbered}
use Rattle.b1_step.proofs.laws.parts_keep_their_numbers.Goals as goal

pub returns : goal.returns
returns c = reached_numbered
