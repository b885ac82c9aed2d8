use Rattle.b1_step.proofs.Steps.{reached_more}
use Rattle.b1_step.proofs.laws.a_reached_state_goes_on.Goals as goal

pub returns : goal.returns
returns c = reached_more
