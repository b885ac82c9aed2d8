use Rattle.b1_legal.proofs.Reached.{opening_right, step_right, reached_right}
use Rattle.b1_legal.proofs.laws.every_reached_state_is_right.Goals as goal

pub returns-clause-opening : goal.returns-clause-opening
returns-clause-opening x = opening_right

pub returns-clause-step : goal.returns-clause-step
returns-clause-step x = step_right

pub returns-clause-reached : goal.returns-clause-reached
returns-clause-reached x = reached_right
