use Rattle.b1_step.proofs.Steps.{step_of}
use Rattle.b1_step.proofs.laws.a_step_is_a_function.Goals as goal

pub returns-clause-step : goal.returns-clause-step
returns-clause-step c = λ o memory s p command t. step_of o memory p command s t
