use Rattle.b1_legal.proofs.Promises.{state_promised, steps_promised}
use Rattle.b1_legal.proofs.laws.every_step_keeps_promises.Goals as goal

pub returns-clause-steps : goal.returns-clause-steps
returns-clause-steps x = steps_promised

pub returns-clause-states : goal.returns-clause-states
returns-clause-states x = state_promised
