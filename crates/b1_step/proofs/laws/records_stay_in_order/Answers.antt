use Rattle.b1_step.proofs.InOrder.{reached_rise}
use Rattle.b1_step.proofs.Rises.{rises}
use Rattle.b1_step.proofs.laws.records_stay_in_order.Goals as goal

pub returns-clause-event : goal.returns-clause-event
returns-clause-event c = rises

pub returns-clause-reached : goal.returns-clause-reached
returns-clause-reached c = reached_rise
