use Rattle.b1_step.proofs.Drivers.{grows}
use Rattle.b1_step.proofs.Locality.{step_grows, step_adds}
use Rattle.b1_step.proofs.laws.a_list_grows_by_one_call.Goals as goal

pub returns-clause-event : goal.returns-clause-event
returns-clause-event c = grows

pub returns-clause-step : goal.returns-clause-step
returns-clause-step c = λ o s p command t step. step_grows step

pub returns-clause-recorded : goal.returns-clause-recorded
returns-clause-recorded c = λ o s p command t step. step_adds step
