use Rattle.b1_step.proofs.Kept.{keeps}
use Rattle.b1_step.proofs.Locality.{step_keeps}
use Rattle.b1_step.proofs.laws.others_keep_what_is_own.Goals as goal

pub returns-clause-event : goal.returns-clause-event
returns-clause-event c = keeps

pub returns-clause-step : goal.returns-clause-step
returns-clause-step c = λ o s p command t step. step_keeps step
