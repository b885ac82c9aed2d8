use Rattle.b1_step.proofs.Changed.{changes}
use Rattle.b1_step.proofs.Locality.{step_changes}
use Rattle.b1_step.proofs.laws.an_event_changes_its_fields.Goals as goal

pub returns-clause-event : goal.returns-clause-event
returns-clause-event c = changes

pub returns-clause-step : goal.returns-clause-step
returns-clause-step c = λ o s p command t step. step_changes step
