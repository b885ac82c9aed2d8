use Rattle.b1_step.proofs.Clocks.{rises}
use Rattle.b1_step.proofs.Locality.{clocks_rise}
use Rattle.b1_step.proofs.laws.no_clock_falls.Goals as goal

pub returns-clause-event : goal.returns-clause-event
returns-clause-event c = rises

pub returns-clause-step : goal.returns-clause-step
returns-clause-step c = λ o s p command t step. clocks_rise step
