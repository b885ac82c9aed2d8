use Rattle.b1_schedule.proofs.States.{agreed_before, step_shown}
use Rattle.b1_schedule.proofs.laws.a_step_shows_its_shortage.Goals as goal

pub returns-clause-before : goal.returns-clause-before
returns-clause-before c = λ o s p command t m sends step h. agreed_before m step sends h

pub returns-clause-step : goal.returns-clause-step
returns-clause-step c = λ o s p command t m sends step h. step_shown m step sends h
