use Rattle.b1_law.proofs.Reached.{opening_sound, step_sound, reached_sound}
use Rattle.b1_law.proofs.laws.every_reached_state_is_sound.Goals as goal

pub returns-clause-opening : goal.returns-clause-opening
returns-clause-opening c = opening_sound

pub returns-clause-step : goal.returns-clause-step
returns-clause-step c = λ o s p command t sound step. step_sound o s p command t sound step

pub returns-clause-reached : goal.returns-clause-reached
returns-clause-reached c = reached_sound
