use Rattle.b1_schedule.proofs.Moves.{starts, turn_step, turn_idle, turns_over}
use Rattle.b1_schedule.proofs.playing.turns_are_played.Goals as goal

pub returns-clause-start : goal.returns-clause-start
returns-clause-start c = starts

pub returns-clause-step : goal.returns-clause-step
returns-clause-step c = λ o lists turns s p rest command t. turn_step o lists turns s p rest command t

pub returns-clause-idle : goal.returns-clause-idle
returns-clause-idle c = λ o lists turns s p rest d. turn_idle o lists turns s p rest d

pub returns-clause-over : goal.returns-clause-over
returns-clause-over c = turns_over
