use Rattle.b1_schedule.proofs.Moves.{drain_step, drain_passed, drain_again, drain_over}
use Rattle.b1_schedule.proofs.playing.passes_are_played.Goals as goal

pub returns-clause-step : goal.returns-clause-step
returns-clause-step c = λ o lists turns s p gained command t. drain_step o lists turns s p gained command t

pub returns-clause-passed : goal.returns-clause-passed
returns-clause-passed c = λ o lists turns s p gained d. drain_passed o lists turns s p gained d

pub returns-clause-again : goal.returns-clause-again
returns-clause-again c = drain_again

pub returns-clause-end : goal.returns-clause-end
returns-clause-end c = drain_over
