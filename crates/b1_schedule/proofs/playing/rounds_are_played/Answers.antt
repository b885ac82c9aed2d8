use Rattle.b1_schedule.proofs.Moves.{round_step, round_passed, round_over}
use Rattle.b1_schedule.proofs.playing.rounds_are_played.Goals as goal

pub returns-clause-step : goal.returns-clause-step
returns-clause-step c = λ o lists turns s p gained command t. round_step o lists turns s p gained command t

pub returns-clause-passed : goal.returns-clause-passed
returns-clause-passed c = λ o lists turns s p gained d. round_passed o lists turns s p gained d

pub returns-clause-end : goal.returns-clause-end
returns-clause-end c = λ o lists turns s p gained. round_over o lists turns s p gained
