use Rattle.b1_inv_answers.proofs.Answered.{answers_begin, answers_kept, reached_answered}
use Rattle.b1_inv_answers.proofs.laws.answers_fit_their_commands.Goals as goal

pub returns-clause-opening : goal.returns-clause-opening
returns-clause-opening c = λ o valid. answers_begin o

pub returns-clause-kept : goal.returns-clause-kept
returns-clause-kept c = λ o s p command t sound all step. answers_kept sound all step

pub returns-clause-reached : goal.returns-clause-reached
returns-clause-reached c = reached_answered
