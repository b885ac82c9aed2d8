use Rattle.b1_report_lines.proofs.Telling.{one_answer}
use Rattle.b1_report_lines.proofs.answers.answers_have_texts_of_their_own.Goals as goal

pub returns : goal.returns
returns c = one_answer
