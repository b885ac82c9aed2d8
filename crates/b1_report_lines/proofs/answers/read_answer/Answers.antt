use Rattle.b1_report_lines.proofs.Telling.{tells}
use Rattle.b1_report_lines.proofs.answers.read_answer.Goals as goal

pub returns : goal.returns
returns c = tells c.args.command.now c.args.bytes.now c.answer.result c.answer.ensures
