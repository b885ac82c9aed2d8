use Rattle.b1_text.proofs.SpecLines.{limits_line}
use Rattle.b1_text.proofs.begin_command.begins_limits.Goals as goal

pub returns : goal.returns
returns c = limits_line c.args.word.now c.args.line.now c.begins_line.result c.begins_line.ensures
