use Rattle.std.proofs.Common.{append_assoc}
use Rattle.b1_report.proofs.answers.write_info.Goals as goal

pub returns-clause-text : goal.returns-clause-text
returns-clause-text c = simp append_assoc c.write.ensures.bytes
