use Rattle.std.proofs.Common.{append_assoc}
use Rattle.b1_report.proofs.answers.write_front.Goals as goal

pub returns-in-Staged-clause-text : goal.returns-in-Staged-clause-text
returns-in-Staged-clause-text c = simp (c.in-Staged.is, append_assoc) c.write.ensures.bytes
