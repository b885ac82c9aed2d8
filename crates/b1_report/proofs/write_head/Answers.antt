use Rattle.std.proofs.Common.{append_assoc}
use Rattle.b1_report.proofs.write_head.Goals as goal

pub returns : goal.returns
returns c = simp append_assoc (rw c.number_of_version-number.ensures at c.write.ensures.bytes)
