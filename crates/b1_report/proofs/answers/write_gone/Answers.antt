use Rattle.std.proofs.Common.{append_assoc}
use Rattle.b1_report.proofs.Texts.{text_joined}
use Rattle.b1_report.proofs.answers.write_gone.Goals as goal

pub returns-clause-text : goal.returns-clause-text
returns-clause-text c = simp append_assoc (text_joined c.write.result _ _ _ _ _ c.in_ok-push_str.ensures.bytes c.write.ensures.bytes)
