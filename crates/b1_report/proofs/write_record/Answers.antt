use Rattle.b1_report.proofs.Texts.{texts_joined}
use Rattle.b1_report.proofs.write_record.Goals as goal

pub returns-clause-text : goal.returns-clause-text
returns-clause-text c = texts_joined c.write.result _ _ _ _ _ _ _ (rw (c.version_of.ensures, c.len.ensures) at c.in_ok-write_head.ensures) (rw c.as_slice.ensures at c.in_ok-write_peers.ensures.text) c.write.ensures.bytes
