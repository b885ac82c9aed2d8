use Rattle.std.proofs.Common.{append_assoc}
use Rattle.b1_text.proofs.printing.write_peer.Goals as goal

pub returns : goal.returns
returns c = simp append_assoc c.write.ensures.bytes
