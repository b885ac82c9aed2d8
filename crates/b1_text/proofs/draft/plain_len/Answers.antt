use Rattle.std.proofs.Common.{arith}
use Rattle.b1_text.proofs.Records.{destroy_len, send_len}
use Rattle.b1_text.proofs.draft.plain_len.Goals as goal

pub returns-in-Destroy : goal.returns-in-Destroy
returns-in-Destroy c = rw c.in-Destroy.is (omega (arith, destroy_len c.in-Destroy.numbers))

pub returns-in-Send : goal.returns-in-Send
returns-in-Send c = rw c.in-Send.is (omega (arith, send_len c.in-Send.send))
