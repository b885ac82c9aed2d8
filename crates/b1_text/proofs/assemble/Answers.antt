use Rattle.std.proofs.Common.{arith}
use Rattle.b1_text.proofs.Answers.{only}
use Rattle.b1_text.proofs.Short.{text_short}
use Rattle.b1_text.proofs.assemble.Goals as goal

pub returns-clause-only : goal.returns-clause-only
returns-clause-only c s is = let short = text_short c.args.bytes.now s is in only c.args.bytes.now c.read_text.result s c.read_text.ensures (omega (arith, short)) is

pub returns-then-bytes-gt-MOST_TEXT-clause-only : goal.returns-then-bytes-gt-MOST_TEXT-clause-only
returns-then-bytes-gt-MOST_TEXT-clause-only c s is = let short = text_short c.args.bytes.now s is in absurd (omega (arith, short, c.if-bytes-gt-MOST_TEXT.true))
