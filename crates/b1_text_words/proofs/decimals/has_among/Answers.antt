-- Behind the first of them, the next one decides.
use Rattle.std.proofs.Common.{arith}
use Rattle.b1_text_words.proofs.Amongs.{next_in, next_near, le_true, true_le}
use Rattle.b1_text_words.proofs.decimals.has_among.Goals as goal

pub returns-then-numbers-over : goal.returns-then-numbers-over
returns-then-numbers-over c =
    let numbers = c.args.numbers in (
      λ is. next_in numbers c.args.low c.args.width (omega (arith, c.if-low-numbers-2.false)) c.if-low-numbers.false c.if-numbers-over.true (true_le _ _ is),
      λ h. le_true _ _ (next_near numbers c.args.low c.args.width (omega (arith, c.if-low-numbers-2.false)) c.if-low-numbers.false c.if-over-eq0.false h).1,
    )
