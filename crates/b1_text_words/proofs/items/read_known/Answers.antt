-- The word stands for the greatest number, and no other text is that word.
use Rattle.std.proofs.Common.{◌≡◌, true, false}
use Rattle.std.specs.Prelude.{decimal}
use Rattle.b1_text_words.proofs.Invalids.{reads_invalid, reads_valid, low_decimal}
use Rattle.b1_text_words.proofs.items.read_known.Goals as goal

pub returns-then-is_text : goal.returns-then-is_text
returns-then-is_text c = reads_invalid decimal low_decimal c.args.word.now (c.is_text.ensures.0 c.if-is_text.true)

pub returns : goal.returns
returns c = reads_valid decimal low_decimal c.args.word.now _ (λ e. absurd (let yes : c.is_text.result ≡ true = c.is_text.ensures.1 e in let not : c.is_text.result ≡ false = c.if-is_text.false in cc)) c.read_up_to.ensures
