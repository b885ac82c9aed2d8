-- The word stands for the greatest number, and no other text is that word.
use Rattle.std.proofs.Common.{◌≡◌, true, false}
use Rattle.b1_text_words.specs.Numbers.{reference_or, slice_text}
use Rattle.b1_text_words.proofs.Invalids.{reads_invalid, reads_valid, low_reference}
use Rattle.b1_text_words.proofs.items.read_report_offset.Goals as goal

pub returns-then-is_text : goal.returns-then-is_text
returns-then-is_text c = reads_invalid (reference_or slice_text) (low_reference slice_text) c.args.word.now (c.is_text.ensures.0 c.if-is_text.true)

pub returns : goal.returns
returns c = reads_valid (reference_or slice_text) (low_reference slice_text) c.args.word.now _ (λ e. absurd (let yes : c.is_text.result ≡ true = c.is_text.ensures.1 e in let not : c.is_text.result ≡ false = c.if-is_text.false in cc)) c.read_offset.ensures
