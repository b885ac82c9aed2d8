-- Other than a dash, only pairs spell bytes.
use Rattle.std.proofs.Common.{◌≡◌, true, false}
use Rattle.b1_text_words.proofs.Hex.{spells_pairs, pairs_or_dash}
use Rattle.b1_text_words.proofs.bytes.fits_bytes.Goals as goal

pub returns : goal.returns
returns c = (
  λ is. spells_pairs c.args.most c.args.word.now (c.are_pairs.ensures.0 is),
  λ s. c.are_pairs.ensures.1 (pairs_or_dash c.args.most c.args.word.now (λ e. absurd (let yes : c.is_text.result ≡ true = c.is_text.ensures.1 e in let not : c.is_text.result ≡ false = c.if-is_text.false in cc)) s),
)
