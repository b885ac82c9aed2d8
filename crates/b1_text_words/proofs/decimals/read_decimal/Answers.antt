-- The digits are read where they have a number.
use Rattle.std.proofs.Common.{sym, ◌∙◌}
use Rattle.b1_text_words.proofs.Digits.{digits_written}
use Rattle.b1_text_words.proofs.decimals.read_decimal.Goals as goal

pub returns : goal.returns
returns c = digits_written c.args.word.now _ (sym c.has_no_number.ensures ∙ c.if-has_no_number.false) c.read_digits.ensures
