-- The word begins so, or another text does.
use Rattle.std.proofs.Common.{◌≡◌, true, false, inl, inr, refl}
use Rattle.std.specs.Prelude.{decimal}
use Rattle.b1_text_words.proofs.Invalids.{begins_invalid, begins_valid, either_begins, low_decimal}
use Rattle.b1_text_words.proofs.items.begins_known.Goals as goal

pub returns-then-begins_text : goal.returns-then-begins_text
returns-then-begins_text c = (λ is. begins_invalid decimal low_decimal c.args.word.now (c.begins_text.ensures.0 c.if-begins_text.true), λ b. refl)

pub returns : goal.returns
returns c = (
  λ is. begins_valid decimal low_decimal c.args.word.now (c.begins_up_to.ensures.0 is),
  λ b. elim (either_begins decimal low_decimal c.args.word.now b) [
    | inl word ↦ absurd (let yes : c.begins_text.result ≡ true = c.begins_text.ensures.1 word in let not : c.begins_text.result ≡ false = c.if-begins_text.false in cc)
    | inr valid ↦ c.begins_up_to.ensures.1 valid
  ],
)
