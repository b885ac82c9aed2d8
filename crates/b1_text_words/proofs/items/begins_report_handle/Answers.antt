-- The word begins so, or another text does.
use Rattle.std.proofs.Common.{◌≡◌, true, false, inl, inr, refl}
use Rattle.b1_text_words.specs.Numbers.{reference_or, slot_text}
use Rattle.b1_text_words.proofs.Invalids.{begins_invalid, begins_valid, either_begins, low_reference}
use Rattle.b1_text_words.proofs.items.begins_report_handle.Goals as goal

pub returns-then-begins_text : goal.returns-then-begins_text
returns-then-begins_text c = (λ is. begins_invalid (reference_or slot_text) (low_reference slot_text) c.args.word.now (c.begins_text.ensures.0 c.if-begins_text.true), λ b. refl)

pub returns : goal.returns
returns c = (
  λ is. begins_valid (reference_or slot_text) (low_reference slot_text) c.args.word.now (c.begins_handle.ensures.0 is),
  λ b. elim (either_begins (reference_or slot_text) (low_reference slot_text) c.args.word.now b) [
    | inl word ↦ absurd (let yes : c.begins_text.result ≡ true = c.begins_text.ensures.1 word in let not : c.begins_text.result ≡ false = c.if-begins_text.false in cc)
    | inr valid ↦ c.begins_handle.ensures.1 valid
  ],
)
