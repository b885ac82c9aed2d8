-- Other than a dash, only a list that isn't empty is one.
use Rattle.std.proofs.Common.{◌≡◌, true, false, inl, inr, refl}
use Rattle.b1_text_words.proofs.Commas.{spells_some, spells_none, some_or_dash}
use Rattle.b1_text_words.proofs.lists.fits_list.Goals as goal

pub returns-then-is_text : goal.returns-then-is_text
returns-then-is_text c = (λ is. spells_none c.args.item c.is_bounded.ensures c.args.most c.args.word.now (c.is_text.ensures.0 c.if-is_text.true), λ s. refl)

pub returns : goal.returns
returns c = (
  λ is. spells_some c.args.item c.is_bounded.ensures c.args.most c.args.word.now (c.fits_some.ensures.0 is),
  λ s. elim (some_or_dash c.args.item c.is_bounded.ensures c.args.most c.args.word.now s) [
    | inl dash ↦ absurd (let yes : c.is_text.result ≡ true = c.is_text.ensures.1 dash in let not : c.is_text.result ≡ false = c.if-is_text.false in cc)
    | inr some ↦ c.fits_some.ensures.1 some
  ],
)
