-- Other than a dash, only a list that isn't empty begins so.
use Rattle.std.proofs.Common.{◌≡◌, true, false, inl, inr, refl}
use Rattle.b1_text_words.proofs.Commas.{spells_some, spells_none, some_or_dash}
use Rattle.b1_text_words.proofs.lists.begins_list.Goals as goal

pub returns-then-begins_text : goal.returns-then-begins_text
returns-then-begins_text c =
    (λ is. let b = c.begins_text.ensures.0 c.if-begins_text.true in record { rest = b.rest; whole = spells_none c.args.item c.is_bounded.ensures c.args.most _ b.whole }, λ s. refl)

pub returns : goal.returns
returns c = (
  λ is. let b = c.begins_some.ensures.0 is in record { rest = b.rest; whole = spells_some c.args.item c.is_bounded.ensures c.args.most _ b.whole },
  λ b. elim (some_or_dash c.args.item c.is_bounded.ensures c.args.most _ b.whole) [
    | inl dash ↦ absurd (let yes : c.begins_text.result ≡ true = c.begins_text.ensures.1 (record { rest = b.rest; whole = dash }) in let not : c.begins_text.result ≡ false = c.if-begins_text.false in cc)
    | inr some ↦ c.begins_some.ensures.1 (record { rest = b.rest; whole = some })
  ],
)
