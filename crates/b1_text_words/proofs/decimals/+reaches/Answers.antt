-- One of them is here, or behind further digits.
use Rattle.std.proofs.Common.{◌≡◌, inl, inr, true, false}
use Rattle.b1_text_words.proofs.Amongs.{reaches_later, reaches_either}
use Rattle.b1_text_words.proofs.decimals.+reaches.Goals as goal

pub returns-then-low-numbers : goal.returns-then-low-numbers
returns-then-low-numbers t c =
    let s = c.args.numbers in (
      λ is. reaches_later s c.args.low c.args.width (c.reaches.ensures.0 is),
      λ r. elim (reaches_either s c.args.low c.args.width r) [
        | inl now ↦ absurd (let is : c.has_among.result ≡ true = c.has_among.ensures.1 now in let not : c.has_among.result ≡ false = c.if-has_among.false in cc)
        | inr later ↦ c.reaches.ensures.1 later.1
      ],
    )
