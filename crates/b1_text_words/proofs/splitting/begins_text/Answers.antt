-- What is left of the text is the rest.
use Rattle.std.proofs.Common.{drop, length, sym, ◌∙◌}
use Rattle.std.proofs.lemmas.Bool.Decides.{Decides-eqb}
use Rattle.std.proofs.lemmas.Slice.Eq.{starts_is}
use Rattle.b1_text_words.proofs.splitting.begins_text.Goals as goal

pub returns : goal.returns
returns c =
    let h = starts_is Decides-eqb c.as_bytes.result.now c.args.word.now _ c.starts_with.ensures.value in (
      λ is. record { rest = drop (length c.args.word.now) c.as_bytes.result.now; whole = sym (h.0 is) ∙ c.as_bytes.ensures.value },
      λ b. h.1 b.rest (c.as_bytes.ensures.value ∙ sym b.whole),
    )
