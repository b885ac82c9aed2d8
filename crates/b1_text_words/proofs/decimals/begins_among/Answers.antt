-- By what the bytes spell: nothing yet, no number, zero, or another number.
use Rattle.std.proofs.Common.{◌≡◌, ◌^◌, ◌<◌, arith, refl, ap, ◌∙◌}
use Rattle.std.specs.Prelude.{decimal}
use Rattle.std.proofs.lemmas.Bool.Decides.{Decides-eqb}
use Rattle.b1_text_words.specs.Items.{IsAmong}
use Rattle.b1_text_words.proofs.Languages.{read_found, not_empty, empty_list}
use Rattle.b1_text_words.proofs.Prefixes.{no_digits, nothing_begins, zero_begins, zero_least, reaches_begins, begins_reaches}
use Rattle.b1_text_words.proofs.decimals.begins_among.Goals as goal

pub returns-then-is_empty : goal.returns-then-is_empty
returns-then-is_empty c = (λ is. nothing_begins c.args.numbers c.args.word.now (empty_list c.args.word.now _ c.is_empty.ensures c.if-is_empty.true), λ b. refl)

pub returns-in-None : goal.returns-in-None
returns-in-None c = (
  λ is. absurd (cc),
  λ b. absurd (no_digits c.args.numbers c.args.word.now (IsAmong c.args.numbers) (λ n among. omega (arith, among.most, c.args.numbers.fits)) (not_empty _ _ c.is_empty.ensures c.if-is_empty.false) _ c.in-None.is c.read_decimal.ensures b),
)

pub returns-in-Some-eq0 : goal.returns-in-Some-eq0
returns-in-Some-eq0 c =
    let zero = (read_found decimal (λ n. n < 2 ^ 64) c.args.word.now _ _ c.read_decimal.ensures c.in-Some-eq0.is).1 in
    let same : c.args.word.now ≡ decimal 0 = zero ∙ ap decimal c.in-Some-eq0.field-0-test in
    (λ is. zero_begins c.args.numbers c.args.word.now same ((Decides-eqb _ _).0 is), λ b. (Decides-eqb _ _).1 (zero_least c.args.numbers c.args.word.now same b))

pub returns-in-Some : goal.returns-in-Some
returns-in-Some c =
    let found = read_found decimal (λ n. n < 2 ^ 64) c.args.word.now _ _ c.read_decimal.ensures c.in-Some.is in
    let some = not_empty _ _ c.is_empty.ensures c.if-is_empty.false in (
      λ is. reaches_begins c.args.numbers c.args.word.now c.in-Some.number (omega (arith, c.in-Some.number-test)) found.1 (c.reaches.ensures.0 is),
      λ b. c.reaches.ensures.1 (begins_reaches c.args.numbers c.args.word.now c.in-Some.number found.0 some found.1 b),
    )
