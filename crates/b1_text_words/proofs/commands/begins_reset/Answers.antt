-- A line of the one word, or in version 2 of the other, and of numbers.
use Rattle.std.proofs.Common.{◌≡◌, true, false, inl, inr, refl, sym, subst}
use Rattle.b1_text_words.specs.Verbs.{IsResetIn}
use Rattle.b1_text_words.specs.Words.{Begins}
use Rattle.b1_text_words.proofs.Parts.{Spelled, reset_begins, limit_begins, begins_reset, begins_either}
use Rattle.b1_text_words.proofs.commands.begins_reset.Goals as goal

pub returns-then-begins_line : goal.returns-then-begins_line
returns-then-begins_line c = (λ is. reset_begins c.args.form c.args.version c.args.line.now (c.begins_line.ensures.0 c.if-begins_line.true), λ b. refl)

pub returns-in-One : goal.returns-in-One
returns-in-One c = (
  λ is. absurd (cc),
  λ b. absurd (
      let yes : c.begins_line.result ≡ true = c.begins_line.ensures.1 (begins_reset c.args.form c.args.line.now (subst (λ v. Begins (Spelled c.args.form (IsResetIn c.args.form v)) c.args.line.now) c.in-One.is b)) in
      let not : c.begins_line.result ≡ false = c.if-begins_line.false in
      cc),
)

pub returns-in-Two : goal.returns-in-Two
returns-in-Two c = (
  λ is. subst (λ v. Begins (Spelled c.args.form (IsResetIn c.args.form v)) c.args.line.now) (sym c.in-Two.is) (limit_begins c.args.form c.args.line.now (c.begins_line-in-Two.ensures.0 is)),
  λ b. elim (begins_either c.args.form c.args.line.now (subst (λ v. Begins (Spelled c.args.form (IsResetIn c.args.form v)) c.args.line.now) c.in-Two.is b)) [
    | inl found ↦ absurd (let yes : c.begins_line.result ≡ true = c.begins_line.ensures.1 found in let not : c.begins_line.result ≡ false = c.if-begins_line.false in cc)
    | inr found ↦ c.begins_line-in-Two.ensures.1 found
  ],
)
