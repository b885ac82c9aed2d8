-- By the first words.
use Rattle.std.proofs.Common.{◌≡◌, ◌⊎◌, true, false, inl, inr, refl}
use Rattle.b1_text_words.specs.Verbs.{IsReleaseIn, IsSliceIn, IsResetIn, IsDestroyIn}
use Rattle.b1_text_words.proofs.Parts.{left_begins, right_begins, either_begins}
use Rattle.b1_text_words.proofs.commands.begins_numbers.Goals as goal

pub returns-then-begins_release : goal.returns-then-begins_release
returns-then-begins_release c = (λ is. left_begins c.args.form (IsReleaseIn c.args.form) (λ x. IsSliceIn c.args.form x ⊎ (IsResetIn c.args.form c.args.version x ⊎ IsDestroyIn c.args.form x)) c.args.line.now (c.begins_release.ensures.0 c.if-begins_release.true), λ b. refl)

pub returns-then-begins_slice : goal.returns-then-begins_slice
returns-then-begins_slice c = (λ is. right_begins c.args.form (IsReleaseIn c.args.form) (λ x. IsSliceIn c.args.form x ⊎ (IsResetIn c.args.form c.args.version x ⊎ IsDestroyIn c.args.form x)) c.args.line.now (left_begins c.args.form (IsSliceIn c.args.form) (λ x. IsResetIn c.args.form c.args.version x ⊎ IsDestroyIn c.args.form x) c.args.line.now (c.begins_slice.ensures.0 c.if-begins_slice.true)), λ b. refl)

pub returns-then-begins_reset : goal.returns-then-begins_reset
returns-then-begins_reset c = (λ is. right_begins c.args.form (IsReleaseIn c.args.form) (λ x. IsSliceIn c.args.form x ⊎ (IsResetIn c.args.form c.args.version x ⊎ IsDestroyIn c.args.form x)) c.args.line.now (right_begins c.args.form (IsSliceIn c.args.form) (λ x. IsResetIn c.args.form c.args.version x ⊎ IsDestroyIn c.args.form x) c.args.line.now (left_begins c.args.form (IsResetIn c.args.form c.args.version) (IsDestroyIn c.args.form) c.args.line.now (c.begins_reset.ensures.0 c.if-begins_reset.true))), λ b. refl)

pub returns : goal.returns
returns c = (
  λ is. right_begins c.args.form (IsReleaseIn c.args.form) (λ x. IsSliceIn c.args.form x ⊎ (IsResetIn c.args.form c.args.version x ⊎ IsDestroyIn c.args.form x)) c.args.line.now (right_begins c.args.form (IsSliceIn c.args.form) (λ x. IsResetIn c.args.form c.args.version x ⊎ IsDestroyIn c.args.form x) c.args.line.now (right_begins c.args.form (IsResetIn c.args.form c.args.version) (IsDestroyIn c.args.form) c.args.line.now (c.begins_destroy.ensures.0 is))),
  λ b. elim (either_begins c.args.form (IsReleaseIn c.args.form) (λ x. IsSliceIn c.args.form x ⊎ (IsResetIn c.args.form c.args.version x ⊎ IsDestroyIn c.args.form x)) c.args.line.now b) [
    | inl found ↦ absurd (let yes : c.begins_release.result ≡ true = c.begins_release.ensures.1 found in let not : c.begins_release.result ≡ false = c.if-begins_release.false in cc)
    | inr more ↦ elim (either_begins c.args.form (IsSliceIn c.args.form) (λ x. IsResetIn c.args.form c.args.version x ⊎ IsDestroyIn c.args.form x) c.args.line.now more) [
      | inl found ↦ absurd (let yes : c.begins_slice.result ≡ true = c.begins_slice.ensures.1 found in let not : c.begins_slice.result ≡ false = c.if-begins_slice.false in cc)
      | inr most ↦ elim (either_begins c.args.form (IsResetIn c.args.form c.args.version) (IsDestroyIn c.args.form) c.args.line.now most) [
        | inl found ↦ absurd (let yes : c.begins_reset.result ≡ true = c.begins_reset.ensures.1 found in let not : c.begins_reset.result ≡ false = c.if-begins_reset.false in cc)
        | inr found ↦ c.begins_destroy.ensures.1 found
      ]
    ]
  ],
)
