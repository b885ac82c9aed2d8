-- A text that isn't accepted breaks somewhere.
use Rattle.std.proofs.Common.{◌≡◌, ◌≢◌, ℕ, zero, suc, ◌+◌, ◌-◌, ◌<◌, ◌≤◌, List, [], ◌∷◌, ◌++◌, length, take, drop, Option, Some, None, IsSome, ◌⊎◌, inl, inr, refl, sym, ap, subst, ◌∙◌, arith}
use Rattle.std.proofs.lemmas.Bool.{cases_lt, cases_eq}
use Rattle.std.proofs.lemmas.List.{length-append, length-drop, take_all}
use Rattle.b1_text.specs.declared.draft.Draft.{Draft}
use Rattle.b1_text.specs.declared.draft.Draft.TheVariants.{Empty}
use Rattle.b1_text.specs.Accepted.{IsAccepted, IsLine, BreaksAt}
use Rattle.b1_text.specs.Drafts.{step, IsNext}
use Rattle.b1_text.specs.Progress.{Makes, Leads, IsFirstLine}
use Rattle.b1_text.proofs.Faults.{cut_break, wrong_break, unfinished_break, wrong_end_break, made_line, first_of}
use Rattle.b1_text.proofs.Follow.{nothing_made, text_of}
use Rattle.b1_text.proofs.Injective.{statement_tells}

-- the first line of bytes, where they have a line feed
record HasLine (bytes : List ℕ) : Type 0 where
  word : List ℕ
  rest : List ℕ
  unbroken : IsLine word
  split : bytes ≡ word ++ 10 ∷ rest

abbrev Lines : List ℕ → Type 0
Lines bytes = HasLine bytes ⊎ IsLine bytes

with_byte : (b : ℕ) (bs : List ℕ) → b ≢ 10 → Lines bs → Lines (b ∷ bs)
with_byte b bs other (inl l) = inl (record { word = b ∷ l.word; rest = l.rest; unbroken = (other, l.unbroken); split = ap (λ (x : List ℕ). b ∷ x) l.split })
with_byte b bs other (inr l) = inr (other, l)

lines : (bytes : List ℕ) → Lines bytes
lines [] = inr tt
lines (b ∷ bs) = elim (cases_eq b 10) [
  | inl same ↦ inl (record { word = []; rest = bs; unbroken = tt; split = ap (λ (n : ℕ). n ∷ bs) same })
  | inr other ↦ with_byte b bs other (lines bs)
]

some_draft : (r : Option Draft) → IsSome r → (e : Draft) × (r ≡ Some e)
some_draft None h = absurd cc
some_draft (Some e) h = (e, refl)

leads : (d : Draft) (word : List ℕ) → IsNext d word → (e : Draft) × Leads d word e
leads d word n =
    let e = some_draft (step d n.statement) n.goes_on in
    (e.0, record { statement = n.statement; fits = n.fits; same = n.same; goes_on = e.1; only = λ s fits same. statement_tells s n.statement fits n.fits (sym same ∙ n.same) })

module _ (bytes : List ℕ) (none : ¬ IsAccepted bytes) (never : (at : ℕ) → ¬ BreaksAt bytes at) where
  -- no line is left
  ends : (at : ℕ) (d : Draft) → at ≤ length bytes → IsLine (drop at bytes) → Makes (take at bytes) d → ⊥
  ends at d within unbroken m = elim (cases_lt at (length bytes)) [
    | inl less ↦ never at (wrong_end_break bytes at d less unbroken m (λ can. never (length bytes) (unfinished_break bytes at d less unbroken m can)))
    | inr more ↦
        let end : at ≡ length bytes = omega (arith, within, more) in
        let all : Makes bytes d = subst (λ (x : List ℕ). Makes x d) (take_all at bytes (omega (arith, end))) m in
        never at (cut_break bytes d at all (λ s e. none (s, text_of bytes s (subst (λ (x : Draft). Makes bytes x) e all))) end)
  ]

  -- a line is left, and what comes behind it
  further : (at : ℕ) (d : Draft) → at ≤ length bytes → Makes (take at bytes) d → HasLine (drop at bytes) → ((end : ℕ) (e : Draft) → at < end → end ≤ length bytes → Makes (take end bytes) e → ⊥) → ⊥
  further at d within m l more =
      let end : ℕ = at + length l.word + 1 in
      let first : IsFirstLine bytes at l.word end = first_of bytes l.word l.rest at end within l.unbroken l.split refl in
      never at (wrong_break bytes l.word at end d within first m (λ n.
      let e = leads d l.word n in
      more end e.0 (omega arith) first.within (made_line bytes l.word at end d e.0 within first m e.1)))

  nothing_left : (at : ℕ) → length bytes - at ≤ 0 → HasLine (drop at bytes) → ⊥
  nothing_left at few l =
      let n = ap (λ (x : List ℕ). length x) l.split in
      omega (arith, few, n, length-drop at bytes, length-append l.word (10 ∷ l.rest))

  go : (fuel at : ℕ) (d : Draft) → length bytes - at ≤ fuel → at ≤ length bytes → Makes (take at bytes) d → ⊥
  go zero at d few within m = elim (lines (drop at bytes)) [ inl l ↦ nothing_left at few l | inr l ↦ ends at d within l m ]
  go (suc fuel) at d few within m = elim (lines (drop at bytes)) [
    | inl l ↦ further at d within m l (λ end e less inside made. go fuel end e (omega (arith, few, less)) inside made)
    | inr l ↦ ends at d within l m
  ]

pub breaks_somewhere : (bytes : List ℕ) → ¬ IsAccepted bytes → ((at : ℕ) → ¬ BreaksAt bytes at) → ⊥
breaks_somewhere bytes none never = go bytes none never (length bytes) 0 Empty (omega arith) (omega arith) nothing_made
