-- The word for a number that isn't known.
use Rattle.std.proofs.Common.{◌≡◌, ◌≢◌, arith, ℕ, ◌-◌, ◌^◌, ◌<◌, ◌≤◌, false, eqb, ◌⊎◌, inl, inr, List, [], ◌∷◌, Option, Some, None, IfSome, refl, sym, ap, subst, ◌∙◌}
use Rattle.std.specs.Prelude.{decimal, codes}
use Rattle.std.specs.List.{AllByRecursion}
use Rattle.std.specs.Int.{IsInRange}
use Rattle.std.proofs.lemmas.Bool.{cases_eq}
use Rattle.std.proofs.lemmas.Bool.Decides.{nat_tests}
use Rattle.b1_text_words.specs.Items.{IsUpTo}
use Rattle.b1_text_words.specs.Numbers.{or_invalid, reference_or}
use Rattle.b1_text_words.specs.Words.{Spells, Reads, Begins}
use Rattle.b1_text_words.proofs.References.{decimal_bytes, odd_or_even, text_odd, text_even}

-- no text of the kind begins with a letter
abbrev pub BeginsLow : (ℕ → List ℕ) → Type 0
BeginsLow text = (x c : ℕ) (rest : List ℕ) → x < 2 ^ 64 → text x ≡ c ∷ rest → c ≤ 64

pub low_decimal : BeginsLow decimal
low_decimal x c rest small e = let h = (subst (AllByRecursion (IsInRange 48 57)) e (decimal_bytes x small)).0 in omega (arith, h)

pub low_reference : (text : ℕ → List ℕ) → BeginsLow (reference_or text)
low_reference text x c rest small e = elim (odd_or_even x) [
  | inl odd ↦ (let h : 64 ∷ text x ≡ c ∷ rest = sym (text_odd text x odd) ∙ e in let first : 64 ≡ c = cc in omega (arith, first))
  | inr even ↦ low_decimal x c rest small (sym (text_even text x even) ∙ e)
]

pub not_invalid : (text : ℕ → List ℕ) (x : ℕ) → x ≢ 2 ^ 64 - 1 → or_invalid text x ≡ text x
not_invalid text x other = let is : eqb x (2 ^ 64 - 1) ≡ false = grind (arith, nat_tests) in rw is refl

module _ (text : ℕ → List ℕ) (low : BeginsLow text) where
  invalid_text : or_invalid text (2 ^ 64 - 1) ≡ codes "invalid"
  invalid_text = refl

  other_text : (x : ℕ) → x ≢ 2 ^ 64 - 1 → or_invalid text x ≡ text x
  other_text x other = not_invalid text x other

  no_letter : (x : ℕ) (rest : List ℕ) → x < 2 ^ 64 → text x ≢ 105 ∷ rest
  no_letter x rest small e = omega (arith, low x 105 rest small e)

  pub reads_invalid : (word : List ℕ) → word ≡ codes "invalid" → Reads (or_invalid text) (λ n. n < 2 ^ 64) word (Some (2 ^ 64 - 1))
  reads_invalid word is = record { found = (omega arith, is ∙ sym invalid_text); whole = whole } where
    whole : (x : ℕ) → x < 2 ^ 64 → word ≡ or_invalid text x → Some (2 ^ 64 - 1) ≡ Some x
    whole x small same = elim (cases_eq x (2 ^ 64 - 1)) [
      | inl e ↦ ap Some (sym e)
      | inr other ↦ absurd (no_letter x (110 ∷ 118 ∷ 97 ∷ 108 ∷ 105 ∷ 100 ∷ []) small (sym (other_text x other) ∙ sym same ∙ is))
    ]

  pub reads_valid : (word : List ℕ) (r : Option ℕ) → word ≢ codes "invalid" → Reads text (IsUpTo (2 ^ 64 - 2)) word r → Reads (or_invalid text) (λ n. n < 2 ^ 64) word r
  reads_valid word r isnt reads = record { found = found r reads.found; whole = whole } where
    found : (o : Option ℕ) → IfSome o (λ n. IsUpTo (2 ^ 64 - 2) n × (word ≡ text n)) → IfSome o (λ n. (n < 2 ^ 64) × (word ≡ or_invalid text n))
    found None h = tt
    found (Some n) h = (omega (arith, h.0), h.1 ∙ sym (other_text n (λ e. omega (arith, e, h.0))))

    whole : (x : ℕ) → x < 2 ^ 64 → word ≡ or_invalid text x → r ≡ Some x
    whole x small same = elim (cases_eq x (2 ^ 64 - 1)) [
      | inl e ↦ absurd (isnt (same ∙ ap (or_invalid text) e ∙ invalid_text))
      | inr other ↦ reads.whole x (omega (arith, small, other)) (same ∙ other_text x other)
    ]

  pub begins_invalid : (word : List ℕ) → Begins (λ w. w ≡ codes "invalid") word → Begins (Spells (or_invalid text) (λ n. n < 2 ^ 64)) word
  begins_invalid word b = record { rest = b.rest; whole = record { value = 2 ^ 64 - 1; is_of = omega arith; same = b.whole ∙ sym invalid_text } }

  pub begins_valid : (word : List ℕ) → Begins (Spells text (IsUpTo (2 ^ 64 - 2))) word → Begins (Spells (or_invalid text) (λ n. n < 2 ^ 64)) word
  begins_valid word b = record { rest = b.rest; whole = record { value = b.whole.value; is_of = omega (arith, b.whole.is_of); same = b.whole.same ∙ sym (other_text b.whole.value (λ e. omega (arith, e, b.whole.is_of))) } }

  pub either_begins : (word : List ℕ) → Begins (Spells (or_invalid text) (λ n. n < 2 ^ 64)) word → Begins (λ w. w ≡ codes "invalid") word ⊎ Begins (Spells text (IsUpTo (2 ^ 64 - 2))) word
  either_begins word b =
      let n = b.whole.value in
      elim (cases_eq n (2 ^ 64 - 1)) [
        | inl e ↦ inl (record { rest = b.rest; whole = b.whole.same ∙ ap (or_invalid text) e ∙ invalid_text })
        | inr other ↦ inr (record { rest = b.rest; whole = record { value = n; is_of = omega (arith, b.whole.is_of, other); same = b.whole.same ∙ other_text n other } })
      ]
