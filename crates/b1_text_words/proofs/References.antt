-- Odd numbers that refer to a slot or to a slice.
use Rattle.std.proofs.Common.{◌≡◌, ◌≢◌, arith, ℕ, ◌-◌, ◌%◌, ◌^◌, ◌<◌, ◌≤◌, true, false, eqb, ◌⊎◌, inl, inr, List, [], ◌∷◌, ◌++◌, Option, Some, None, IfSome, refl, sym, ap, subst, ◌∙◌}
use Rattle.std.specs.Prelude.{decimal}
use Rattle.std.specs.Int.{IsInRange}
use Rattle.std.specs.List.{AllByRecursion}
use Rattle.std.specs.Str.Parse.{AllDigits}
use Rattle.std.proofs.lemmas.Bool.{cases_eq}
use Rattle.std.proofs.lemmas.Bool.Decides.{nat_tests, Decides-eqb}
use Rattle.std.proofs.lemmas.Fmt.{decimal_is_IsNumeral}
use Rattle.std.proofs.lemmas.Str.Parse.{digit_from_value}
use Rattle.b1_text_words.specs.declared.among.Numbers.{Numbers}
use Rattle.b1_text_words.specs.Items.{IsAmong, IsUpTo, IsOddUpTo, IsNoReference}
use Rattle.b1_text_words.specs.Numbers.{reference_or}
use Rattle.b1_text_words.specs.Words.{Spells, Reads, Begins, IsFree}
use Rattle.b1_text_words.proofs.Prefixes.{nothing_begins}

-- the bytes of digits

pub free_from : (P : ℕ → Type 0) (s : ℕ) (word : List ℕ) → ((b : ℕ) → P b → b ≢ s) → AllByRecursion P word → IsFree s word
free_from P s [] other all = tt
free_from P s (b ∷ word) other all = (other b all.0, free_from P s word other all.1)

pub digit_bytes : (ds : List ℕ) → AllDigits 10 ds → AllByRecursion (IsInRange 48 57) ds
digit_bytes [] d = tt
digit_bytes (c ∷ cs) d = (digit_from_value c d.0, digit_bytes cs d.1)

pub decimal_bytes : (n : ℕ) → n < 2 ^ 64 → AllByRecursion (IsInRange 48 57) (decimal n)
decimal_bytes n small = digit_bytes (decimal n) (decimal_is_IsNumeral n small).0.1

pub free_of_point : (n : ℕ) → n < 2 ^ 64 → IsFree 46 (decimal n)
free_of_point n small = free_from (IsInRange 48 57) 46 (decimal n) (λ b range. omega (arith, range)) (decimal_bytes n small)

pub no_reference : (n : ℕ) → n < 2 ^ 64 → IsNoReference (decimal n)
no_reference n small rest e = let h = (subst (AllByRecursion (IsInRange 48 57)) e (decimal_bytes n small)).0 in omega (arith, h)

-- the parts of a number

pub odd_or_even : (n : ℕ) → (n % 2 ≡ 1) ⊎ (n % 2 ≡ 0)
odd_or_even n = elim (cases_eq (n % 2) 1) [ inl odd ↦ inl odd | inr other ↦ inr (omega (arith, other)) ]

module _ (text : ℕ → List ℕ) where
  pub text_odd : (n : ℕ) → n % 2 ≡ 1 → reference_or text n ≡ 64 ∷ text n
  text_odd n odd = let is : eqb (n % 2) 1 ≡ true = (Decides-eqb (n % 2) 1).1 odd in rw is refl

  pub text_even : (n : ℕ) → n % 2 ≡ 0 → reference_or text n ≡ decimal n
  text_even n even = let is : eqb (n % 2) 1 ≡ false = grind (arith, nat_tests) in rw is refl

  -- behind the sign
  pub reads_behind : (most : ℕ) (word rest : List ℕ) (r : Option ℕ) → most < 2 ^ 64 → word ≡ 64 ∷ rest → Reads text (IsOddUpTo most) rest r → Reads (reference_or text) (IsUpTo most) word r
  reads_behind most word rest None small sign reads = record { found = tt; whole = whole } where
    whole : (x : ℕ) → x ≤ most → word ≡ reference_or text x → None ≡ Some x
    whole x within same = elim (odd_or_even x) [
      | inl odd ↦ reads.whole x (within, odd) (let e : 64 ∷ rest ≡ 64 ∷ text x = sym sign ∙ same ∙ text_odd x odd in cc)
      | inr even ↦ absurd (no_reference x (omega (arith, within, small)) rest (sym (sym sign ∙ same ∙ text_even x even)))
    ]
  reads_behind most word rest (Some n) small sign reads = record {
    found = (reads.found.0.0, sign ∙ ap (λ t. 64 ∷ t) reads.found.1 ∙ sym (text_odd n reads.found.0.1));
    whole = whole;
  } where
    whole : (x : ℕ) → x ≤ most → word ≡ reference_or text x → Some n ≡ Some x
    whole x within same = elim (odd_or_even x) [
      | inl odd ↦ reads.whole x (within, odd) (let e : 64 ∷ rest ≡ 64 ∷ text x = sym sign ∙ same ∙ text_odd x odd in cc)
      | inr even ↦ absurd (no_reference x (omega (arith, within, small)) rest (sym (sym sign ∙ same ∙ text_even x even)))
    ]

  -- with no sign before it
  pub reads_even : (s : Numbers) (most : ℕ) (word : List ℕ) (r : Option ℕ) → s.least ≡ 0 → s.most ≡ most → s.step ≡ 2 → most < 2 ^ 64 → IsNoReference word → Reads decimal (IsAmong s) word r → Reads (reference_or text) (IsUpTo most) word r
  reads_even s most word r least last step small sign reads = record { found = found r refl reads.found; whole = whole } where
    even_of : (n : ℕ) → IsAmong s n → n % 2 ≡ 0
    even_of n among = let h : (n - 0) % 2 ≡ 0 = subst (λ t. (n - 0) % t ≡ 0) step (subst (λ l. (n - l) % s.step ≡ 0) least among.step) in omega (arith, h)

    among_of : (n : ℕ) → n ≤ most → n % 2 ≡ 0 → IsAmong s n
    among_of n within even = record { least = omega (arith, least); most = omega (arith, within, last); step = (let h : (n - 0) % 2 ≡ 0 = omega (arith, even) in subst (λ l. (n - l) % s.step ≡ 0) (sym least) (subst (λ t. (n - 0) % t ≡ 0) (sym step) h)) }

    found : (o : Option ℕ) → r ≡ o → IfSome o (λ n. IsAmong s n × (word ≡ decimal n)) → IfSome o (λ n. IsUpTo most n × (word ≡ reference_or text n))
    found None is h = tt
    found (Some n) is h = (omega (arith, h.0.most, last), h.1 ∙ sym (text_even n (even_of n h.0)))

    whole : (x : ℕ) → x ≤ most → word ≡ reference_or text x → r ≡ Some x
    whole x within same = elim (odd_or_even x) [
      | inl odd ↦ absurd (sign (text x) (same ∙ text_odd x odd))
      | inr even ↦ reads.whole x (among_of x within even) (same ∙ text_even x even)
    ]

  -- the bytes that begin one
  pub begins_behind : (most : ℕ) (word rest : List ℕ) → word ≡ 64 ∷ rest → Begins (Spells text (IsOddUpTo most)) rest → Begins (Spells (reference_or text) (IsUpTo most)) word
  begins_behind most word rest sign b = record {
    rest = b.rest;
    whole = record {
      value = b.whole.value;
      is_of = b.whole.is_of.0;
      same = ap (λ w. w ++ b.rest) sign ∙ ap (λ w. 64 ∷ w) b.whole.same ∙ sym (text_odd b.whole.value b.whole.is_of.1);
    };
  }

  pub behind_begins : (most : ℕ) (word rest : List ℕ) → most < 2 ^ 64 → word ≡ 64 ∷ rest → Begins (Spells (reference_or text) (IsUpTo most)) word → Begins (Spells text (IsOddUpTo most)) rest
  behind_begins most word rest small sign b =
      let n = b.whole.value in
      let whole : 64 ∷ (rest ++ b.rest) ≡ reference_or text n = ap (λ w. w ++ b.rest) (sym sign) ∙ b.whole.same in
      elim (odd_or_even n) [
        | inl odd ↦ record { rest = b.rest; whole = record { value = n; is_of = (b.whole.is_of, odd); same = (let e : 64 ∷ (rest ++ b.rest) ≡ 64 ∷ text n = whole ∙ text_odd n odd in cc) } }
        | inr even ↦ absurd (no_reference n (omega (arith, b.whole.is_of, small)) (rest ++ b.rest) (sym (whole ∙ text_even n even)))
      ]

  pub begins_even : (s : Numbers) (most : ℕ) (word : List ℕ) → s.least ≡ 0 → s.most ≡ most → s.step ≡ 2 → Begins (Spells decimal (IsAmong s)) word → Begins (Spells (reference_or text) (IsUpTo most)) word
  begins_even s most word least last step b =
      let n = b.whole.value in
      let among = b.whole.is_of in
      let h : (n - 0) % 2 ≡ 0 = subst (λ t. (n - 0) % t ≡ 0) step (subst (λ l. (n - l) % s.step ≡ 0) least among.step) in
      record { rest = b.rest; whole = record { value = n; is_of = omega (arith, among.most, last); same = b.whole.same ∙ sym (text_even n (omega (arith, h))) } }

  pub even_begins : (s : Numbers) (most : ℕ) (word : List ℕ) → s.least ≡ 0 → s.most ≡ most → s.step ≡ 2 → IsNoReference word → Begins (Spells (reference_or text) (IsUpTo most)) word → Begins (Spells decimal (IsAmong s)) word
  even_begins s most [] least last step sign b = nothing_begins s [] refl
  even_begins s most (c ∷ word) least last step sign b =
      let n = b.whole.value in
      elim (odd_or_even n) [
        | inl odd ↦ absurd (let e : c ∷ (word ++ b.rest) ≡ 64 ∷ text n = b.whole.same ∙ text_odd n odd in let first : c ≡ 64 = cc in sign word (ap (λ d. d ∷ word) first))
        | inr even ↦ record {
          rest = b.rest;
          whole = record {
            value = n;
            is_of = record { least = omega (arith, least); most = omega (arith, b.whole.is_of, last); step = (let h : (n - 0) % 2 ≡ 0 = omega (arith, even) in subst (λ l. (n - l) % s.step ≡ 0) (sym least) (subst (λ t. (n - 0) % t ≡ 0) (sym step) h)) };
            same = b.whole.same ∙ text_even n even;
          };
        }
      ]
