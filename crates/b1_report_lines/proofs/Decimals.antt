-- Decimal numbers are read exactly.
use Rattle.std.specs.Prelude.{codes}
use Rattle.std.proofs.Common.{◌≡◌, ℕ, zero, suc, ◌+◌, ◌*◌, ◌-◌, ◌/◌, ◌%◌, ◌^◌, ◌<◌, ◌≤◌, Bool, true, false, cond, not, ◌&&◌, ◌||◌, eqb, ltb, List, [], ◌∷◌, ◌++◌, length, get_or, Ok, Err, refl, sym, ap, subst, ◌∙◌, arith, inl, inr, ◌⊎◌, eq-eqb}
use Rattle.std.proofs.lemmas.Bool.Decides.{eqb_tells, nat_tests}
use Rattle.std.proofs.lemmas.Bool.{eqb-true, ltb-true, ltb-false, lt-ltb}
use Rattle.std.proofs.lemmas.List.{append_assoc, append-nil, length-append, take_at}
use Rattle.std.proofs.lemmas.Int.Digits.{digits_value_push}
use Rattle.std.proofs.lemmas.Str.Parse.{IsNumeralModel, numerals_by_value, tells_all_ascii_digits, digits_value-take-le}
use Rattle.std.proofs.lemmas.Fmt.{decimal_digit, decimal_step, decimal_nonempty, first_decimal, digits_decimal, digits_value-decimal, decimal-digits_value}
use Rattle.std.specs.Fmt.{decimal, digits, digits_onto, digit_glyph}
use Rattle.std.specs.Str.{all_ascii_digits}
use Rattle.std.specs.Str.Parse.{digits_value}
use Rattle.b1_text_words.specs.Numbers.{invalid, number_text}
use Rattle.b1_report_lines.specs.declared.unread.Stop.TheVariants.{Cut, Broken}
use Rattle.b1_report_lines.specs.Reading.{◌>>=◌, Read, strip, behind, only, is_number, number_at, last_to_go_on, rest_at, quarter_at, known_at}
use Rattle.b1_report_lines.proofs.Splitting.{IsFree, free_cons}
use Rattle.b1_report_lines.proofs.Exact.{IsExact, converted, only_exact, behind_exact}
use Rattle.b1_report_lines.proofs.Choices.{either_exact}

own : IsNumeralModel (λ ds. all_ascii_digits ds ≡ true) (digits_value 10)
own = numerals_by_value (λ ds. all_ascii_digits ds ≡ true) tells_all_ascii_digits

pub both : (a b : Bool) → (a && b) ≡ true → (a ≡ true) × (b ≡ true)
both true b h = (refl, h)
both false b h = absurd cc

pub both_are : (a b : Bool) → a ≡ true → b ≡ true → (a && b) ≡ true
both_are a b h k = rw (h, k) refl

-- no zero in front of others
first_or_one : (first : Bool) (one : Bool) → (not first || one) ≡ true → first ≡ true → one ≡ true
first_or_one true one h k = h
first_or_one false one h k = absurd cc

no_first : (first : Bool) (one : Bool) → (first ≡ true → one ≡ true) → (not first || one) ≡ true
no_first true one h = h refl
no_first false one h = refl

pub record IsPlain (limit : ℕ) (b : List ℕ) : Type 0 where
  pub digits : all_ascii_digits b ≡ true
  pub zero_alone : get_or b 0 0 ≡ 48 → length b ≡ 1
  pub small : digits_value 10 b < limit

plain_from : (limit : ℕ) (b : List ℕ) → is_number limit b ≡ true → IsPlain limit b
plain_from limit b h =
    let x = both (all_ascii_digits b && (not (eqb (get_or b 0 0) 48) || eqb (length b) 1)) (ltb (digits_value 10 b) limit) h in
    let y = both (all_ascii_digits b) (not (eqb (get_or b 0 0) 48) || eqb (length b) 1) x.0 in
    record {
      digits = y.0;
      zero_alone = λ k. eqb-true (length b) 1 (first_or_one (eqb (get_or b 0 0) 48) (eqb (length b) 1) y.1 (eq-eqb (get_or b 0 0) 48 k));
      small = ltb-true (digits_value 10 b) limit x.1;
    }

plain_to : (limit : ℕ) (b : List ℕ) → IsPlain limit b → is_number limit b ≡ true
plain_to limit b h =
    both_are (all_ascii_digits b && (not (eqb (get_or b 0 0) 48) || eqb (length b) 1)) (ltb (digits_value 10 b) limit)
    (both_are (all_ascii_digits b) (not (eqb (get_or b 0 0) 48) || eqb (length b) 1) h.digits
    (no_first (eqb (get_or b 0 0) 48) (eqb (length b) 1) (λ k. eq-eqb (length b) 1 (h.zero_alone (eqb-true (get_or b 0 0) 48 k)))))
    (lt-ltb (digits_value 10 b) limit h.small)

decimal_plain : (limit n : ℕ) → limit ≤ 2 ^ 64 → n < limit → IsPlain limit (decimal n)
decimal_plain limit n le lt =
    let small : n < 2 ^ 64 = omega (arith, le, lt) in
    let value : digits_value 10 (decimal n) ≡ n = digits_value-decimal own n small in
    record {
      digits = digits_decimal own n small;
      zero_alone = λ k. elim (eqb_tells n 0) [
        | inl e ↦ rw (e.1, decimal_digit 0 (omega arith)) refl
        | inr e ↦ absurd (omega (arith, k, first_decimal n (omega (arith, e.1)) small))
      ];
      small = rw value lt;
    }

-- the front of digits
digits_front : (b t : List ℕ) → all_ascii_digits (b ++ t) ≡ true → all_ascii_digits b ≡ true
digits_front [] t h = refl
digits_front (c ∷ cs) t h = let x = both _ (all_ascii_digits (cs ++ t)) h in both_are _ (all_ascii_digits cs) x.0 (digits_front cs t x.1)

value_front : (b t : List ℕ) → digits_value 10 b ≤ digits_value 10 (b ++ t)
value_front b t = subst (λ (x : List ℕ). digits_value 10 x ≤ digits_value 10 (b ++ t)) (take_at b t (length b) refl) (digits_value-take-le 10 (b ++ t) (length b) (omega arith))

plain_front : (limit : ℕ) (c : ℕ) (cs t : List ℕ) → IsPlain limit (c ∷ cs ++ t) → IsPlain limit (c ∷ cs)
plain_front limit c cs t h = record {
  digits = digits_front (c ∷ cs) t h.digits;
  zero_alone = λ k. omega (arith, h.zero_alone k, length-append cs t);
  small = omega (arith, value_front (c ∷ cs) t, h.small);
}

number_ok : (limit : ℕ) (b : List ℕ) (n : ℕ) → number_at limit b ≡ Ok n → (0 < length b) × IsPlain limit b × (digits_value 10 b ≡ n)
number_ok limit [] n e = absurd cc
number_ok limit (c ∷ cs) n e = at (is_number limit (c ∷ cs)) refl e where
  at : (v : Bool) → is_number limit (c ∷ cs) ≡ v → cond v (Ok (digits_value 10 (c ∷ cs))) (Err Broken) ≡ Ok n → (0 < length (c ∷ cs)) × IsPlain limit (c ∷ cs) × (digits_value 10 (c ∷ cs) ≡ n)
  at true k u = (omega arith, plain_from limit (c ∷ cs) k, cc)
  at false k u = absurd cc

pub number_is : (limit : ℕ) (b : List ℕ) → 0 < length b → IsPlain limit b → number_at limit b ≡ Ok (digits_value 10 b)
number_is limit [] h k = absurd (omega arith)
number_is limit (c ∷ cs) h k = rw (plain_to limit (c ∷ cs) k) refl

number_broken : (limit : ℕ) (c : ℕ) (cs : List ℕ) → number_at limit (c ∷ cs) ≡ Err Broken → is_number limit (c ∷ cs) ≡ false
number_broken limit c cs e = at (is_number limit (c ∷ cs)) refl e where
  at : (v : Bool) → is_number limit (c ∷ cs) ≡ v → cond v (Ok (digits_value 10 (c ∷ cs))) (Err Broken) ≡ Err Broken → is_number limit (c ∷ cs) ≡ false
  at true k u = absurd cc
  at false k u = k

number_cut : (limit : ℕ) (b : List ℕ) → number_at limit b ≡ Err Cut → b ≡ []
number_cut limit [] e = refl
number_cut limit (c ∷ cs) e = at (is_number limit (c ∷ cs)) e where
  at : (v : Bool) → cond v (Ok (digits_value 10 (c ∷ cs))) (Err Broken) ≡ Err Cut → c ∷ cs ≡ []
  at true u = absurd cc
  at false u = absurd cc

number_stable : (limit : ℕ) (b t : List ℕ) → number_at limit b ≡ Err Broken → number_at limit (b ++ t) ≡ Err Broken
number_stable limit [] t e = absurd cc
number_stable limit (c ∷ cs) t e = at (is_number limit (c ∷ cs ++ t)) refl where
  at : (v : Bool) → is_number limit (c ∷ cs ++ t) ≡ v → number_at limit (c ∷ cs ++ t) ≡ Err Broken
  at true k =
      let whole : is_number limit (c ∷ cs) ≡ true = plain_to limit (c ∷ cs) (plain_front limit c cs t (plain_from limit (c ∷ cs ++ t) k)) in
      let part : is_number limit (c ∷ cs) ≡ false = number_broken limit c cs e in
      absurd cc
  at false k = rw k refl

pub number_exact : (limit : ℕ) → 0 < limit → limit ≤ 2 ^ 64 → IsExact (number_at limit) decimal (λ n. n < limit)
number_exact limit some le = record {
  takes = λ b n e.
      let k = number_ok limit b n e in
      let same : decimal (digits_value 10 b) ≡ b = decimal-digits_value own b k.1.digits k.0 k.1.zero_alone (omega (arith, k.1.small, le)) in
      (sym same ∙ ap decimal k.2, subst (λ (x : ℕ). x < limit) k.2 k.1.small);
  again = λ n h.
      let small : n < 2 ^ 64 = omega (arith, h, le) in
      number_is limit (decimal n) (decimal_nonempty n small) (decimal_plain limit n le h) ∙ ap (λ (x : ℕ). Ok x) (digits_value-decimal own n small);
  cut = λ b e. (decimal 0, 0, (ap (λ (x : List ℕ). x ++ decimal 0) (number_cut limit b e), some));
  stable = λ b t e. number_stable limit b t e;
  some = (0, some);
}

-- ---- digits and marks

digit_range : (c : ℕ) (cs : List ℕ) → all_ascii_digits (c ∷ cs) ≡ true → (48 ≤ c) × (c ≤ 57)
digit_range c cs h = (tells_all_ascii_digits.parts c cs h).0

no_digit : (mark c : ℕ) → (mark < 48) ⊎ (57 < mark) → (48 ≤ c) × (c ≤ 57) → eqb c mark ≡ false
no_digit mark c h k = elim (eqb_tells c mark) [
  | inl e ↦ elim h [ inl u ↦ absurd (omega (arith, e.1, u, k.0)) | inr u ↦ absurd (omega (arith, e.1, u, k.1)) ]
  | inr e ↦ e.0
]

digits_free : (mark : ℕ) (ds : List ℕ) → (mark < 48) ⊎ (57 < mark) → all_ascii_digits ds ≡ true → IsFree mark ds
digits_free mark [] h k = refl
digits_free mark (c ∷ cs) h k = free_cons mark c cs (no_digit mark c h (digit_range c cs k)) (digits_free mark cs h (both _ (all_ascii_digits cs) k).1)

pub decimal_free : (mark n : ℕ) → (mark < 48) ⊎ (57 < mark) → n < 2 ^ 64 → IsFree mark (decimal n)
decimal_free mark n h small = digits_free mark (decimal n) h (digits_decimal own n small)

glyph_range : (n : ℕ) → (48 ≤ digit_glyph false (n % 10)) × (digit_glyph false (n % 10) ≤ 57)
glyph_range n = grind (arith, nat_tests)

onto_free : (mark : ℕ) → (mark < 48) ⊎ (57 < mark) → (k n : ℕ) (ds : List ℕ) → IsFree mark ds → IsFree mark (digits_onto k 10 false n ds)
onto_free mark h zero n ds free = free
onto_free mark h (suc k) n ds free =
    let d : ℕ = digit_glyph false (n % 10) in
    let more : IsFree mark (d ∷ ds) = free_cons mark d ds (no_digit mark d h (glyph_range n)) free in
    at (eqb (n / 10) 0) (d ∷ ds) (digits_onto k 10 false (n / 10) (d ∷ ds)) more (onto_free mark h k (n / 10) (d ∷ ds) more) where
      at : (v : Bool) (x y : List ℕ) → IsFree mark x → IsFree mark y → IsFree mark (cond v x y)
      at true x y one two = one
      at false x y one two = two

-- of any number, however many digits it has
pub any_decimal_free : (mark n : ℕ) → (mark < 48) ⊎ (57 < mark) → IsFree mark (decimal n)
unfolding digits
any_decimal_free mark n h = onto_free mark h 64 n [] refl

apart_digits : (w : ℕ) (ws ds : List ℕ) → (w < 48) ⊎ (57 < w) → 0 < length ds → all_ascii_digits ds ≡ true → strip (w ∷ ws) ds ≡ Err Broken
apart_digits w ws [] h some k = absurd (omega arith)
apart_digits w ws (c ∷ cs) h some k = rw (no_digit w c h (digit_range c cs k)) refl

-- a word that begins with no digit doesn't begin a number
pub apart_decimal : (w : ℕ) (ws : List ℕ) (n : ℕ) → (w < 48) ⊎ (57 < w) → n < 2 ^ 64 → strip (w ∷ ws) (decimal n) ≡ Err Broken
apart_decimal w ws n h small = apart_digits w ws (decimal n) h (decimal_nonempty n small) (digits_decimal own n small)

-- ---- a number of a receipt

pub number_fits_known : (n : ℕ) → (n ≡ invalid) ⊎ (n < 2 ^ 64 - 1) → n < 2 ^ 64
number_fits_known n (inl e) = omega (arith, e)
number_fits_known n (inr lt) = omega (arith, lt)

known_fits_number : (n : ℕ) → n < 2 ^ 64 → (n ≡ invalid) ⊎ (n < 2 ^ 64 - 1)
known_fits_number n lt = elim (eqb_tells n invalid) [
  | inl e ↦ inl e.1
  | inr e ↦ inr (omega (arith, lt, e.1))
]

pub not_invalid : (n : ℕ) → n < 2 ^ 64 - 1 → number_text n ≡ decimal n
not_invalid n lt = elim (eqb_tells n invalid) [
  | inl e ↦ absurd (omega (arith, e.1, lt))
  | inr e ↦ rw e.0 refl
]

pub known_exact : IsExact known_at number_text (λ n. n < 2 ^ 64)
known_exact =
    let word : List ℕ = codes "invalid" in
    let first : IsExact (behind (codes "invalid") (only invalid)) number_text (λ n. n ≡ invalid)
    = converted (behind (codes "invalid") (only invalid)) (λ n. codes "invalid" ++ []) number_text (λ n. n ≡ invalid) (λ n. n ≡ invalid) (behind_exact (codes "invalid") (only invalid) (λ n. []) (λ n. n ≡ invalid) (only_exact invalid)) (λ n h. rw h refl) (λ n h. h) (λ n h. h) in
    let second : IsExact (number_at (2 ^ 64 - 1)) number_text (λ n. n < 2 ^ 64 - 1)
    = converted (number_at (2 ^ 64 - 1)) decimal number_text (λ n. n < 2 ^ 64 - 1) (λ n. n < 2 ^ 64 - 1) (number_exact (2 ^ 64 - 1) (omega arith) (omega arith)) (λ n h. sym (not_invalid n h)) (λ n h. h) (λ n h. h) in
    converted known_at number_text number_text (λ n. (n ≡ invalid) ⊎ (n < 2 ^ 64 - 1)) (λ n. n < 2 ^ 64)
    (either_exact (behind (codes "invalid") (only invalid)) (number_at (2 ^ 64 - 1)) number_text (λ n. n ≡ invalid) (λ n. n < 2 ^ 64 - 1) first second
    (λ n h. rw (not_invalid n h) (ap (λ r. r >>= only invalid) (apart_decimal 105 (codes "nvalid") n (inr (omega arith)) (omega (arith, h))))))
    (λ n h. refl) number_fits_known known_fits_number

known_free_at : (mark n : ℕ) → (mark < 48) ⊎ ((57 < mark) × (mark < 97)) → (n ≡ invalid) ⊎ (n < 2 ^ 64 - 1) → IsFree mark (number_text n)
known_free_at mark n h (inl e) =
    let word : IsFree mark (codes "invalid") = free_letters mark 105 (codes "nvalid") h (omega arith) (free_letters mark 110 (codes "valid") h (omega arith) (free_letters mark 118 (codes "alid") h (omega arith) (free_letters mark 97 (codes "lid") h (omega arith) (free_letters mark 108 (codes "id") h (omega arith) (free_letters mark 105 (codes "d") h (omega arith) (free_letters mark 100 [] h (omega arith) refl)))))) in
    rw e word where
      free_letters : (mark c : ℕ) (cs : List ℕ) → (mark < 48) ⊎ ((57 < mark) × (mark < 97)) → 97 ≤ c → IsFree mark cs → IsFree mark (c ∷ cs)
      free_letters mark c cs h le k = free_cons mark c cs (elim (eqb_tells c mark) [
        | inl e ↦ elim h [ inl u ↦ absurd (omega (arith, e.1, u, le)) | inr u ↦ absurd (omega (arith, e.1, u.1, le)) ]
        | inr e ↦ e.0
      ]) k
known_free_at mark n h (inr lt) = rw (not_invalid n lt) (decimal_free mark n (elim h [ inl u ↦ inl u | inr u ↦ inr u.0 ]) (omega (arith, lt)))

-- marks other than digits and letters
pub known_free : (mark n : ℕ) → (mark < 48) ⊎ ((57 < mark) × (mark < 97)) → n < 2 ^ 64 → IsFree mark (number_text n)
known_free mark n h lt = known_free_at mark n h (known_fits_number n lt)

known_apart_at : (n : ℕ) → (n ≡ invalid) ⊎ (n < 2 ^ 64 - 1) → strip (45 ∷ []) (number_text n) ≡ Err Broken
known_apart_at n (inl e) = rw e refl
known_apart_at n (inr lt) = rw (not_invalid n lt) (apart_decimal 45 [] n (inl (omega arith)) (omega (arith, lt)))

pub known_apart : (n : ℕ) → n < 2 ^ 64 → strip (45 ∷ []) (number_text n) ≡ Err Broken
known_apart n lt = known_apart_at n (known_fits_number n lt)

-- ---- numbers with a rest

abbrev done : ℕ → Read ℕ
done n = Ok n

module _ (rest : ℕ) (small : rest < 4) where
  abbrev IsLast : ℕ → Type 0
  IsLast n = (n ≡ 0) ⊎ (last_to_go_on < n)

  last_from : (n : ℕ) → (eqb n 0 || ltb last_to_go_on n) ≡ true → IsLast n
  last_from n h = elim (eqb_tells n 0) [
    | inl e ↦ inl e.1
    | inr e ↦ inr (ltb-true last_to_go_on n (rw e.0 at h))
  ]

  not_last : (n : ℕ) → (eqb n 0 || ltb last_to_go_on n) ≡ false → (0 < n) × (n ≤ last_to_go_on)
  not_last n h = elim (eqb_tells n 0) [
    | inl e ↦ absurd (is_true (eqb n 0) (ltb last_to_go_on n) e.0 h)
    | inr e ↦ (omega (arith, e.1), ltb-false last_to_go_on n (rw e.0 at h))
  ] where
    is_true : (a b : Bool) → a ≡ true → (a || b) ≡ false → ⊥
    is_true a b p q = cc

  rest_ok : (r : Read ℕ) (n : ℕ) → rest_at rest r ≡ Ok n → (r ≡ Ok n) × (n % 4 ≡ rest)
  rest_ok (Err d) n e = absurd cc
  rest_ok (Ok m) n e = at (eqb (m % 4) rest) (eqb m 0 || ltb last_to_go_on m) refl e where
    at : (v w : Bool) → eqb (m % 4) rest ≡ v → cond v (Ok m) (cond w (Err Broken) (Err Cut)) ≡ Ok n → (done m ≡ Ok n) × (n % 4 ≡ rest)
    at true w k u = (u, let is : m ≡ n = cc in rw (← is) (eqb-true (m % 4) rest k))
    at false true k u = absurd cc
    at false false k u = absurd cc

  rest_cut : (r : Read ℕ) → rest_at rest r ≡ Err Cut → (r ≡ Err Cut) ⊎ ((n : ℕ) × (r ≡ Ok n) × ((0 < n) × (n ≤ last_to_go_on)))
  rest_cut (Err d) e = inl e
  rest_cut (Ok m) e = at (eqb (m % 4) rest) (eqb m 0 || ltb last_to_go_on m) refl e where
    at : (v w : Bool) → (eqb m 0 || ltb last_to_go_on m) ≡ w → cond v (Ok m) (cond w (Err Broken) (Err Cut)) ≡ Err Cut → (done m ≡ Err Cut) ⊎ ((n : ℕ) × (done m ≡ Ok n) × ((0 < n) × (n ≤ last_to_go_on)))
    at true w k u = absurd cc
    at false true k u = absurd cc
    at false false k u = inr (m, refl, not_last m k)

  rest_broken : (r : Read ℕ) → rest_at rest r ≡ Err Broken → (r ≡ Err Broken) ⊎ ((n : ℕ) × (r ≡ Ok n) × IsLast n)
  rest_broken (Err d) e = inl e
  rest_broken (Ok m) e = at (eqb (m % 4) rest) (eqb m 0 || ltb last_to_go_on m) refl e where
    at : (v w : Bool) → (eqb m 0 || ltb last_to_go_on m) ≡ w → cond v (Ok m) (cond w (Err Broken) (Err Cut)) ≡ Err Broken → (done m ≡ Err Broken) ⊎ ((n : ℕ) × (done m ≡ Ok n) × IsLast n)
    at true w k u = absurd cc
    at false true k u = inr (m, refl, last_from m k)
    at false false k u = absurd cc

  -- behind such a number stands no digit more
  alone : (c : ℕ) (cs : List ℕ) → (IsPlain (2 ^ 64) (c ∷ cs) → ⊥) → number_at (2 ^ 64) (c ∷ cs) ≡ Err Broken
  alone c cs h = at (is_number (2 ^ 64) (c ∷ cs)) refl where
    at : (v : Bool) → is_number (2 ^ 64) (c ∷ cs) ≡ v → cond v (Ok (digits_value 10 (c ∷ cs))) (Err Broken) ≡ Err Broken
    at true k = absurd (h (plain_from (2 ^ 64) (c ∷ cs) k))
    at false k = refl

  longer_value : (b : List ℕ) (c : ℕ) (cs : List ℕ) → 10 * digits_value 10 b ≤ digits_value 10 (b ++ c ∷ cs)
  longer_value b c cs =
      let front : digits_value 10 (b ++ c ∷ []) ≤ digits_value 10 ((b ++ c ∷ []) ++ cs) = value_front (b ++ c ∷ []) cs in
      let same : (b ++ c ∷ []) ++ cs ≡ b ++ c ∷ cs = append_assoc b (c ∷ []) cs in
      omega (arith, digits_value_push 10 b c, front, ap (digits_value 10) same)

  no_longer : (b : List ℕ) (n c : ℕ) (cs : List ℕ) → number_at (2 ^ 64) b ≡ Ok n → IsLast n → IsPlain (2 ^ 64) (b ++ c ∷ cs) → ⊥
  no_longer b n c cs e (inl z) h =
      let k = number_ok (2 ^ 64) b n e in
      let is : b ≡ 48 ∷ [] = sym (decimal-digits_value own b k.1.digits k.0 k.1.zero_alone k.1.small) ∙ ap decimal (k.2 ∙ z) ∙ decimal_digit 0 (omega arith) in
      let one : length (b ++ c ∷ cs) ≡ 1 = h.zero_alone (rw is refl) in
      omega (arith, one, length-append b (c ∷ cs), k.0)
  no_longer b n c cs e (inr big) h =
      let k = number_ok (2 ^ 64) b n e in
      omega (arith, longer_value b c cs, h.small, k.2, big)

  last_stays : (b : List ℕ) (n : ℕ) (t : List ℕ) → number_at (2 ^ 64) b ≡ Ok n → IsLast n → quarter_at rest b ≡ Err Broken → quarter_at rest (b ++ t) ≡ Err Broken
  last_stays b n [] e h k = rw (append-nil b) k
  last_stays [] n (c ∷ cs) e h k = absurd cc
  last_stays (x ∷ xs) n (c ∷ cs) e h k = ap (rest_at rest) (alone x (xs ++ c ∷ cs) (no_longer (x ∷ xs) n c cs e h))

  quarter_cut : (b : List ℕ) → quarter_at rest b ≡ Err Cut → (t : List ℕ) × (n : ℕ) × ((b ++ t ≡ decimal n) × ((n < 2 ^ 64) × (n % 4 ≡ rest)))
  quarter_cut b e = elim (rest_cut (number_at (2 ^ 64) b) e) [
    | inl k ↦ (decimal rest, rest, (ap (λ (x : List ℕ). x ++ decimal rest) (number_cut (2 ^ 64) b k), (omega (arith, small), omega (arith, small))))
    | inr k ↦
        let n : ℕ = k.0 in
        let d : ℕ = (rest + 2 * n) % 4 in
        let m : ℕ = 10 * n + d in
        let under : d < 4 = omega arith in
        let fits : m < 2 ^ 64 = omega (arith, under, k.2.1) in
        let step : decimal m ≡ decimal (m / 10) ++ ((48 + m % 10) ∷ []) = decimal_step m (omega (arith, k.2.0)) fits in
        let front : m / 10 ≡ n = omega (arith, under) in
        let t = (number_exact (2 ^ 64) (omega arith) (omega arith)).takes b n k.1 in
        ((48 + m % 10) ∷ [], m, (rw (t.0, step, front) refl, (fits, omega (arith, small))))
  ]

  pub quarter_exact : IsExact (quarter_at rest) decimal (λ n. (n < 2 ^ 64) × (n % 4 ≡ rest))
  quarter_exact = record {
    takes = λ b n e.
        let k = rest_ok (number_at (2 ^ 64) b) n e in
        let t = (number_exact (2 ^ 64) (omega arith) (omega arith)).takes b n k.0 in
        (t.0, (t.1, k.1));
    again = λ n h. rw ((number_exact (2 ^ 64) (omega arith) (omega arith)).again n h.0, eq-eqb (n % 4) rest h.1) refl;
    cut = quarter_cut;
    stable = λ b t e. elim (rest_broken (number_at (2 ^ 64) b) e) [
      | inl k ↦ ap (rest_at rest) (number_stable (2 ^ 64) b t k)
      | inr k ↦ last_stays b k.0 t k.1 k.2 e
    ];
    some = (rest, (omega (arith, small), omega (arith, small)));
  }
