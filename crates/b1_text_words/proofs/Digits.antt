-- Decimal digits: what they spell, and the digits that begin them.
use Rattle.std.proofs.Common.{◌≡◌, ◌≢◌, arith, ℕ, zero, suc, ◌+◌, ◌/◌, ◌%◌, ◌^◌, ◌<◌, ◌≤◌, true, false, inl, inr, List, [], ◌∷◌, ◌++◌, length, take, get_or, sym, ap, subst, ◌∙◌, append_assoc, append-nil, length-append, Option, Some, None}
use Rattle.std.specs.Prelude.{SomeIff, decimal}
use Rattle.std.specs.Str.Parse.{IsNumeral, AllDigits, digits_value}
use Rattle.std.proofs.lemmas.Fmt.{decimal_is_IsNumeral, decimal_digit, decimal_step, decimal_nonempty, first_decimal, decimal-digits_value}
use Rattle.std.proofs.lemmas.Str.Parse.{IsNumeralModel, numerals_by_value, tells_digits, digit_from_value}
use Rattle.std.proofs.Math.Seq.{take-append_seam, take-append-add}
use Rattle.std.proofs.Math.Nat.{div-div-eq-div-mul, div-one, div-le_self, pow-succ'}
use Rattle.std.specs.Str.{IsUtf8}
use Rattle.std.proofs.lemmas.Str.{IsUtf8-from_ascii}
use Rattle.std.proofs.lemmas.Fmt.{IsAscii-from_digits}
use Rattle.std.proofs.lemmas.Bool.{cases_eq, cases_lt}
use Rattle.std.proofs.lemmas.List.{length-take-le}
use Rattle.b1_text_words.specs.Digits.{has_sign_or_zero}
use Rattle.b1_text_words.specs.Words.{Reads}

own : IsNumeralModel (AllDigits 10) (digits_value 10)
own = numerals_by_value (AllDigits 10) tells_digits

-- digits that are the value's own
abbrev pub IsDecimal : List ℕ → ℕ → Type 0
IsDecimal word n = word ≡ decimal n

-- what digits without a zero before them spell
pub reads_decimal : (word : List ℕ) (r : Option ℕ) → (get_or word 0 0 ≡ 48 → length word ≤ 1) →
    SomeIff r (IsNumeral 10 word × (digits_value 10 word < 2 ^ 64)) (digits_value 10 word) → Reads decimal (λ n. n < 2 ^ 64) word r
reads_decimal word None first says = record {
  found = tt;
  whole = λ x small same. absurd (says (subst (λ w. IsNumeral 10 w × (digits_value 10 w < 2 ^ 64)) (sym same) ((decimal_is_IsNumeral x small).0, rw (decimal_is_IsNumeral x small).1 small)));
}
reads_decimal word (Some n) first says =
    let one : get_or word 0 0 ≡ 48 → length word ≡ 1 = λ e. omega (arith, first e, says.0.0.0) in
    let back : decimal (digits_value 10 word) ≡ word = decimal-digits_value own word says.0.0.1 says.0.0.0 one says.0.1 in
    record {
      found = (subst (λ m. m < 2 ^ 64) (sym says.1) says.0.1, sym back ∙ ap decimal (sym says.1));
      whole = λ x small same. ap Some (says.1 ∙ ap (digits_value 10) same ∙ (decimal_is_IsNumeral x small).1);
    }

-- a plus is no digit
pub no_plus : (rest : List ℕ) (n : ℕ) → n < 2 ^ 64 → 43 ∷ rest ≢ decimal n
no_plus rest n small e = omega (arith, digit_from_value 43 (subst (AllDigits 10) (sym e) (decimal_is_IsNumeral n small).0.1).0)

-- no zero stands before further digits
pub no_zero : (c : ℕ) (rest : List ℕ) (n : ℕ) → n < 2 ^ 64 → 48 ∷ c ∷ rest ≢ decimal n
no_zero c rest zero small e =
    let same : length (48 ∷ c ∷ rest) ≡ 1 = ap length (e ∙ decimal_digit 0 (omega arith)) in
    omega (arith, same)
no_zero c rest (suc n) small e =
    let head : 48 < get_or (decimal (suc n)) 0 0 = first_decimal (suc n) (omega arith) small in
    let above : 48 < 48 = subst (λ w. 48 < get_or w 0 0) (sym e) head in
    omega (arith, above)

-- where it has no number, no number is written so
pub none_written : (word : List ℕ) → has_sign_or_zero word ≡ true → Reads decimal (λ n. n < 2 ^ 64) word None
none_written word is = record { found = tt; whole = λ x small same. absurd (never word is x small same) } where
  never : (word : List ℕ) → has_sign_or_zero word ≡ true → (x : ℕ) → x < 2 ^ 64 → word ≢ decimal x
  never [] is x small same = omega (arith, decimal_nonempty x small, ap length same)
  never (c ∷ []) is x small same = elim (cases_eq c 43) [ inl e ↦ no_plus [] x small (ap (λ d. d ∷ []) (sym e) ∙ same) | inr n ↦ grind arith ]
  never (c ∷ d ∷ rest) is x small same = elim (cases_eq c 43) [ inl e ↦ no_plus (d ∷ rest) x small (ap (λ d'. d' ∷ d ∷ rest) (sym e) ∙ same) | inr n ↦ elim (cases_eq c 48) [ inl e ↦ no_zero d rest x small (ap (λ d'. d' ∷ d ∷ rest) (sym e) ∙ same) | inr m ↦ grind arith ] ]

-- else the digits are read
pub digits_written : (word : List ℕ) (r : Option ℕ) → has_sign_or_zero word ≡ false → SomeIff r (IsNumeral 10 word × (digits_value 10 word < 2 ^ 64)) (digits_value 10 word) → Reads decimal (λ n. n < 2 ^ 64) word r
digits_written [] r is says = absurd (cc)
digits_written (c ∷ rest) r is says = reads_decimal (c ∷ rest) r (λ e. grind arith) says

pub first_no_plus : (word : List ℕ) → has_sign_or_zero word ≡ false → get_or word 0 0 ≢ 43
first_no_plus [] is e = absurd (cc)
first_no_plus (c ∷ rest) is e = grind arith

-- digits are text
pub no_text : (word : List ℕ) → ¬ (IsUtf8 word) → ¬ (IsNumeral 10 word × (digits_value 10 word < 2 ^ 64))
no_text word bad h = bad (IsUtf8-from_ascii word (IsAscii-from_digits word h.0.1))

-- digits that begin others

pub shorter : (n : ℕ) → n < 2 ^ 64 → 1 < length (decimal n) → 10 ≤ n
shorter n small long = elim (cases_lt n 10) [ inl below ↦ (let one : length (decimal n) ≡ 1 = ap length (decimal_digit n below) in omega (arith, one)) | inr above ↦ above ]

pub begin_decimal : (k n : ℕ) (word rest : List ℕ) → length rest ≡ k → n < 2 ^ 64 → 0 < length word → word ++ rest ≡ decimal n → word ≡ decimal (n / 10 ^ k)
begin_decimal zero n word [] size small some same = sym (append-nil word) ∙ same ∙ ap decimal (sym (div-one n))
begin_decimal zero n word (c ∷ rest) size small some same = absurd (omega (arith, size))
begin_decimal (suc k) n word rest size small some same =
    let many : length word + length rest ≡ length (decimal n) = sym (length-append word rest) ∙ ap length same in
    let large : 10 ≤ n = shorter n small (omega (arith, many, size, some)) in
    let step = decimal_step n large small in
    let fewer : length (decimal n) ≡ length (decimal (n / 10)) + 1 = ap length step ∙ length-append (decimal (n / 10)) ((48 + n % 10) ∷ []) in
    let place : length word + k ≡ length (decimal (n / 10)) = omega (arith, many, size, fewer) in
    let front : word ++ take k rest ≡ decimal (n / 10) =
    sym (take-append-add word rest k) ∙ ap (take (length word + k)) (same ∙ step) ∙ ap (λ m. take m (decimal (n / 10) ++ (48 + n % 10) ∷ [])) place ∙ take-append_seam (decimal (n / 10)) ((48 + n % 10) ∷ []) in
    begin_decimal k (n / 10) word (take k rest) (length-take-le k rest (omega (arith, size))) (omega (arith, small)) some front ∙ ap decimal (div-div-eq-div-mul n 10 (10 ^ k) ∙ ap (λ m. n / m) (sym (pow-succ' 10 k)))

pub decimal_goes_on : (k n : ℕ) → n < 2 ^ 64 → 1 ≤ n / 10 ^ k → (rest : List ℕ) × (decimal (n / 10 ^ k) ++ rest ≡ decimal n)
decimal_goes_on zero n small some = ([], append-nil (decimal (n / 1)) ∙ ap decimal (div-one n))
decimal_goes_on (suc k) n small some =
    let down : n / 10 / 10 ^ k ≡ n / 10 ^ suc k = div-div-eq-div-mul n 10 (10 ^ k) ∙ ap (λ m. n / m) (sym (pow-succ' 10 k)) in
    let tens : 1 ≤ n / 10 / 10 ^ k = rw down some in
    let most : n / 10 / 10 ^ k ≤ n / 10 = div-le_self (n / 10) (10 ^ k) in
    let large : 10 ≤ n = omega (arith, tens, most) in
    let before = decimal_goes_on k (n / 10) (omega (arith, small)) tens in (
      before.0 ++ (48 + n % 10) ∷ [],
      sym (append_assoc (decimal (n / 10 ^ suc k)) before.0 ((48 + n % 10) ∷ []))
          ∙ ap (λ w. w ++ (48 + n % 10) ∷ []) (ap (λ m. decimal m ++ before.0) (sym down) ∙ before.1) ∙ sym (decimal_step n large small),
    )
