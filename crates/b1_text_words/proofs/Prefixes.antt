-- Bytes that begin the digits of a number of a progression.
use Rattle.std.proofs.Common.{◌≡◌, arith, ℕ, ◌+◌, ◌-◌, ◌*◌, ◌/◌, ◌%◌, ◌^◌, ◌<◌, ◌≤◌, inl, inr, List, [], ◌∷◌, ◌++◌, length, get_or, Option, Some, None, refl, sym, ap, subst, ◌∙◌, append-nil}
use Rattle.std.specs.Prelude.{decimal}
use Rattle.std.proofs.lemmas.Bool.{cases_lt}
use Rattle.std.proofs.lemmas.Fmt.{decimal_injective, decimal_digit, first_decimal}
use Rattle.std.proofs.lemmas.Nat.{div-mul-add}
use Rattle.std.proofs.Math.Nat.{div-mul-le_self, div-le_self, lt-div-mul-add, one-le-pow, zero-mod}
use Rattle.b1_text_words.specs.declared.among.Numbers.{Numbers}
use Rattle.b1_text_words.specs.Items.{IsAmong}
use Rattle.b1_text_words.specs.Digits.{Reaches}
use Rattle.b1_text_words.specs.Words.{Spells, Reads, Begins}
use Rattle.b1_text_words.proofs.Digits.{begin_decimal, decimal_goes_on}

-- a value begins with each of its own words
pub begins_whole : {A : Type 0} (text : A → List ℕ) (IsOf : A → Type 0) (word : List ℕ) (x : A) → IsOf x → word ≡ text x → Begins (Spells text IsOf) word
begins_whole text IsOf word x is same = record { rest = []; whole = record { value = x; is_of = is; same = append-nil word ∙ same } }

-- where the bytes are no digits
pub no_digits : (s : Numbers) (word : List ℕ) (IsOf : ℕ → Type 0) → ((n : ℕ) → IsOf n → n < 2 ^ 64) → 0 < length word → (r : Option ℕ) → r ≡ None → Reads decimal (λ n. n < 2 ^ 64) word r → Begins (Spells decimal IsOf) word → ⊥
no_digits s word IsOf small some r is reads b =
    let n = b.whole.value in
    let fits = small n b.whole.is_of in
    let digits : word ≡ decimal (n / 10 ^ length b.rest) = begin_decimal (length b.rest) n word b.rest refl fits some b.whole.same in
    let found : r ≡ Some (n / 10 ^ length b.rest) = reads.whole (n / 10 ^ length b.rest) (omega (arith, fits, div-le_self n (10 ^ length b.rest))) digits in
    absurd (cc)

-- where they are the zero
pub zero_begins : (s : Numbers) (word : List ℕ) → word ≡ decimal 0 → s.least ≡ 0 → Begins (Spells decimal (IsAmong s)) word
zero_begins s word same first = begins_whole decimal (IsAmong s) word 0 (record { least = omega (arith, first); most = omega arith; step = ap (λ n. n % s.step) (let none : 0 - s.least ≡ 0 = omega (arith, first) in none) ∙ zero-mod s.step }) same

pub zero_least : (s : Numbers) (word : List ℕ) → word ≡ decimal 0 → Begins (Spells decimal (IsAmong s)) word → s.least ≡ 0
zero_least s word same b =
    let n = b.whole.value in
    let one : word ≡ 48 ∷ [] = same ∙ decimal_digit 0 (omega arith) in
    let text : 48 ∷ b.rest ≡ decimal n = ap (λ w. w ++ b.rest) (sym one) ∙ b.whole.same in
    elim (cases_lt 0 n) [
      | inl some ↦ absurd (let head : 48 < get_or (decimal n) 0 0 = first_decimal n some (omega (arith, s.fits, b.whole.is_of.most)) in let bad : 48 < 48 = subst (λ w. 48 < get_or w 0 0) (sym text) head in omega (arith, bad))
      | inr none ↦ omega (arith, none, b.whole.is_of.least)
    ]

-- where they are another number
pub reaches_begins : (s : Numbers) (word : List ℕ) (m : ℕ) → 1 ≤ m → word ≡ decimal m → Reaches s m 1 → Begins (Spells decimal (IsAmong s)) word
reaches_begins s word m some same r =
    let k = r.digits in
    let n = r.has.number in
    let left : n ≡ m * 10 ^ k + (n - m * 10 ^ k) = omega (arith, r.has.above) in
    let over : n - m * 10 ^ k < 10 ^ k = omega (arith, r.has.above, r.has.below) in
    let front : n / 10 ^ k ≡ m = ap (λ x. x / 10 ^ k) left ∙ div-mul-add m (10 ^ k) (n - m * 10 ^ k) over in
    let more = decimal_goes_on k n (omega (arith, s.fits, r.has.among.most)) (rw front some) in
    record { rest = more.0; whole = record { value = n; is_of = r.has.among; same = ap (λ w. w ++ more.0) (same ∙ ap decimal (sym front)) ∙ more.1 } }

pub begins_reaches : (s : Numbers) (word : List ℕ) (m : ℕ) → m < 2 ^ 64 → 0 < length word → word ≡ decimal m → Begins (Spells decimal (IsAmong s)) word → Reaches s m 1
begins_reaches s word m fits some same b =
    let n = b.whole.value in
    let k = length b.rest in
    let within : n < 2 ^ 64 = omega (arith, s.fits, b.whole.is_of.most) in
    let digits : word ≡ decimal (n / 10 ^ k) = begin_decimal k n word b.rest refl within some b.whole.same in
    let front : m ≡ n / 10 ^ k = decimal_injective m (n / 10 ^ k) fits (omega (arith, within, div-le_self n (10 ^ k))) (sym same ∙ digits) in
    let power : 1 ≤ 10 ^ k = one-le-pow k 10 (omega arith) in
    let low : n / 10 ^ k * 10 ^ k ≤ n = div-mul-le_self n (10 ^ k) in
    let high : n < n / 10 ^ k * 10 ^ k + 10 ^ k = lt-div-mul-add power in
    record { digits = k; has = record { number = n; among = b.whole.is_of; above = rw front low; below = let wide : n < n / 10 ^ k * 10 ^ k + 1 * 10 ^ k = omega (arith, high) in rw front wide } }

-- where there is none
pub nothing_begins : (s : Numbers) (word : List ℕ) → word ≡ [] → Begins (Spells decimal (IsAmong s)) word
nothing_begins s word none = record { rest = decimal s.least; whole = record { value = s.least; is_of = record { least = omega arith; most = s.some; step = ap (λ n. n % s.step) (let same : s.least - s.least ≡ 0 = omega arith in same) ∙ zero-mod s.step }; same = ap (λ w. w ++ decimal s.least) none } }
