-- Bytes as pairs of digits.
use Rattle.std.proofs.Common.{◌≡◌, ◌≢◌, arith, ℕ, ◌+◌, ◌*◌, ◌/◌, ◌%◌, ◌<◌, ◌≤◌, Bool, true, false, ◌&&◌, inl, inr, List, [], ◌∷◌, ◌++◌, length, length-append, Some, None, refl, sym, ap, subst, ◌∙◌, append-nil, append_assoc}
use Rattle.std.specs.Prelude.{codes}
use Rattle.std.specs.List.{AllByRecursion, flat_map}
use Rattle.std.proofs.lemmas.Bool.{cases_eq}
use Rattle.std.proofs.lemmas.Bool.Decides.{nat_tests}
use Rattle.std.proofs.lemmas.List.Folds.{list_all-append}
use Rattle.b1_text_words.specs.Digits.{is_hex_digit, are_hex_digits, hex_value, bytes_of, ArePairs}
use Rattle.b1_text_words.specs.Items.{AreBytes}
use Rattle.b1_text_words.specs.Numbers.{hex_digit, hex_pair, hex_text}
use Rattle.b1_text_words.specs.Words.{Spells, Reads, Begins}

-- one digit

digit_of_value : (b : ℕ) → is_hex_digit b ≡ true → (hex_digit (hex_value b) ≡ b) × (hex_value b < 16)
digit_of_value b is = (grind (arith, nat_tests), grind (arith, nat_tests))

value_of_digit : (n : ℕ) → n < 16 → (hex_value (hex_digit n) ≡ n) × (is_hex_digit (hex_digit n) ≡ true)
value_of_digit n small = (grind (arith, nat_tests), grind (arith, nat_tests))

pub digit_given : (v b : ℕ) → v < 16 → hex_digit v ≡ b → v ≡ hex_value b
digit_given v b small same = sym (value_of_digit v small).0 ∙ ap hex_value same

-- both parts of a conjunction
both : (a b : Bool) → (a && b) ≡ true → (a ≡ true) × (b ≡ true)
both true b is = (refl, is)
both false b is = absurd (cc)

-- the bytes that pairs spell

pub pairs_spell : (word : List ℕ) → are_hex_digits word ≡ true → length word % 2 ≡ 0 → flat_map hex_pair (bytes_of word) ≡ word
pairs_spell [] digits even = refl
pairs_spell (a ∷ []) digits even = absurd (omega (arith, even))
pairs_spell (a ∷ b ∷ rest) digits even =
    let one = both (is_hex_digit a) (are_hex_digits (b ∷ rest)) digits in
    let two = both (is_hex_digit b) (are_hex_digits rest) one.1 in
    let x = digit_of_value a one.0 in
    let y = digit_of_value b two.0 in
    let high : (hex_value a * 16 + hex_value b) / 16 ≡ hex_value a = omega (arith, y.1) in
    let low : (hex_value a * 16 + hex_value b) % 16 ≡ hex_value b = omega (arith, y.1) in
    let fewer : length rest % 2 ≡ 0 = omega (arith, even) in
    ap (λ h. hex_digit h ∷ hex_digit ((hex_value a * 16 + hex_value b) % 16) ∷ flat_map hex_pair (bytes_of rest)) high
    ∙ ap (λ l. hex_digit (hex_value a) ∷ hex_digit l ∷ flat_map hex_pair (bytes_of rest)) low
    ∙ ap (λ h. h ∷ hex_digit (hex_value b) ∷ flat_map hex_pair (bytes_of rest)) x.0
    ∙ ap (λ l. a ∷ l ∷ flat_map hex_pair (bytes_of rest)) y.0
    ∙ ap (λ t. a ∷ b ∷ t) (pairs_spell rest two.1 fewer)

pub bytes_small : (word : List ℕ) → are_hex_digits word ≡ true → AllByRecursion (λ b. b < 256) (bytes_of word)
bytes_small [] digits = tt
bytes_small (a ∷ []) digits = tt
bytes_small (a ∷ b ∷ rest) digits =
    let one = both (is_hex_digit a) (are_hex_digits (b ∷ rest)) digits in
    let two = both (is_hex_digit b) (are_hex_digits rest) one.1 in
    (omega (arith, (digit_of_value a one.0).1, (digit_of_value b two.0).1), bytes_small rest two.1)

pub length_bytes : (word : List ℕ) → length (bytes_of word) ≡ length word / 2
length_bytes [] = refl
length_bytes (a ∷ []) = refl
length_bytes (a ∷ b ∷ rest) = let h = length_bytes rest in omega (arith, h)

pub spelled_back : (bytes : List ℕ) → AllByRecursion (λ b. b < 256) bytes → bytes_of (flat_map hex_pair bytes) ≡ bytes
spelled_back [] all = refl
spelled_back (b ∷ bytes) all =
    let high = value_of_digit (b / 16) (omega (arith, all.0)) in
    let low = value_of_digit (b % 16) (omega arith) in
    let value : hex_value (hex_digit (b / 16)) * 16 + hex_value (hex_digit (b % 16)) ≡ b = omega (arith, high.0, low.0) in
    ap (λ v. v ∷ bytes_of (flat_map hex_pair bytes)) value ∙ ap (λ t. b ∷ t) (spelled_back bytes all.1)

pub spelled_digits : (bytes : List ℕ) → AllByRecursion (λ b. b < 256) bytes → are_hex_digits (flat_map hex_pair bytes) ≡ true
spelled_digits [] all = refl
spelled_digits (b ∷ bytes) all =
    let high = (value_of_digit (b / 16) (omega (arith, all.0))).1 in
    let low = (value_of_digit (b % 16) (omega arith)).1 in
    rw (high, low) (spelled_digits bytes all.1)

pub length_spelled : (bytes : List ℕ) → length (flat_map hex_pair bytes) ≡ 2 * length bytes
length_spelled [] = refl
length_spelled (b ∷ bytes) = let h = length_spelled bytes in omega (arith, h)

-- a word of pairs

not_dash : (word : List ℕ) → are_hex_digits word ≡ true → word ≡ codes "-" → ⊥
not_dash word digits e = absurd (let bad : are_hex_digits (codes "-") ≡ true = subst (λ w. are_hex_digits w ≡ true) e digits in cc)

written : (bytes : List ℕ) → 0 < length bytes → hex_text bytes ≡ flat_map hex_pair bytes
written [] some = absurd (omega (arith, some))
written (b ∷ bytes) some = refl

pub pairs_spelled : (most : ℕ) (word : List ℕ) → ArePairs most word → AreBytes most (bytes_of word) × (word ≡ hex_text (bytes_of word))
pairs_spelled most word p =
    let size = length_bytes word in
    let some : 0 < length (bytes_of word) = omega (arith, size, p.some, p.even) in
    (record { items = bytes_small word p.digits; few = omega (arith, size, p.few) }, sym (pairs_spell word p.digits p.even) ∙ sym (written (bytes_of word) some))

pub are_pairs_of : (most : ℕ) (word bytes : List ℕ) → AreBytes most bytes → 0 < length bytes → word ≡ hex_text bytes → ArePairs most word
are_pairs_of most word bytes are some same =
    let whole : word ≡ flat_map hex_pair bytes = same ∙ written bytes some in
    let size : length word ≡ 2 * length bytes = ap length whole ∙ length_spelled bytes in
    record { digits = subst (λ w. are_hex_digits w ≡ true) (sym whole) (spelled_digits bytes are.items); some = omega (arith, size, some); even = omega (arith, size); few = omega (arith, size, are.few) }

pub same_bytes : (most : ℕ) (word bytes : List ℕ) → ArePairs most word → AreBytes most bytes → word ≡ hex_text bytes → bytes_of word ≡ bytes
same_bytes most word [] p are same = absurd (not_dash word p.digits same)
same_bytes most word (b ∷ bytes) p are same = ap bytes_of same ∙ spelled_back (b ∷ bytes) are.items

-- what is read

pub reads_dash : (most : ℕ) (word : List ℕ) → word ≡ codes "-" → Reads hex_text (AreBytes most) word (Some [])
reads_dash most word dash = record { found = (record { items = tt; few = omega arith }, dash); whole = whole } where
  whole : (x : List ℕ) → AreBytes most x → word ≡ hex_text x → Some [] ≡ Some x
  whole [] are same = refl
  whole (b ∷ bytes) are same = absurd (not_dash (hex_text (b ∷ bytes)) (spelled_digits (b ∷ bytes) are.items) (sym same ∙ dash))

pub reads_pairs : (most : ℕ) (word : List ℕ) → ArePairs most word → Reads hex_text (AreBytes most) word (Some (bytes_of word))
reads_pairs most word p = record { found = pairs_spelled most word p; whole = λ x are same. ap Some (same_bytes most word x p are same) }

pub reads_nothing : (most : ℕ) (word : List ℕ) → word ≢ codes "-" → ¬ (ArePairs most word) → Reads hex_text (AreBytes most) word None
reads_nothing most word dash pairs = record { found = tt; whole = whole } where
  whole : (x : List ℕ) → AreBytes most x → word ≡ hex_text x → None ≡ Some x
  whole [] are same = absurd (dash same)
  whole (b ∷ bytes) are same = absurd (pairs (are_pairs_of most word (b ∷ bytes) are (omega arith) same))

pub spells_dash : (most : ℕ) (word : List ℕ) → word ≡ codes "-" → Spells hex_text (AreBytes most) word
spells_dash most word dash = record { value = []; is_of = record { items = tt; few = omega arith }; same = dash }

pub spells_pairs : (most : ℕ) (word : List ℕ) → ArePairs most word → Spells hex_text (AreBytes most) word
spells_pairs most word p = let h = pairs_spelled most word p in record { value = bytes_of word; is_of = h.0; same = h.1 }

pub pairs_or_dash : (most : ℕ) (word : List ℕ) → word ≢ codes "-" → Spells hex_text (AreBytes most) word → ArePairs most word
pairs_or_dash most word dash s = split s.value s.is_of s.same where
  split : (x : List ℕ) → AreBytes most x → word ≡ hex_text x → ArePairs most word
  split [] are same = absurd (dash same)
  split (b ∷ bytes) are same = are_pairs_of most word (b ∷ bytes) are (omega arith) same

-- the bytes that begin one

pub begins_dash : (most : ℕ) (word : List ℕ) → Begins (λ w. w ≡ codes "-") word → Begins (Spells hex_text (AreBytes most)) word
begins_dash most word b = record { rest = b.rest; whole = spells_dash most (word ++ b.rest) b.whole }

pub begins_pairs : (most : ℕ) (word : List ℕ) → ¬ (Begins (λ w. w ≡ codes "-") word) → (length word + 1) / 2 ≤ most → are_hex_digits word ≡ true → Begins (Spells hex_text (AreBytes most)) word
begins_pairs most [] dash few digits = absurd (dash (record { rest = codes "-"; whole = refl }))
begins_pairs most (c ∷ word) dash few digits = elim (cases_eq (length (c ∷ word) % 2) 0) [
  | inl even ↦ record { rest = []; whole = subst (Spells hex_text (AreBytes most)) (sym (append-nil (c ∷ word))) (spells_pairs most (c ∷ word) (record { digits = digits; some = omega arith; even = even; few = omega (arith, few, even) })) }
  | inr odd ↦ (let size : length ((c ∷ word) ++ 48 ∷ []) ≡ length (c ∷ word) + 1 = length-append (c ∷ word) (48 ∷ []) in
      record {
        rest = 48 ∷ [];
        whole = spells_pairs most ((c ∷ word) ++ 48 ∷ []) (record {
          digits = list_all-append is_hex_digit (c ∷ word) (48 ∷ []) ∙ rw digits refl;
          some = omega (arith, size);
          even = omega (arith, size, odd);
          few = omega (arith, size, few, odd);
        });
      })
]

pub pairs_begin : (most : ℕ) (word : List ℕ) → ¬ (Begins (λ w. w ≡ codes "-") word) → Begins (Spells hex_text (AreBytes most)) word → ((length word + 1) / 2 ≤ most) × (are_hex_digits word ≡ true)
pairs_begin most word dash b = split b.whole.value b.whole.is_of b.whole.same where
  split : (x : List ℕ) → AreBytes most x → word ++ b.rest ≡ hex_text x → ((length word + 1) / 2 ≤ most) × (are_hex_digits word ≡ true)
  split [] are same = absurd (dash (record { rest = b.rest; whole = same }))
  split (c ∷ bytes) are same =
      let p = are_pairs_of most (word ++ b.rest) (c ∷ bytes) are (omega arith) same in
      let size : length (word ++ b.rest) ≡ length word + length b.rest = length-append word b.rest in
      let digits = both (are_hex_digits word) (are_hex_digits b.rest) (sym (list_all-append is_hex_digit word b.rest) ∙ p.digits) in
      (omega (arith, size, p.few, p.even), digits.0)

-- what is read so far, and what is left
pub record IsReadTo (word items rest : List ℕ) : Type 0 where
  pub whole : items ++ bytes_of rest ≡ bytes_of word
  pub digits : are_hex_digits rest ≡ true
  pub even : length rest % 2 ≡ 0

pub read_from : (word : List ℕ) → are_hex_digits word ≡ true → length word % 2 ≡ 0 → IsReadTo word [] word
read_from word digits even = record { whole = refl; digits = digits; even = even }

pub read_digits : (word items rest behind : List ℕ) (a b : ℕ) → rest ≡ a ∷ b ∷ behind → IsReadTo word items rest → (is_hex_digit a ≡ true) × (is_hex_digit b ≡ true)
read_digits word items rest behind a b is so =
    let one = both (is_hex_digit a) (are_hex_digits (b ∷ behind)) (subst (λ w. are_hex_digits w ≡ true) is so.digits) in
    (one.0, (both (is_hex_digit b) (are_hex_digits behind) one.1).0)

pub read_more : (word items rest behind : List ℕ) (a b x y : ℕ) → rest ≡ a ∷ b ∷ behind → hex_digit x ≡ a → x < 16 → hex_digit y ≡ b → y < 16 → IsReadTo word items rest → IsReadTo word (items ++ (x * 16 + y) ∷ []) behind
read_more word items rest behind a b x y is high hs low ls so =
    let one = both (is_hex_digit a) (are_hex_digits (b ∷ behind)) (subst (λ w. are_hex_digits w ≡ true) is so.digits) in
    let two = both (is_hex_digit b) (are_hex_digits behind) one.1 in
    let size : length rest ≡ length behind + 2 = ap length is ∙ (let e : length (a ∷ b ∷ behind) ≡ length behind + 2 = omega arith in e) in
    let value : x * 16 + y ≡ hex_value a * 16 + hex_value b = ap (λ v. v * 16 + y) (digit_given x a hs high) ∙ ap (λ v. hex_value a * 16 + v) (digit_given y b ls low) in
    record {
      whole = append_assoc items ((x * 16 + y) ∷ []) (bytes_of behind) ∙ ap (λ v. items ++ v ∷ bytes_of behind) value ∙ ap (λ w. items ++ bytes_of w) (sym is) ∙ so.whole;
      digits = two.1;
      even = omega (arith, so.even, size);
    }

pub read_all : (word items rest : List ℕ) → length rest < 2 → IsReadTo word items rest → items ≡ bytes_of word
read_all word items [] short so = sym (append-nil items) ∙ so.whole
read_all word items (a ∷ []) short so = absurd (omega (arith, so.even))
read_all word items (a ∷ b ∷ rest) short so = absurd (omega (arith, short))
