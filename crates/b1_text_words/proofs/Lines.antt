-- Lines of words of kinds.
use Rattle.std.proofs.Common.{◌≡◌, ◌≢◌, arith, ℕ, suc, ◌+◌, ◌-◌, ◌/◌, ◌%◌, ◌<◌, ◌≤◌, Bool, true, false, not, ◌&&◌, eqb, inl, inr, List, [], ◌∷◌, ◌++◌, length, refl, sym, ap, subst, ◌∙◌, append_assoc, get_or, drop, drop-cons, length-drop}
use Rattle.std.specs.Prelude.{codes, decimal}
use Rattle.std.specs.List.{AllByRecursion, flat_map, list_all}
use Rattle.std.proofs.lemmas.Bool.{cases_eq, cases_lt}
use Rattle.std.proofs.lemmas.Bool.Decides.{nat_tests}
use Rattle.b1_text_words.specs.declared.items.Item.{Item}
use Rattle.b1_text_words.specs.declared.items.Item.TheVariants.{UpTo, Among, Known, Handle, Offset}
use Rattle.std.proofs.Math.Nat.{zero-mod}
use Rattle.b1_text_words.specs.declared.kinds.Kind.{Kind}
use Rattle.b1_text_words.specs.declared.kinds.Kind.TheVariants as kinds
use Rattle.b1_text_words.specs.Items.{item_text, IsItem, IsBounded}
use Rattle.b1_text_words.specs.Lines.{IsWord, IsLine, IsBoundedKind, is_separator, is_free_of, are_free_of}
use Rattle.b1_text_words.specs.Numbers.{list_text, hex_text, hex_pair, hex_digit}
use Rattle.b1_text_words.specs.Words.{Spells, Begins, IsFree}
use Rattle.b1_text_words.proofs.Alphabets.{IsPlain, plain_item, all_append, all_like}
use Rattle.b1_text_words.proofs.Languages.{joined_words, joined_none, first_begins, begins_first, not_free}
use Rattle.b1_text_words.proofs.References.{free_from}

-- the bytes of words

-- a byte of a word that varies
abbrev pub IsLettered : ℕ → Type 0
IsLettered b = (44 ≤ b) × (b ≢ 58)

from_plain : (word : List ℕ) → AllByRecursion IsPlain word → AllByRecursion IsLettered word
from_plain word all = all_like IsPlain IsLettered word (λ b plain. (omega (arith, plain.0), plain.1)) all

pub lettered_list : (item : Item) → IsBounded item → (values : List ℕ) → AllByRecursion (IsItem item) values → AllByRecursion IsLettered (list_text (item_text item) values)
lettered_list item bound [] all = ((omega arith, λ e. omega (arith, e)), tt)
lettered_list item bound (x ∷ xs) all = all_append IsLettered (item_text item x) (flat_map (λ y. codes "," ++ item_text item y) xs) (from_plain (item_text item x) (plain_item item bound x all.0)) (others xs all.1) where
  others : (ys : List ℕ) → AllByRecursion (IsItem item) ys → AllByRecursion IsLettered (flat_map (λ y. codes "," ++ item_text item y) ys)
  others [] all = tt
  others (y ∷ ys) all = ((omega arith, λ e. omega (arith, e)), all_append IsLettered (item_text item y) (flat_map (λ z. codes "," ++ item_text item z) ys) (from_plain (item_text item y) (plain_item item bound y all.0)) (others ys all.1))

lettered_digit : (n : ℕ) → n < 16 → IsLettered (hex_digit n)
lettered_digit n small = elim (cases_lt n 10) [
  | inl below ↦ (let is : hex_digit n ≡ 48 + n = grind (arith, nat_tests) in (omega (arith, is), λ e. omega (arith, is, e, below)))
  | inr above ↦ (let is : hex_digit n ≡ 97 + (n - 10) = grind (arith, nat_tests) in (omega (arith, is), λ e. omega (arith, is, e)))
]

lettered_pairs : (bytes : List ℕ) → AllByRecursion (λ b. b < 256) bytes → AllByRecursion IsLettered (flat_map hex_pair bytes)
lettered_pairs [] all = tt
lettered_pairs (b ∷ bytes) all = (lettered_digit (b / 16) (omega (arith, all.0)), (lettered_digit (b % 16) (omega arith), lettered_pairs bytes all.1))

lettered_hex : (bytes : List ℕ) → AllByRecursion (λ b. b < 256) bytes → AllByRecursion IsLettered (hex_text bytes)
lettered_hex [] all = ((omega arith, λ e. omega (arith, e)), tt)
lettered_hex (b ∷ bytes) all = lettered_pairs (b ∷ bytes) all

pub free_lettered : (s : ℕ) (word : List ℕ) → is_separator s ≡ true → AllByRecursion IsLettered word → IsFree s word
free_lettered s word out all = free_from IsLettered s word apart all where
  apart : (b : ℕ) → IsLettered b → b ≢ s
  apart b lettered e = grind (arith, nat_tests)

free_fixed : (s : ℕ) (word : List ℕ) → list_all (λ b. not (eqb b s)) word ≡ true → IsFree s word
free_fixed s [] all = tt
free_fixed s (c ∷ word) all = elim (cases_eq c s) [
  | inl e ↦ absurd (let is : eqb c s ≡ true = grind (arith, nat_tests) in let bad : (not (eqb c s) && list_all (λ b. not (eqb b s)) word) ≡ false = rw is refl in cc)
  | inr other ↦ (other, free_fixed s word (let is : eqb c s ≡ false = grind (arith, nat_tests) in let rest : (not (eqb c s) && list_all (λ b. not (eqb b s)) word) ≡ list_all (λ b. not (eqb b s)) word = rw is refl in sym rest ∙ all))
]

pub free_kind : (s : ℕ) (kind : Kind) → IsBoundedKind kind → is_free_of s kind ≡ true → (word : List ℕ) → IsWord kind word → IsFree s word
free_kind s (kinds.Fixed text) bound free word is = free_fixed s word (subst (λ w. list_all (λ b. not (eqb b s)) w ≡ true) (sym is) free)
free_kind s (kinds.One item) bound free word is = free_lettered s word free (subst (AllByRecursion IsLettered) (sym is.same) (from_plain (item_text item is.value) (plain_item item bound is.value is.is_of)))
free_kind s (kinds.Several item most) bound free word is = free_lettered s word free (subst (AllByRecursion IsLettered) (sym is.same) (lettered_list item bound is.value is.is_of.items))
free_kind s (kinds.Bytes most) bound free word is = free_lettered s word free (subst (AllByRecursion IsLettered) (sym is.same) (lettered_hex is.value is.is_of.items))

-- each kind has a word

some_item : (item : Item) → Begins (Spells (item_text item) (IsItem item)) []
some_item (UpTo most) = record { rest = decimal 0; whole = record { value = 0; is_of = omega arith; same = refl } }
some_item (Among numbers) = record { rest = decimal numbers.least; whole = record { value = numbers.least; is_of = record { least = omega arith; most = numbers.some; step = ap (λ n. n % numbers.step) (let none : numbers.least - numbers.least ≡ 0 = omega arith in none) ∙ zero-mod numbers.step }; same = refl } }
some_item Known = record { rest = item_text Known 0; whole = record { value = 0; is_of = omega arith; same = refl } }
some_item (Handle form) = record { rest = item_text (Handle form) 0; whole = record { value = 0; is_of = omega arith; same = refl } }
some_item (Offset form) = record { rest = item_text (Offset form) 0; whole = record { value = 0; is_of = omega arith; same = refl } }

pub some_word : (kind : Kind) → Begins (IsWord kind) []
some_word (kinds.Fixed text) = record { rest = text.now; whole = refl }
some_word (kinds.One item) = some_item item
some_word (kinds.Several item most) = record { rest = codes "-"; whole = record { value = []; is_of = record { items = tt; few = omega arith }; same = refl } }
some_word (kinds.Bytes most) = record { rest = codes "-"; whole = record { value = []; is_of = record { items = tt; few = omega arith }; same = refl } }

pub some_line : (s : ℕ) (kind : Kind) (kinds : List Kind) → Begins (IsLine s (kind ∷ kinds)) []
some_line s kind [] = some_word kind
some_line s kind (next ∷ kinds) = first_begins s (IsWord kind) (IsLine s (next ∷ kinds)) [] (some_word kind) (some_line s next kinds)

-- a line with a separator, and one without

module _ (s : ℕ) (kind : Kind) (free : (x : List ℕ) → IsWord kind x → IsFree s x) where
  pub line_more : (kinds : List Kind) (line word rest : List ℕ) → line ≡ word ++ s ∷ rest → IsWord kind word → IsLine s kinds rest → IsLine s (kind ∷ kinds) line
  line_more [] line word rest cut first others = absurd others
  line_more (next ∷ kinds) line word rest cut first others = record { first = word; rest = rest; is_first = first; is_rest = others; whole = cut }

  pub more_line : (kinds : List Kind) (line word rest : List ℕ) → line ≡ word ++ s ∷ rest → IsFree s word → IsLine s (kind ∷ kinds) line → IsWord kind word × IsLine s kinds rest
  more_line [] line word rest cut plain is = absurd (not_free s word rest (subst (IsFree s) cut (free line is)))
  more_line (next ∷ kinds) line word rest cut plain is = joined_words s (IsWord kind) (IsLine s (next ∷ kinds)) free word rest plain (subst (IsLine s (kind ∷ next ∷ kinds)) cut is)

  pub last_line : (kinds : List Kind) (line : List ℕ) → IsFree s line → IsLine s (kind ∷ kinds) line → (kinds ≡ []) × IsWord kind line
  last_line [] line plain is = (refl, is)
  last_line (next ∷ kinds) line plain is = absurd (joined_none s (IsWord kind) (IsLine s (next ∷ kinds)) line plain is)

  pub begins_more : (kinds : List Kind) (line word rest : List ℕ) → line ≡ word ++ s ∷ rest → IsWord kind word → Begins (IsLine s kinds) rest → Begins (IsLine s (kind ∷ kinds)) line
  begins_more kinds line word rest cut first b = record { rest = b.rest; whole = line_more kinds (line ++ b.rest) word (rest ++ b.rest) (ap (λ w. w ++ b.rest) cut ∙ append_assoc word (s ∷ rest) b.rest) first b.whole }

  pub more_begins : (kinds : List Kind) (line word rest : List ℕ) → line ≡ word ++ s ∷ rest → IsFree s word → Begins (IsLine s (kind ∷ kinds)) line → IsWord kind word × Begins (IsLine s kinds) rest
  more_begins kinds line word rest cut plain b =
      let h = more_line kinds (line ++ b.rest) word (rest ++ b.rest) (ap (λ w. w ++ b.rest) cut ∙ append_assoc word (s ∷ rest) b.rest) plain b.whole in
      (h.0, record { rest = b.rest; whole = h.1 })

  pub begins_last : (kinds : List Kind) (line : List ℕ) → Begins (IsWord kind) line → Begins (IsLine s (kind ∷ kinds)) line
  begins_last [] line b = b
  begins_last (next ∷ kinds) line b = first_begins s (IsWord kind) (IsLine s (next ∷ kinds)) line b (some_line s next kinds)

  pub last_begins : (kinds : List Kind) (line : List ℕ) → IsFree s line → Begins (IsLine s (kind ∷ kinds)) line → Begins (IsWord kind) line
  last_begins [] line plain b = b
  last_begins (next ∷ kinds) line plain b = begins_first s (IsWord kind) (IsLine s (next ∷ kinds)) free line plain b

pub no_line : (s : ℕ) (line : List ℕ) → Begins (IsLine s []) line → ⊥
no_line s line b = b.whole

-- the kinds that are left
pub free_parts : (s : ℕ) (left : List Kind) (kind : Kind) (behind : List Kind) → left ≡ kind ∷ behind → are_free_of s left ≡ true → (is_free_of s kind ≡ true) × (are_free_of s behind ≡ true)
free_parts s left kind behind is free = split (is_free_of s kind) (are_free_of s behind) (subst (λ l. are_free_of s l ≡ true) is free) where
  split : (a b : Bool) → (a && b) ≡ true → (a ≡ true) × (b ≡ true)
  split true b h = (refl, h)
  split false b h = absurd (cc)

pub left_at : (kinds : List Kind) (i : ℕ) (kind : Kind) → i < length kinds → kind ≡ get_or kinds i kind → drop i kinds ≡ kind ∷ drop (i + 1) kinds
left_at kinds i kind within at = let next : suc i ≡ i + 1 = omega arith in drop-cons kinds i kind within ∙ ap (λ n. get_or kinds i kind ∷ drop n kinds) next ∙ ap (λ k. k ∷ drop (i + 1) kinds) (sym at)

-- the kind at a place, and the ones behind it
module _ (s : ℕ) (kinds : List Kind) (i : ℕ) (kind : Kind) (within : i < length kinds) (at : kind ≡ get_or kinds i kind) (bound : IsBoundedKind kind) (free : are_free_of s (drop i kinds) ≡ true) where
  parts : (is_free_of s kind ≡ true) × (are_free_of s (drop (i + 1) kinds) ≡ true)
  parts = free_parts s (drop i kinds) kind (drop (i + 1) kinds) (left_at kinds i kind within at) free

  free_word : (x : List ℕ) → IsWord kind x → IsFree s x
  free_word = free_kind s kind bound parts.0

  pub others_free : are_free_of s (drop (i + 1) kinds) ≡ true
  others_free = parts.1

  pub step_begins : (line word others : List ℕ) → line ≡ word ++ s ∷ others → IsFree s word → Begins (IsLine s (drop i kinds)) line → IsWord kind word × Begins (IsLine s (drop (i + 1) kinds)) others
  step_begins line word others cut plain b = more_begins s kind free_word (drop (i + 1) kinds) line word others cut plain (subst (λ l. Begins (IsLine s l) line) (left_at kinds i kind within at) b)

  pub begins_step : (line word others : List ℕ) → line ≡ word ++ s ∷ others → IsWord kind word → Begins (IsLine s (drop (i + 1) kinds)) others → Begins (IsLine s (drop i kinds)) line
  begins_step line word others cut first b = subst (λ l. Begins (IsLine s l) line) (sym (left_at kinds i kind within at)) (begins_more s kind free_word (drop (i + 1) kinds) line word others cut first b)

  pub end_begins : (line : List ℕ) → IsFree s line → Begins (IsLine s (drop i kinds)) line → Begins (IsWord kind) line
  end_begins line plain b = last_begins s kind free_word (drop (i + 1) kinds) line plain (subst (λ l. Begins (IsLine s l) line) (left_at kinds i kind within at) b)

  pub begins_end : (line : List ℕ) → Begins (IsWord kind) line → Begins (IsLine s (drop i kinds)) line
  begins_end line b = subst (λ l. Begins (IsLine s l) line) (sym (left_at kinds i kind within at)) (begins_last s kind free_word (drop (i + 1) kinds) line b)

  pub step_fits : (line word others : List ℕ) → line ≡ word ++ s ∷ others → IsFree s word → IsLine s (drop i kinds) line → IsWord kind word × IsLine s (drop (i + 1) kinds) others
  step_fits line word others cut plain is = more_line s kind free_word (drop (i + 1) kinds) line word others cut plain (subst (λ l. IsLine s l line) (left_at kinds i kind within at) is)

  pub fits_step : (line word others : List ℕ) → line ≡ word ++ s ∷ others → IsWord kind word → IsLine s (drop (i + 1) kinds) others → IsLine s (drop i kinds) line
  fits_step line word others cut first is = subst (λ l. IsLine s l line) (sym (left_at kinds i kind within at)) (line_more s kind free_word (drop (i + 1) kinds) line word others cut first is)

  pub end_fits : (line : List ℕ) → IsFree s line → IsLine s (drop i kinds) line → (i + 1 ≡ length kinds) × IsWord kind line
  end_fits line plain is =
      let h = last_line s kind free_word (drop (i + 1) kinds) line plain (subst (λ l. IsLine s l line) (left_at kinds i kind within at) is) in
      let size : length (drop (i + 1) kinds) ≡ length kinds - (i + 1) = length-drop (i + 1) kinds in
      let none : length (drop (i + 1) kinds) ≡ 0 = ap length h.0 in
      (omega (arith, size, none, within), h.1)

  pub fits_end : (line : List ℕ) → i + 1 ≡ length kinds → IsWord kind line → IsLine s (drop i kinds) line
  fits_end line last is =
      let size : length (drop (i + 1) kinds) ≡ length kinds - (i + 1) = length-drop (i + 1) kinds in
      subst (λ l. IsLine s l line) (sym (left_at kinds i kind within at)) (only (drop (i + 1) kinds) (omega (arith, size, last))) where
        only : (others : List Kind) → length others ≡ 0 → IsLine s (kind ∷ others) line
        only [] none = is
        only (k ∷ others) none = absurd (omega (arith, none))
