-- Which bytes stand in the words of each kind.
use Rattle.std.proofs.Common.{◌≡◌, ◌≢◌, arith, ℕ, ◌-◌, ◌/◌, ◌%◌, ◌^◌, ◌<◌, ◌≤◌, ◌⊎◌, inl, inr, List, [], ◌∷◌, ◌++◌, sym, subst, ◌∙◌}
use Rattle.std.specs.Prelude.{codes, decimal}
use Rattle.std.specs.Int.{IsInRange}
use Rattle.std.specs.List.{AllByRecursion}
use Rattle.std.proofs.lemmas.Bool.{cases_eq}
use Rattle.b1_text_words.specs.declared.items.Form.TheVariants.{Script, Report}
use Rattle.b1_text_words.specs.declared.items.Item.{Item}
use Rattle.b1_text_words.specs.declared.items.Item.TheVariants.{UpTo, Among, Known, Handle, Offset}
use Rattle.b1_text_words.specs.Items.{item_text, IsItem, IsBounded}
use Rattle.b1_text_words.specs.Numbers.{or_invalid, reference_or, slot_text, slice_text}
use Rattle.b1_text_words.specs.Words.{IsFree}
use Rattle.b1_text_words.proofs.References.{decimal_bytes, free_from, odd_or_even, text_odd, text_even}
use Rattle.b1_text_words.proofs.Invalids.{not_invalid}
use Rattle.b1_text_words.proofs.Slots.{slot_shape}

-- every byte of two parts

pub all_append : (P : ℕ → Type 0) (a b : List ℕ) → AllByRecursion P a → AllByRecursion P b → AllByRecursion P (a ++ b)
all_append P [] b p q = q
all_append P (c ∷ a) b p q = (p.0, all_append P a b p.1 q)

pub all_like : (P Q : ℕ → Type 0) (a : List ℕ) → ((b : ℕ) → P b → Q b) → AllByRecursion P a → AllByRecursion Q a
all_like P Q [] to p = tt
all_like P Q (c ∷ a) to p = (to c p.0, all_like P Q a to p.1)

-- a byte of a number, of a reference, or of a word
abbrev pub IsPlain : ℕ → Type 0
IsPlain b = (46 ≤ b) × (b ≢ 58)

pub plain_decimal : (n : ℕ) → n < 2 ^ 64 → AllByRecursion IsPlain (decimal n)
plain_decimal n small = all_like (IsInRange 48 57) IsPlain (decimal n) (λ b range. (omega (arith, range), λ e. omega (arith, range, e))) (decimal_bytes n small)

plain_slot : (n : ℕ) → n < 2 ^ 64 → AllByRecursion IsPlain (slot_text n)
plain_slot n small = subst (AllByRecursion IsPlain) (sym (slot_shape n))
    (all_append IsPlain (decimal (n / 128)) (46 ∷ decimal (n / 2 % 64)) (plain_decimal (n / 128) (omega (arith, small))) ((omega arith, λ e. omega (arith, e)), plain_decimal (n / 2 % 64) (omega arith)))

plain_reference : (text : ℕ → List ℕ) → ((n : ℕ) → n < 2 ^ 64 → AllByRecursion IsPlain (text n)) → (n : ℕ) → n < 2 ^ 64 → AllByRecursion IsPlain (reference_or text n)
plain_reference text plain n small = elim (odd_or_even n) [
  | inl odd ↦ subst (AllByRecursion IsPlain) (sym (text_odd text n odd)) ((omega arith, λ e. omega (arith, e)), plain n small)
  | inr even ↦ subst (AllByRecursion IsPlain) (sym (text_even text n even)) (plain_decimal n small)
]

letter : (b : ℕ) → 97 ≤ b → IsPlain b
letter b h = (omega (arith, h), λ e. omega (arith, h, e))

plain_invalid : AllByRecursion IsPlain (codes "invalid")
plain_invalid = (letter 105 (omega arith), (letter 110 (omega arith), (letter 118 (omega arith), (letter 97 (omega arith), (letter 108 (omega arith), (letter 105 (omega arith), (letter 100 (omega arith), tt)))))))

plain_known : (text : ℕ → List ℕ) → ((n : ℕ) → n < 2 ^ 64 → AllByRecursion IsPlain (text n)) → (n : ℕ) → n < 2 ^ 64 → AllByRecursion IsPlain (or_invalid text n)
plain_known text plain n small = elim (cases_eq n (2 ^ 64 - 1)) [
  | inl e ↦ subst (λ m. AllByRecursion IsPlain (or_invalid text m)) (sym e) plain_invalid
  | inr other ↦ subst (AllByRecursion IsPlain) (sym (not_invalid text n other)) (plain n small)
]

plain_slice : (n : ℕ) → n < 2 ^ 64 → AllByRecursion IsPlain (slice_text n)
plain_slice n small = plain_decimal (n / 2) (omega (arith, small))

pub plain_item : (item : Item) → IsBounded item → (n : ℕ) → IsItem item n → AllByRecursion IsPlain (item_text item n)
plain_item (UpTo most) bound n is = plain_decimal n (omega (arith, bound, is))
plain_item (Among numbers) bound n is = plain_decimal n (omega (arith, is.most, numbers.fits))
plain_item Known bound n is = plain_known decimal plain_decimal n is
plain_item (Handle Script) bound n is = plain_reference slot_text plain_slot n is
plain_item (Handle Report) bound n is = plain_known (reference_or slot_text) (plain_reference slot_text plain_slot) n is
plain_item (Offset Script) bound n is = plain_reference slice_text plain_slice n is
plain_item (Offset Report) bound n is = plain_known (reference_or slice_text) (plain_reference slice_text plain_slice) n is

pub free_item : (item : Item) → IsBounded item → (s : ℕ) → (s < 46) ⊎ (s ≡ 58) → (n : ℕ) → IsItem item n → IsFree s (item_text item n)
free_item item bound s out n is = free_from IsPlain s (item_text item n) apart (plain_item item bound n is) where
  apart : (b : ℕ) → IsPlain b → b ≢ s
  apart b plain e = elim out [ inl low ↦ omega (arith, low, plain.0, e) | inr colon ↦ plain.1 (e ∙ colon) ]

pub no_dash : (item : Item) → IsBounded item → (n : ℕ) → IsItem item n → item_text item n ≢ codes "-"
no_dash item bound n is e = let h = (subst (AllByRecursion IsPlain) e (plain_item item bound n is)).0.0 in omega (arith, h)
