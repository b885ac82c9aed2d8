-- Tests, places of lists, and wires that are the same.
use Rattle.std.proofs.Common.{◌≡◌, ◌⊎◌, refl, sym, ap, ◌∙◌, inl, inr, ℕ, zero, suc, ◌<◌, ◌==◌, Bool, true, false, cond, ◌&&◌, List, [], ◌∷◌, ◌++◌, filter, length, Some}
use Rattle.std.specs.Prelude.{slice_get}
use Rattle.std.specs.List.{list_any}
use Rattle.std.proofs.lemmas.Bool.{cases_eq, eq-eqb, ne_eqb, eqb-true, and_parts, or_cases, or_parts}
use Rattle.std.proofs.lemmas.Option.{same_Some}
use native.Mathlib.Omega.{arith}
use Rattle.b1_model.specs.declared.naming.Wire.{Wire}
use Rattle.b1_model.specs.Opening.{is_same}
use Rattle.b1_step.specs.Rights.{Has}

pub symmetric : (a b : ℕ) → (a == b) ≡ (b == a)
symmetric a b = elim (cases_eq a b) [ inl same ↦ eq-eqb a b same ∙ sym (eq-eqb b a (sym same)) | inr apart ↦ ne_eqb a b apart ∙ sym (ne_eqb b a (λ e. apart (sym e))) ]

pub turned : (a b c : Bool) → (a && (b && c)) ≡ (c && (a && b))
turned true true true = refl
turned true true false = refl
turned true false true = refl
turned true false false = refl
turned false b true = refl
turned false b false = refl

pub any_has : {X : Type 0} (test : X → Bool) (xs : List X) → list_any test xs ≡ true → (x : X) × Has xs x × (test x ≡ true)
any_has test [] is = absurd (cc is)
any_has test (x ∷ xs) is = elim (or_cases (test x) (list_any test xs) is) [ inl here ↦ (x, inl refl, here) | inr later ↦ let k = any_has test xs later in (k.0, inr k.1, k.2) ]

pub any_none : {X : Type 0} (test : X → Bool) (xs : List X) (x : X) → list_any test xs ≡ false → Has xs x → test x ≡ false
any_none test [] x is h = absurd h
any_none test (y ∷ xs) x is (inl same) = ap test same ∙ (or_parts (test y) (list_any test xs) is).0
any_none test (y ∷ xs) x is (inr h) = any_none test xs x (or_parts (test y) (list_any test xs) is).1 h

pub has_place : {X : Type 0} (xs : List X) (x : X) → Has xs x → (i : ℕ) × (slice_get xs i ≡ Some x)
has_place [] x h = absurd h
has_place (y ∷ xs) x (inl same) = (zero, ap Some (sym same))
has_place (y ∷ xs) x (inr h) = let k = has_place xs x h in (suc k.0, k.1)

pub filter_more : {X : Type 0} (test : X → Bool) (xs : List X) (y : X) → filter test (xs ++ y ∷ []) ≡ filter test xs ++ cond (test y) (y ∷ []) []
filter_more test [] y = refl
filter_more {X} test (x ∷ xs) y = at (test x) (filter_more test xs y)
  where
    at : (b : Bool) → filter test (xs ++ y ∷ []) ≡ filter test xs ++ cond (test y) (y ∷ []) [] → cond b (x ∷ filter test (xs ++ y ∷ [])) (filter test (xs ++ y ∷ [])) ≡ cond b (x ∷ filter test xs) (filter test xs) ++ cond (test y) (y ∷ []) []
    at true further = ap (λ l. x ∷ l) further
    at false further = further

-- what stands at a place of a longer list
pub more_at : {X : Type 0} (xs : List X) (y z : X) (i : ℕ) → slice_get (xs ++ y ∷ []) i ≡ Some z → (slice_get xs i ≡ Some z) ⊎ ((i ≡ length xs) × (z ≡ y))
more_at [] y z zero is = inr (refl, sym (same_Some y z is))
more_at [] y z (suc i) is = absurd (cc is)
more_at (x ∷ xs) y z zero is = inl is
more_at (x ∷ xs) y z (suc i) is = elim (more_at xs y z i is) [ inl old ↦ inl old | inr new ↦ inr (ap suc new.0, new.1) ]

-- a place within a list has something
pub within_at : {X : Type 0} (xs : List X) (i : ℕ) → i < length xs → (x : X) × (slice_get xs i ≡ Some x)
within_at [] i less = absurd (omega (arith, less))
within_at (x ∷ xs) zero less = (x, refl)
within_at (x ∷ xs) (suc i) less = within_at xs i (omega (arith, less))

-- two wires that are the same
pub same_wire : (a b : Wire) → is_same a b ≡ true → (a.from ≡ b.from) × (a.to ≡ b.to) × (a.number ≡ b.number)
same_wire a b is =
    let one = and_parts ((a.from == b.from) && (a.to == b.to)) (a.number == b.number) is in
    let two = and_parts (a.from == b.from) (a.to == b.to) one.0 in
    (eqb-true a.from b.from two.0, eqb-true a.to b.to two.1, eqb-true a.number b.number one.1)

pub is_same_wire : (a b : Wire) → a.from ≡ b.from → a.to ≡ b.to → a.number ≡ b.number → is_same a b ≡ true
is_same_wire a b from to number = rw (eq-eqb a.from b.from from, eq-eqb a.to b.to to, eq-eqb a.number b.number number) refl
