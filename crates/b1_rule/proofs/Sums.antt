-- Sums over lists that change at one place, and what stands in such lists.
use Rattle.std.proofs.Common.{◌≡◌, ℕ, zero, suc, ◌+◌, ◌<◌, ◌≤◌, ◌≢◌, ◌⊎◌, List, [], ◌∷◌, ◌++◌, map, length, set, take, drop, sym, refl, ap, inl, inr, ⊎_elim, arith, Some, slice_get}
use mathlib.Core.Option.{some, some-injective, some-ne-none}
use lib.ListN.{get_elem?}
use Rattle.b1_rule.specs.Rule.{total}

module _ {A : Type 0} where
  -- ---- what stands where

  pub at_set : (l : List A) (i j : ℕ) (a b : A) → get_elem? (set l i a) j ≡ some b → ((j ≡ i) × (a ≡ b)) ⊎ ((j ≢ i) × (get_elem? l j ≡ some b))
  at_set [] i j a b e = absurd (some-ne-none b (sym e))
  at_set (x ∷ xs) zero zero a b e = inl (refl, some-injective a b e)
  at_set (x ∷ xs) zero (suc j) a b e = inr ((λ h. omega arith), e)
  at_set (x ∷ xs) (suc i) zero a b e = inr ((λ h. omega arith), e)
  at_set (x ∷ xs) (suc i) (suc j) a b e = ⊎_elim (λ t. inl (ap suc t.0, t.1)) (λ t. let n = t.0 in inr ((λ h. n (omega arith)), t.1)) (at_set xs i j a b e)

  pub set_here : (l : List A) (i : ℕ) (a : A) → i < length l → get_elem? (set l i a) i ≡ some a
  set_here [] i a h = absurd (omega arith)
  set_here (x ∷ xs) zero a h = refl
  set_here (x ∷ xs) (suc i) a h = set_here xs i a (omega arith)

  pub set_else : (l : List A) (i j : ℕ) (a : A) → j ≢ i → get_elem? (set l i a) j ≡ get_elem? l j
  set_else [] i j a n = refl
  set_else (x ∷ xs) zero zero a n = absurd (n refl)
  set_else (x ∷ xs) zero (suc j) a n = refl
  set_else (x ∷ xs) (suc i) zero a n = refl
  set_else (x ∷ xs) (suc i) (suc j) a n = set_else xs i j a (λ e. n (ap suc e))

  pub at_snoc : (l : List A) (a b : A) (j : ℕ) → get_elem? (l ++ a ∷ []) j ≡ some b → (get_elem? l j ≡ some b) ⊎ (a ≡ b)
  at_snoc [] a b zero e = inr (some-injective a b e)
  at_snoc [] a b (suc j) e = absurd (some-ne-none b (sym e))
  at_snoc (x ∷ xs) a b zero e = inl e
  at_snoc (x ∷ xs) a b (suc j) e = at_snoc xs a b j e

  pub at_home : (l : List A) (i : ℕ) (a : A) → slice_get l i ≡ Some a → get_elem? (map some l) i ≡ some (some a)
  at_home [] i a is = absurd (cc is)
  at_home (x ∷ xs) zero a is = let same : x ≡ a = cc is in ap (λ y. some (some y)) same
  at_home (x ∷ xs) (suc i) a is = at_home xs i a is

  pub there : (l : List A) (i : ℕ) → i < length l → (a : A) × (slice_get l i ≡ Some a)
  there [] i h = absurd (omega arith)
  there (x ∷ xs) zero h = (x, refl)
  there (x ∷ xs) (suc i) h = there xs i (omega arith)

  pub only_one : (a b : A) (i : ℕ) → slice_get (a ∷ []) i ≡ Some b → a ≡ b
  only_one a b zero is = cc is
  only_one a b (suc i) is = absurd (cc is)

  pub past_first : (l : List A) (i : ℕ) (a : A) → slice_get (drop 1 l) i ≡ Some a → slice_get l (suc i) ≡ Some a
  past_first [] i a is = absurd (cc is)
  past_first (x ∷ xs) i a is = is

  pub up_to_first : (l : List A) (i : ℕ) (a : A) → slice_get (take 1 l) i ≡ Some a → slice_get l i ≡ Some a
  up_to_first [] i a is = absurd (cc is)
  up_to_first (x ∷ xs) zero a is = is
  up_to_first (x ∷ xs) (suc i) a is = absurd (cc is)

  pub in_either : (l m : List A) (i : ℕ) (a : A) → slice_get (l ++ m) i ≡ Some a → ((j : ℕ) × (slice_get l j ≡ Some a)) ⊎ ((j : ℕ) × (slice_get m j ≡ Some a))
  in_either [] m i a is = inr (i, is)
  in_either (x ∷ xs) m zero a is = inl (0, is)
  in_either (x ∷ xs) m (suc i) a is = elim (in_either xs m i a is) [ inl k ↦ inl (suc k.0, k.1) | inr k ↦ inr k ]

  -- ---- sums

  module _ (g : A → ℕ) where
    pub total-append : (l m : List A) → total g (l ++ m) ≡ total g l + total g m
    total-append [] m = omega arith
    total-append (x ∷ xs) m = omega (arith, total-append xs m)

    pub total-cut : (l : List A) → total g (take 1 l) + total g (drop 1 l) ≡ total g l
    total-cut [] = refl
    total-cut (x ∷ xs) = omega arith

    pub total-set : (l : List A) (j : ℕ) (v w : A) → get_elem? l j ≡ some v → total g (set l j w) + g v ≡ total g l + g w
    total-set [] j v w e = absurd (some-ne-none v (sym e))
    total-set (x ∷ xs) zero v w e = omega (arith, ap g (some-injective x v e))
    total-set (x ∷ xs) (suc j) v w e = omega (arith, total-set xs j v w e)

    pub term_le : (l : List A) (j : ℕ) (v : A) → get_elem? l j ≡ some v → g v ≤ total g l
    term_le [] j v e = absurd (some-ne-none v (sym e))
    term_le (x ∷ xs) zero v e = omega (arith, ap g (some-injective x v e))
    term_le (x ∷ xs) (suc j) v e = omega (arith, term_le xs j v e)

    pub terms_le : (l : List A) (j k : ℕ) (v u : A) → k ≢ j → get_elem? l j ≡ some v → get_elem? l k ≡ some u → g v + g u ≤ total g l
    terms_le [] j k v u n e d = absurd (some-ne-none v (sym e))
    terms_le (x ∷ xs) zero zero v u n e d = absurd (n refl)
    terms_le (x ∷ xs) zero (suc k) v u n e d = omega (arith, ap g (some-injective x v e), term_le xs k u d)
    terms_le (x ∷ xs) (suc j) zero v u n e d = omega (arith, ap g (some-injective x u d), term_le xs j v e)
    terms_le (x ∷ xs) (suc j) (suc k) v u n e d = omega (arith, terms_le xs j k v u (λ h. n (ap suc h)) e d)

    pub part_le : (l : List A) (j : ℕ) (v : A) → slice_get l j ≡ Some v → g v ≤ total g l
    part_le [] j v e = absurd (cc e)
    part_le (x ∷ xs) zero v e = let same : x ≡ v = cc e in omega (arith, ap g same)
    part_le (x ∷ xs) (suc j) v e = omega (arith, part_le xs j v e)
