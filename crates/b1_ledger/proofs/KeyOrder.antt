-- The order of keys as facts on numbers.
use Rattle.std.specs.Prelude.{◌≡◌, refl, ℕ, ◌<◌, ◌⊎◌, Bool, true, false}
use Rattle.std.proofs.Common.{arith, inl, inr}
use Rattle.b1_model.specs.declared.naming.Key.{Key}
use Rattle.b1_model.specs.Ledger.{is_before, is_below}

abbrev pub Before : ℕ → ℕ → ℕ → ℕ → Type 0
Before s p t q = (s < t) ⊎ ((s ≡ t) × (p < q))

abbrev pub Below : Key → Key → Type 0
Below a b = (Before a.stamp a.origin b.stamp b.origin) ⊎ ((a.stamp ≡ b.stamp) × (a.origin ≡ b.origin) × (a.index < b.index))

pub before_is : (s p t q : ℕ) → is_before s p t q ≡ true → Before s p t q
before_is s p t q e = grind (arith, e)

pub is_of_before : (s p t q : ℕ) → Before s p t q → is_before s p t q ≡ true
is_of_before s p t q h = grind (arith, h)

pub below_is : (a b : Key) → is_below a b ≡ true → Below a b
below_is a b e = grind (arith, e)

pub is_of_below : (a b : Key) → Below a b → is_below a b ≡ true
is_of_below a b h = grind (arith, h)

pub not_of_below : (a b : Key) → (¬ Below a b) → is_below a b ≡ false
not_of_below a b h = elim (cases_true (is_below a b)) [ inl e ↦ absurd (h (below_is a b e)) | inr e ↦ e ]
  where
    cases_true : (x : Bool) → (x ≡ true) ⊎ (x ≡ false)
    cases_true true = inl refl
    cases_true false = inr refl

pub below_not : (a b : Key) → is_below a b ≡ false → Below a b → ⊥
below_not a b e h = cc (e, is_of_below a b h)

pub below-below : (a b c : Key) → is_below a b ≡ true → is_below b c ≡ true → is_below a c ≡ true
below-below a b c e f = let x : Below a b = below_is a b e in let y : Below b c = below_is b c f in is_of_below a c (through x y)
  where
    through : Below a b → Below b c → Below a c
    through x y = grind (arith, x, y)
