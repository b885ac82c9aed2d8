-- Sums of lists, element by element, within 64 bits.
use Rattle.std.proofs.Common.{◌≡◌, ℕ, ◌+◌, ◌≤◌, ◌<◌, ◌^◌, List, length, take, get_or, Some, None, sym, ap, ◌∙◌, subst, inl, inr, if◌then◌else◌}
use Rattle.std.specs.List.{sum_by}
use Rattle.std.proofs.lemmas.Bool.{lt-ltb, le-ltb, cases_lt}
use Rattle.std.proofs.lemmas.List.Sums.{sum_by_more, sum_by_more_le}
use Rattle.b1_gen.specs.Counted.{within}

pub within-small : (n : ℕ) → n < 2 ^ 64 → within n ≡ Some n
within-small n small = ap (λ b. if b then Some n else None) (lt-ltb n (2 ^ 64) small)

pub within-large : (n : ℕ) → 2 ^ 64 ≤ n → within n ≡ None
within-large n large = ap (λ b. if b then Some n else None) (le-ltb n (2 ^ 64) large)

pub within-none : (n : ℕ) → within n ≡ None → 2 ^ 64 ≤ n
within-none n e = elim (cases_lt n (2 ^ 64)) [
  | inl small ↦ let w = within-small n small in absurd (let k : Some n ≡ None = sym w ∙ e in cc)
  | inr large ↦ large
]

pub within-some : (n m : ℕ) → within n ≡ Some m → (m ≡ n) × (n < 2 ^ 64)
within-some n m e = elim (cases_lt n (2 ^ 64)) [
  | inl small ↦ let w = within-small n small in (let k : Some n ≡ Some m = sym w ∙ e in cc, small)
  | inr large ↦ let w = within-large n large in absurd (let k : None ≡ Some m = sym w ∙ e in cc)
]

module _ {X : Type 0} (f : X → ℕ) (xs : List X) (i : ℕ) (x : X) (below : i < length xs) (is : x ≡ get_or xs i x) where
  -- the sum with one element more, and the sum of all
  pub sum-more : sum_by f (take (i + 1) xs) ≡ sum_by f (take i xs) + f x
  sum-more = sum_by_more f xs i x below ∙ ap (λ y. sum_by f (take i xs) + f y) (sym is)

  pub sum-most : sum_by f (take i xs) + f x ≤ sum_by f xs
  sum-most = subst (λ y. sum_by f (take i xs) + f y ≤ sum_by f xs) (sym is) (sum_by_more_le f xs i x below)
