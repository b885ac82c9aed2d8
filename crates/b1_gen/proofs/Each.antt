-- What holds of each element of lists that are made one of another.
use Rattle.std.proofs.Common.{◌≡◌, ℕ, zero, suc, ◌+◌, ◌*◌, ◌≤◌, ◌<◌, Bool, true, false, cond, List, [], ◌∷◌, ◌++◌, map, length, refl, arith, length-append}
use Rattle.std.specs.List.{flat_map, range_with_len, filter, AllByRecursion}
use Rattle.b1_gen.specs.Generated.{below}

module _ {A : Type 0} (P : A → Type 0) where
  pub each-append : (xs ys : List A) → AllByRecursion P xs → AllByRecursion P ys → AllByRecursion P (xs ++ ys)
  each-append [] ys h k = k
  each-append (x ∷ xs) ys h k = (h.0, each-append xs ys h.1 k)

  pub each-map : {B : Type 0} (f : B → A) (xs : List B) → AllByRecursion (λ x. P (f x)) xs → AllByRecursion P (map f xs)
  each-map f [] h = tt
  each-map f (x ∷ xs) h = (h.0, each-map f xs h.1)

  pub each-flat_map : {B : Type 0} (f : B → List A) (xs : List B) → AllByRecursion (λ x. AllByRecursion P (f x)) xs → AllByRecursion P (flat_map f xs)
  each-flat_map f [] h = tt
  each-flat_map f (x ∷ xs) h = each-append (f x) (flat_map f xs) h.0 (each-flat_map f xs h.1)

  filter_by : (b : Bool) (x : A) (xs : List A) → (b ≡ true → P x) → AllByRecursion P xs → AllByRecursion P (cond b (x ∷ xs) xs)
  filter_by true x xs h k = (h refl, k)
  filter_by false x xs h k = k

  pub each-filter : (p : A → Bool) (xs : List A) → AllByRecursion (λ x. p x ≡ true → P x) xs → AllByRecursion P (filter p xs)
  each-filter p [] h = tt
  each-filter p (x ∷ xs) h = filter_by (p x) x (filter p xs) h.0 (each-filter p xs h.1)

pub each-range : (P : ℕ → Type 0) (a n : ℕ) → ((i : ℕ) → a ≤ i → i < a + n → P i) → AllByRecursion P (range_with_len a n)
each-range P a zero h = tt
each-range P a (suc n) h = (h a (omega arith) (omega arith), each-range P (a + 1) n (λ i low high. h i (omega arith) (omega arith)))

pub each-below : (P : ℕ → Type 0) (n : ℕ) → ((i : ℕ) → i < n → P i) → AllByRecursion P (below n)
each-below P n h = each-range P 0 n (λ i low high. h i (omega arith))

-- so many lists of at most so many elements each
pub flat_map-most : {A B : Type 0} (f : A → List B) (most : ℕ) (xs : List A) → AllByRecursion (λ x. length (f x) ≤ most) xs → length (flat_map f xs) ≤ length xs * most
flat_map-most f most [] h = omega arith
flat_map-most f most (x ∷ xs) h =
    let ih = flat_map-most f most xs h.1 in
    let here = h.0 in
    let e = length-append (f x) (flat_map f xs) in
    grind arith
