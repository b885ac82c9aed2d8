-- Lists: elements and tests of them, filters one after another, and an element put among others.
use Rattle.std.proofs.Common.{◌≡◌, refl, sym, ap, ◌∙◌, inl, inr, ℕ, zero, suc, ◌+◌, ◌<◌, ◌≤◌, Bool, true, not, ◌&&◌, List, [], ◌∷◌, ◌++◌, length, get_or, set, take, drop, map, filter, find, Some, None, arith, add-one}
use Rattle.std.specs.Prelude.{All, option_map, slice_get}
use Rattle.std.proofs.lemmas.Bool.{cases_Bool}
use Rattle.std.proofs.lemmas.List.Elements.{All-head, All-tail}
use Rattle.b1_step.specs.Rights.{Has}

pub suc_plus : (n : ℕ) → suc (n + 1) ≡ suc n + 1
suc_plus n = omega arith

module _ {X : Type 0} where
  -- what holds of every element holds of each
  pub has_all : (P : X → Type 0) (xs : List X) (x : X) → Has xs x → All P xs → P x
  has_all P [] x h all = absurd h
  has_all P (y ∷ xs) x (inl same) all = rw same (All-head P y xs all)
  has_all P (y ∷ xs) x (inr further) all = has_all P xs x further (All-tail P y xs all)

  pub filter_swap : (p q : X → Bool) (xs : List X) → filter p (filter q xs) ≡ filter q (filter p xs)
  filter_swap p q [] = refl
  filter_swap p q (x ∷ xs) =
      elim (cases_Bool (p x)) [
        | inl a ↦ elim (cases_Bool (q x)) [ inl b ↦ rw (b, a, b) (ap (λ ys. x ∷ ys) (filter_swap p q xs)) | inr b ↦ rw (b, a, b) (filter_swap p q xs) ]
        | inr a ↦ elim (cases_Bool (q x)) [ inl b ↦ rw (b, a) (filter_swap p q xs) | inr b ↦ rw (b, a) (filter_swap p q xs) ]
      ]

  -- two tests that agree
  pub filter_same : (p q : X → Bool) (xs : List X) → All (λ x. p x ≡ q x) xs → filter p xs ≡ filter q xs
  filter_same p q [] h = refl
  filter_same p q (x ∷ xs) h =
      rw (All-head (λ x. p x ≡ q x) x xs h, filter_same p q xs (All-tail (λ x. p x ≡ q x) x xs h)) refl

  -- what passes both tests
  pub find_filter : (t p s : X → Bool) → ((x : X) → s x ≡ (p x && t x)) → (xs : List X) → find t (filter p xs) ≡ find s xs
  find_filter t p s both [] = refl
  find_filter t p s both (x ∷ xs) =
      elim (cases_Bool (p x)) [
        | inl b ↦ elim (cases_Bool (t x)) [ inl a ↦ rw (both x, b, a) refl | inr a ↦ rw (both x, b, a) (find_filter t p s both xs) ]
        | inr b ↦ rw (both x, b) (find_filter t p s both xs)
      ]

  -- what is found is there and passes
  pub find_passes : (t : X → Bool) (xs : List X) (x : X) → find t xs ≡ Some x → Has xs x × (t x ≡ true)
  find_passes t [] x is = absurd (cc is)
  find_passes t (y ∷ xs) x is =
      elim (cases_Bool (t y)) [
        | inl a ↦ let same : y ≡ x = let e = rw a at is in cc e in (inl (sym same), ap t (sym same) ∙ a)
        | inr a ↦ let further = find_passes t xs x (rw a at is) in (inr further.0, further.1)
      ]

  -- where none is found none passes
  pub none_found : (t : X → Bool) (xs : List X) → find t xs ≡ None → filter (λ x. not (t x)) xs ≡ xs
  none_found t [] is = refl
  none_found t (x ∷ xs) is =
      elim (cases_Bool (t x)) [
        | inl a ↦ let e = rw a at is in absurd (cc e)
        | inr a ↦ rw a (ap (λ ys. x ∷ ys) (none_found t xs (rw a at is)))
      ]

  -- the first element
  pub first_there : (xs : List X) (x : X) → slice_get xs 0 ≡ Some x → Has xs x
  first_there [] x is = absurd (cc is)
  first_there (y ∷ xs) x is = inl (cc is)

  -- a filter keeps some
  pub length-filter-le : (p : X → Bool) (xs : List X) → length (filter p xs) ≤ length xs
  length-filter-le p [] = omega arith
  length-filter-le p (x ∷ xs) =
      let ih = length-filter-le p xs in
      elim (cases_Bool (p x)) [ inl a ↦ rw a (omega (arith, ih)) | inr a ↦ rw a (omega (arith, ih)) ]

  pub length-middle : (xs ys : List X) (y : X) → length (xs ++ y ∷ ys) ≡ length (xs ++ ys) + 1
  length-middle [] ys y = sym (add-one (length ys))
  length-middle (x ∷ xs) ys y = ap suc (length-middle xs ys y) ∙ suc_plus (length (xs ++ ys))

  -- the elements before a place are written
  pub set_front : (xs ys : List X) (i : ℕ) (d : X) → i < length xs → length ys ≡ length xs → set (take i xs ++ drop i ys) i (get_or xs i d) ≡ take (suc i) xs ++ drop (suc i) ys
  set_front [] ys i d within same = absurd (omega arith)
  set_front (x ∷ xs) [] i d within same = absurd (omega (arith, same))
  set_front (x ∷ xs) (y ∷ ys) zero d within same = refl
  set_front (x ∷ xs) (y ∷ ys) (suc i) d within same = ap (λ zs. x ∷ zs) (set_front xs ys i d (omega arith) (omega (arith, same)))

module _ {X Y : Type 0} (f : X → Y) where
  pub has_mapped : (xs : List X) (x : X) → Has xs x → Has (map f xs) (f x)
  has_mapped [] x h = h
  has_mapped (y ∷ xs) x (inl same) = inl (ap f same)
  has_mapped (y ∷ xs) x (inr further) = inr (has_mapped xs x further)

  pub find_mapped : (t : Y → Bool) (xs : List X) → find t (map f xs) ≡ option_map f (find (λ x. t (f x)) xs)
  find_mapped t [] = refl
  find_mapped t (x ∷ xs) = elim (cases_Bool (t (f x))) [ inl a ↦ rw a refl | inr a ↦ rw a (find_mapped t xs) ]
