-- Lists that change at one index, sums over them, and elements of lists.
use Rattle.std.proofs.Common.{◌≡◌, ◌≢◌, ◌⊎◌, refl, sym, ap, ◌∙◌, inl, inr, subst, ℕ, zero, suc, ◌+◌, ◌<◌, Bool, true, false, cond, List, [], ◌∷◌, ◌++◌, length, get_or, set, map, filter, sum_by, Some}
use Rattle.std.specs.Prelude.{slice_get}
use Rattle.std.proofs.lemmas.Option.{slice_get_within, get_or_from_slice_get}
use Rattle.std.proofs.lemmas.List.Sums.{sum_by-set}
use native.Mathlib.Omega.{arith}
use Rattle.b1_step.specs.Rights.{Has}
use Rattle.std.specs.List.{All}
use Rattle.std.proofs.lemmas.List.Elements.{All-nil, All-cons}

module _ {X : Type 0} where
  -- an update read at the same index, and at another one
  pub read_same : (xs : List X) (i : ℕ) (x y : X) → slice_get xs i ≡ Some x → slice_get (set xs i y) i ≡ Some y
  read_same [] i x y is = absurd (cc is)
  read_same (z ∷ xs) zero x y is = refl
  read_same (z ∷ xs) (suc i) x y is = read_same xs i x y is

  pub read_other : (xs : List X) (i j : ℕ) (y : X) → i ≢ j → slice_get (set xs i y) j ≡ slice_get xs j
  read_other [] i j y apart = refl
  read_other (z ∷ xs) zero zero y apart = absurd (apart refl)
  read_other (z ∷ xs) zero (suc j) y apart = refl
  read_other (z ∷ xs) (suc i) zero y apart = refl
  read_other (z ∷ xs) (suc i) (suc j) y apart = read_other xs i j y (λ e. apart (ap suc e))

  -- what stands at an index after an update: the new value, or what stood there
  pub set_cases : (xs : List X) (i j : ℕ) (y z : X) → slice_get (set xs i y) j ≡ Some z → ((j ≡ i) × (z ≡ y)) ⊎ ((j ≢ i) × (slice_get xs j ≡ Some z))
  set_cases [] i j y z is = absurd (cc is)
  set_cases (x ∷ xs) zero zero y z is = inl (refl, cc is)
  set_cases (x ∷ xs) zero (suc j) y z is = inr (λ e. absurd (omega (arith, e)), is)
  set_cases (x ∷ xs) (suc i) zero y z is = inr (λ e. absurd (omega (arith, e)), is)
  set_cases (x ∷ xs) (suc i) (suc j) y z is =
      elim (set_cases xs i j y z is) [
        | inl h ↦ inl (ap suc h.0, h.1)
        | inr h ↦ inr (λ e. h.0 (omega (arith, e)), h.1)
      ]

  -- a sum over a list with one element replaced
  pub sum_set : (f : X → ℕ) (xs : List X) (i : ℕ) (x y : X) → slice_get xs i ≡ Some x → sum_by f (set xs i y) + f x ≡ sum_by f xs + f y
  sum_set f xs i x y is = rw (get_or_from_slice_get xs i x x is) at (sum_by-set f xs i y x (slice_get_within xs i x is))

  -- an element by its index
  pub has_at : (xs : List X) (i : ℕ) (x : X) → slice_get xs i ≡ Some x → Has xs x
  has_at [] i x is = absurd (cc is)
  has_at (y ∷ xs) zero x is = inl (cc is)
  has_at (y ∷ xs) (suc i) x is = inr (has_at xs i x is)

  -- a filter keeps what passes, and nothing else
  pub has_filter : (test : X → Bool) (xs : List X) (x : X) → Has xs x → test x ≡ true → Has (filter test xs) x
  has_filter test [] x h passes = h
  has_filter test (y ∷ xs) x (inl e) passes = rw ((rw e at passes)) (inl e)
  has_filter test (y ∷ xs) x (inr h) passes = elim (test y) as (λ b. Has (cond b (y ∷ filter test xs) (filter test xs)) x) [ true ↦ inr (has_filter test xs x h passes) | false ↦ has_filter test xs x h passes ]

  pub filter_has : (test : X → Bool) (xs : List X) (x : X) → Has (filter test xs) x → Has xs x × (test x ≡ true)
  filter_has test [] x h = absurd h
  filter_has test (y ∷ xs) x h = at (filter_has test xs x) (test y) refl h
    where
      at : (Has (filter test xs) x → Has xs x × (test x ≡ true)) → (b : Bool) → test y ≡ b → Has (cond b (y ∷ filter test xs) (filter test xs)) x → Has (y ∷ xs) x × (test x ≡ true)
      at further true is (inl e) = (inl e, ap test e ∙ is)
      at further true is (inr k) = (inr (further k).0, (further k).1)
      at further false is k = (inr (further k).0, (further k).1)

  -- a map at one index that keeps what a view sees leaves the views
  pub map_set : {Y : Type 0} (view : X → Y) (xs : List X) (i : ℕ) (y d : X) → view y ≡ view (get_or xs i d) → map view (set xs i y) ≡ map view xs
  map_set view [] i y d same = refl
  map_set view (x ∷ xs) zero y d same = ap (λ v. v ∷ map view xs) same
  map_set view (x ∷ xs) (suc i) y d same = ap (λ vs. view x ∷ vs) (map_set view xs i y d same)

  -- an element of a mapped list comes from one of the list
  pub has_map : (f : X → X) (xs : List X) (y : X) → Has (map f xs) y → (x : X) × Has xs x × (y ≡ f x)
  has_map f [] y h = absurd h
  has_map f (x ∷ xs) y (inl same) = (x, inl refl, same)
  has_map f (x ∷ xs) y (inr further) = let found = has_map f xs y further in (found.0, inr found.1, found.2)

  -- an element of two lists
  pub has_append : (xs ys : List X) (x : X) → Has (xs ++ ys) x → Has xs x ⊎ Has ys x
  has_append [] ys x h = inr h
  has_append (y ∷ xs) ys x (inl same) = inl (inl same)
  has_append (y ∷ xs) ys x (inr h) = elim (has_append xs ys x h) [ inl left ↦ inl (inr left) | inr right ↦ inr right ]

  pub has_left : (xs ys : List X) (x : X) → Has xs x → Has (xs ++ ys) x
  has_left [] ys x h = absurd h
  has_left (y ∷ xs) ys x (inl same) = inl same
  has_left (y ∷ xs) ys x (inr h) = inr (has_left xs ys x h)

  pub has_right : (xs ys : List X) (x : X) → Has ys x → Has (xs ++ ys) x
  has_right [] ys x h = h
  has_right (y ∷ xs) ys x h = inr (has_right xs ys x h)

  -- what stands at an index is an element
  pub has_within : (xs : List X) (i : ℕ) (d : X) → i < length xs → Has xs (get_or xs i d)
  has_within [] i d less = absurd (omega (arith, less))
  has_within (x ∷ xs) zero d less = inl refl
  has_within (x ∷ xs) (suc i) d less = inr (has_within xs i d (omega (arith, less)))

  -- a fact of all elements
  pub has_all : (P : X → Type 0) (xs : List X) (x : X) → All P xs → Has xs x → P x
  has_all P [] x all there = absurd there
  has_all P (y ∷ ys) x all (inl same) = subst P (sym same) (all zero y (omega arith))
  has_all P (y ∷ ys) x all (inr there) = has_all P ys x (λ k d less. all (suc k) d (omega (arith, less))) there

  pub all_has : (P : X → Type 0) (xs : List X) → ((x : X) → Has xs x → P x) → All P xs
  all_has P [] holds = All-nil P
  all_has P (x ∷ xs) holds = All-cons P x xs (holds x (inl refl)) (all_has P xs (λ y h. holds y (inr h)))
