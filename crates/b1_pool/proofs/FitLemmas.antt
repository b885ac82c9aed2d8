use Rattle.std.proofs.Common.{◌≡◌, ℕ, ◌+◌, ◌<◌, ◌≤◌, ◌==◌, nat_lt, Bool, true, false, ◌&&◌, ◌||◌, max, List, [], ◌∷◌, ◌++◌, Option, Some, None, length, drop, get_or, refl, sym, ap, ◌∙◌, arith, inl, inr, ◌⊎◌}
use Rattle.std.specs.Prelude.{is_some, filter}
use Rattle.std.specs.List.{AllByRecursion as ByRecursion}
use Rattle.std.proofs.lemmas.Bool.{cases_Bool, cond_both, false≢true}
use Rattle.std.proofs.lemmas.Bool.Decides.{nat_tests}
use Rattle.std.proofs.lemmas.List.{at_drop_more}
use Rattle.b1_pool.specs.declared.slices.Slice.{Slice}
use Rattle.b1_pool.specs.Slices.{is_free, is_fit, has_fit, is_before, lesser, lesser_of, least_fit, largest_free, IsNotAfter}
use Rattle.b1_pool.specs.Places.{so_far, least_of}

-- by length and then by offset, over numbers
abbrev pub before : ℕ → ℕ → ℕ → ℕ → Bool
before l o m p = nat_lt l m || ((l == m) && nat_lt o p)

pub before-true : (l o m p : ℕ) → before l o m p ≡ true → (l < m) ⊎ ((l ≡ m) × (o < p))
before-true l o m p h = grind (arith, nat_tests)

pub before-false : (l o m p : ℕ) → before l o m p ≡ false → (m < l) ⊎ ((m ≡ l) × (p ≤ o))
before-false l o m p h = grind (arith, nat_tests)

pub true-before : (l o m p : ℕ) → (l < m) ⊎ ((l ≡ m) × (o < p)) → before l o m p ≡ true
true-before l o m p h = grind (arith, nat_tests)

pub false-before : (l o m p : ℕ) → (m < l) ⊎ ((m ≡ l) × (p ≤ o)) → before l o m p ≡ false
false-before l o m p h = grind (arith, nat_tests)

pub before_trans : (a b c d e f : ℕ) → before a b c d ≡ true → before c d e f ≡ true → before a b e f ≡ true
before_trans a b c d e f g h = true-before a b e f (grind (arith, before-true a b c d g, before-true c d e f h))

pub not_before_trans : (a b c d e f : ℕ) → before a b c d ≡ false → before c d e f ≡ false → before a b e f ≡ false
not_before_trans a b c d e f g h = false-before a b e f (grind (arith, before-false a b c d g, before-false c d e f h))

pub lesser_assoc : (a s t : Slice) → lesser a (lesser s t) ≡ lesser (lesser a s) t
lesser_assoc a s t =
    elim (cases_Bool (is_before s a)) [
      | inl sa ↦ elim (cases_Bool (is_before t s)) [
        | inl ts ↦ rw (sa, ts, before_trans t.length t.offset s.length s.offset a.length a.offset ts sa) refl
        | inr ts ↦ rw (sa, ts, sa) refl
      ]
      | inr sa ↦ elim (cases_Bool (is_before t s)) [
        | inl ts ↦ rw (sa, ts) refl
        | inr ts ↦ rw (sa, ts, sa, not_before_trans t.length t.offset s.length s.offset a.length a.offset ts sa) refl
      ]
    ]

pub least_of-none : (s : Option Slice) → least_of s None ≡ s
least_of-none None = refl
least_of-none (Some s) = refl

pub least_of-step : (least : Option Slice) (s : Slice) (rest : Option Slice) → least_of least (Some (lesser_of s rest)) ≡ least_of (Some (so_far least s)) rest
least_of-step None s rest = refl
least_of-step (Some a) s None = refl
least_of-step (Some a) s (Some t) = ap (λ x. Some x) (lesser_assoc a s t)

-- one more slice that is long enough
pub least_more : (len : ℕ) (xs : List Slice) (i : ℕ) (least : Option Slice) (d : Slice) (all : Option Slice) → i < length xs → is_fit len (get_or xs i d) ≡ true → least_of least (least_fit len (drop i xs)) ≡ all → least_of (Some (so_far least (get_or xs i d))) (least_fit len (drop (i + 1) xs)) ≡ all
least_more len xs i least d all within fit so =
    sym (least_of-step least (get_or xs i d) (least_fit len (drop (i + 1) xs)))
    ∙ ap (least_of least) (sym (at_drop_more (least_fit len) xs i d within ∙ rw fit refl))
    ∙ so

-- one more slice that isn't
pub least_passed : (len : ℕ) (xs : List Slice) (i : ℕ) (least : Option Slice) (d : Slice) (all : Option Slice) → i < length xs → is_fit len (get_or xs i d) ≡ false → least_of least (least_fit len (drop i xs)) ≡ all → least_of least (least_fit len (drop (i + 1) xs)) ≡ all
least_passed len xs i least d all within unfit so =
    ap (least_of least) (sym (at_drop_more (least_fit len) xs i d within ∙ rw unfit refl))
    ∙ so

pub least_of_assoc : (a b c : Option Slice) → least_of (least_of a b) c ≡ least_of a (least_of b c)
least_of_assoc None b c = refl
least_of_assoc (Some a) None c = refl
least_of_assoc (Some a) (Some b) None = refl
least_of_assoc (Some a) (Some b) (Some c) = ap (λ x. Some x) (sym (lesser_assoc a b c))

-- the least of two lists
pub least_fit-append : (len : ℕ) (xs ys : List Slice) → least_fit len (xs ++ ys) ≡ least_of (least_fit len xs) (least_fit len ys)
least_fit-append len [] ys = refl
least_fit-append len (x ∷ xs) ys =
    elim (cases_Bool (is_fit len x)) [
      | inl fit ↦ rw (fit, least_fit-append len xs ys) (sym (least_of_assoc (Some x) (least_fit len xs) (least_fit len ys)))
      | inr unfit ↦ rw unfit (least_fit-append len xs ys)
    ]

-- the greatest length of two lists
pub largest_free-append : (xs ys : List Slice) → largest_free (xs ++ ys) ≡ max (largest_free xs) (largest_free ys)
largest_free-append [] ys = omega arith
largest_free-append (x ∷ xs) ys =
    let ih = largest_free-append xs ys in
    elim (cases_Bool (is_free x)) [
      | inl free ↦ rw free (omega (arith, ih))
      | inr used ↦ rw used ih
    ]

-- the least fit is a free slice
pub least_fit-free : (len : ℕ) (xs : List Slice) → least_fit len (filter is_free xs) ≡ least_fit len xs
least_fit-free len [] = refl
least_fit-free len (x ∷ xs) =
    elim (cases_Bool (is_free x)) [
      | inl free ↦ rw (free, free, least_fit-free len xs) refl
      | inr used ↦ rw used (least_fit-free len xs)
    ]

pub largest_free-free : (xs : List Slice) → largest_free (filter is_free xs) ≡ largest_free xs
largest_free-free [] = refl
largest_free-free (x ∷ xs) =
    elim (cases_Bool (is_free x)) [
      | inl free ↦ rw (free, free) (ap (λ n. max x.length n) (largest_free-free xs))
      | inr used ↦ rw used (largest_free-free xs)
    ]

-- the slice is one of these
abbrev pub Among : Slice → List Slice → Type 0
Among s [] = ⊥
Among s (x ∷ xs) = (x ≡ s) ⊎ Among s xs

-- the slice is the least of those that are long enough
pub record IsLeast (len : ℕ) (xs : List Slice) (s : Slice) : Type 0 where
  pub among : Among s xs
  pub fit : is_fit len s ≡ true
  pub least : ByRecursion (λ other. is_fit len other ≡ true → IsNotAfter s other) xs

-- what is found is the least, and where nothing is found none is long enough
abbrev pub FindsLeast : ℕ → List Slice → Option Slice → Type 0
FindsLeast len xs None = ByRecursion (λ other. is_fit len other ≡ false) xs
FindsLeast len xs (Some s) = IsLeast len xs s

pub IsNotAfter_refl : (s : Slice) → IsNotAfter s s
IsNotAfter_refl s = inr (refl, omega arith)

pub IsNotAfter_trans : (s t u : Slice) → IsNotAfter s t → IsNotAfter t u → IsNotAfter s u
IsNotAfter_trans s t u a b =
    elim a [
      | inl l ↦ elim b [ inl m ↦ inl (omega arith) | inr m ↦ inl (omega (arith, m.0)) ]
      | inr l ↦ elim b [ inl m ↦ inl (omega (arith, l.0)) | inr m ↦ inr (l.0 ∙ m.0, omega (arith, l.1, m.1)) ]
    ]

least_none : (len : ℕ) (x : Slice) (xs : List Slice) → ByRecursion (λ other. is_fit len other ≡ false) xs → ByRecursion (λ other. is_fit len other ≡ true → IsNotAfter x other) xs
least_none len x [] none = tt
least_none len x (y ∷ ys) none = (λ fit. absurd (false≢true (sym none.0 ∙ fit)), least_none len x ys none.1)

least_below : (len : ℕ) (x t : Slice) (xs : List Slice) → IsNotAfter x t → ByRecursion (λ other. is_fit len other ≡ true → IsNotAfter t other) xs → ByRecursion (λ other. is_fit len other ≡ true → IsNotAfter x other) xs
least_below len x t [] below least = tt
least_below len x t (y ∷ ys) below least = (λ fit. IsNotAfter_trans x t y below (least.0 fit), least_below len x t ys below least.1)

finds_step : (len : ℕ) (x : Slice) (xs : List Slice) (found : Option Slice) → FindsLeast len xs found → is_fit len x ≡ true → IsLeast len (x ∷ xs) (lesser_of x found)
finds_step len x xs None none fit = record { among = inl refl; fit = fit; least = (λ _. IsNotAfter_refl x, least_none len x xs none) }
finds_step len x xs (Some t) found fit =
    cond_both (is_before t x) t x (IsLeast len (x ∷ xs))
    (λ t_before.
    let below : IsNotAfter t x = elim (before-true t.length t.offset x.length x.offset t_before) [ inl l ↦ inl l | inr l ↦ inr (l.0, omega (arith, l.1)) ] in
    record { among = inr found.among; fit = found.fit; least = (λ _. below, found.least) })
    (λ x_before.
    let below : IsNotAfter x t = before-false t.length t.offset x.length x.offset x_before in
    record { among = inl refl; fit = fit; least = (λ _. IsNotAfter_refl x, least_below len x t xs below found.least) })

finds_passed : (len : ℕ) (x : Slice) (xs : List Slice) (found : Option Slice) → FindsLeast len xs found → is_fit len x ≡ false → FindsLeast len (x ∷ xs) found
finds_passed len x xs None none unfit = (unfit, none)
finds_passed len x xs (Some t) found unfit = record { among = inr found.among; fit = found.fit; least = (λ fit. absurd (false≢true (sym unfit ∙ fit)), found.least) }

pub least_fit_finds : (len : ℕ) (xs : List Slice) → FindsLeast len xs (least_fit len xs)
least_fit_finds len [] = tt
least_fit_finds len (x ∷ xs) =
    cond_both (is_fit len x) _ _ (FindsLeast len (x ∷ xs))
    (λ fit. finds_step len x xs (least_fit len xs) (least_fit_finds len xs) fit)
    (λ unfit. finds_passed len x xs (least_fit len xs) (least_fit_finds len xs) unfit)

pub is_some-least_fit : (len : ℕ) (xs : List Slice) → is_some (least_fit len xs) ≡ has_fit len xs
is_some-least_fit len [] = refl
is_some-least_fit len (x ∷ xs) =
    elim (cases_Bool (is_fit len x)) [ inl fit ↦ rw fit refl | inr unfit ↦ rw unfit (is_some-least_fit len xs) ]
