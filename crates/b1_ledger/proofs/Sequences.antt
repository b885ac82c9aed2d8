-- Lists: reading and cutting a list that has grown at its end.
use Rattle.std.specs.Prelude.{◌≡◌, refl, ℕ, zero, suc, ◌<◌, ◌≤◌, ◌⊎◌, Bool, true, false, ◌&&◌, ◌||◌, List, [], ◌∷◌, ◌++◌, map, length, take, slice_get, Option, Some, None, flat_map}
use Rattle.std.specs.List.{list_any}
use Rattle.std.proofs.lemmas.List.Folds.{list_any-append}
use Rattle.std.proofs.lemmas.Option.{same_Some}
use Rattle.std.proofs.Common.{arith, inl, inr, subst, sym, ◌∙◌}
pub use Rattle.std.proofs.lemmas.Bool.{and_parts as and_true}

pub slice_get-append : {A : Type 0} (xs ys : List A) (k : ℕ) (x : A) → slice_get xs k ≡ Some x → slice_get (xs ++ ys) k ≡ Some x
slice_get-append [] ys k x e = cc
slice_get-append (z ∷ xs) ys zero x e = e
slice_get-append (z ∷ xs) ys (suc k) x e = slice_get-append xs ys k x e

pub slice_get-append_lt : {A : Type 0} (xs ys : List A) (k : ℕ) → k < length xs → slice_get (xs ++ ys) k ≡ slice_get xs k
slice_get-append_lt [] ys k l = absurd (omega (arith, l))
slice_get-append_lt (z ∷ xs) ys zero l = refl
slice_get-append_lt (z ∷ xs) ys (suc k) l = slice_get-append_lt xs ys k (omega (arith, l))

pub slice_get-end : {A : Type 0} (xs : List A) (c : A) → slice_get (xs ++ c ∷ []) (length xs) ≡ Some c
slice_get-end [] c = refl
slice_get-end (z ∷ xs) c = slice_get-end xs c

-- an item of a list with one more at its end is one of the list, or the new one
pub slice_get-more : {A : Type 0} (xs : List A) (c : A) (k : ℕ) (x : A) → slice_get (xs ++ c ∷ []) k ≡ Some x → (slice_get xs k ≡ Some x) ⊎ ((k ≡ length xs) × (x ≡ c))
slice_get-more [] c zero x e = inr (refl, sym (same_Some _ _ e))
slice_get-more [] c (suc k) x e = cc
slice_get-more (z ∷ xs) c zero x e = inl e
slice_get-more (z ∷ xs) c (suc k) x e = elim (slice_get-more xs c k x e) [ inl h ↦ inl h | inr h ↦ inr (omega (arith, h.0), h.1) ]

pub take-more : {A : Type 0} (xs : List A) (k : ℕ) (x : A) → slice_get xs k ≡ Some x → take (suc k) xs ≡ take k xs ++ x ∷ []
take-more [] k x e = cc
take-more (z ∷ xs) zero x e = cc
take-more (z ∷ xs) (suc k) x e = rw (take-more xs k x e) refl

pub take-end : {A : Type 0} (xs : List A) → take (length xs) xs ≡ xs
take-end [] = refl
take-end (z ∷ xs) = rw (take-end xs) refl

pub take-past : {A : Type 0} (xs : List A) (k : ℕ) → length xs ≤ k → take k xs ≡ xs
take-past [] zero l = refl
take-past [] (suc k) l = refl
take-past (z ∷ xs) zero l = absurd (omega (arith, l))
take-past (z ∷ xs) (suc k) l = rw (take-past xs k (omega (arith, l))) refl

pub slice_get-take : {A : Type 0} (xs : List A) (k i : ℕ) → i < k → slice_get (take k xs) i ≡ slice_get xs i
slice_get-take [] zero i l = refl
slice_get-take [] (suc k) i l = refl
slice_get-take (z ∷ xs) zero i l = absurd (omega (arith, l))
slice_get-take (z ∷ xs) (suc k) zero l = refl
slice_get-take (z ∷ xs) (suc k) (suc i) l = slice_get-take xs k i (omega (arith, l))

-- P holds of each item of a list
abbrev pub Each : {A : Type 0} → (A → Type 0) → List A → Type 0
Each P [] = Unit {0}
Each P (x ∷ xs) = P x × Each P xs

pub each-of : {A : Type 0} (P : A → Type 0) (xs : List A) → ((k : ℕ) (x : A) → slice_get xs k ≡ Some x → P x) → Each P xs
each-of P [] h = tt
each-of P (x ∷ xs) h = (h 0 x refl, each-of P xs (λ k y e. h (suc k) y e))

pub each-at : {A : Type 0} (P : A → Type 0) (xs : List A) → Each P xs → (k : ℕ) (x : A) → slice_get xs k ≡ Some x → P x
each-at P [] h k x e = cc
each-at P (y ∷ xs) h zero x e = subst P (same_Some _ _ e) h.0
each-at P (y ∷ xs) h (suc k) x e = each-at P xs h.1 k x e

pub each-take : {A : Type 0} (P : A → Type 0) (k : ℕ) (xs : List A) → Each P xs → Each P (take k xs)
each-take P zero [] h = tt
each-take P zero (x ∷ xs) h = tt
each-take P (suc k) [] h = tt
each-take P (suc k) (x ∷ xs) h = (h.0, each-take P k xs h.1)

pub list_any-flat_map : {A B : Type 0} (test : B → Bool) (f g : A → List B) (xs : List A) → ((x : A) → list_any test (f x) ≡ list_any test (g x)) → list_any test (flat_map f xs) ≡ list_any test (flat_map g xs)
list_any-flat_map test f g [] h = refl
list_any-flat_map test f g (x ∷ xs) h = rw (list_any-append test (f x) (flat_map f xs), list_any-append test (g x) (flat_map g xs), h x, list_any-flat_map test f g xs h) refl

pub map-same : {A B : Type 0} (f g : A → B) (xs : List A) → ((x : A) → f x ≡ g x) → map f xs ≡ map g xs
map-same f g [] h = refl
map-same f g (x ∷ xs) h = rw (h x, map-same f g xs h) refl

pub list_any-flat_map_more : {A B : Type 0} (test : B → Bool) (f g : A → List B) (xs : List A) → ((x : A) → list_any test (f x) ≡ true → list_any test (g x) ≡ true) → list_any test (flat_map f xs) ≡ true → list_any test (flat_map g xs) ≡ true
list_any-flat_map_more test f g [] h e = e
list_any-flat_map_more test f g (x ∷ xs) h e =
    rw (list_any-append test (g x) (flat_map g xs))
    (either (list_any test (f x)) (list_any test (flat_map f xs)) (list_any test (g x)) (list_any test (flat_map g xs)) (sym (list_any-append test (f x) (flat_map f xs)) ∙ e) (h x) (list_any-flat_map_more test f g xs h))
  where
    either : (a b c d : Bool) → (a || b) ≡ true → (a ≡ true → c ≡ true) → (b ≡ true → d ≡ true) → (c || d) ≡ true
    either true b c d e f g = rw (f refl) refl
    either false b c true e f g = or_true c
      where
        or_true : (x : Bool) → (x || true) ≡ true
        or_true true = refl
        or_true false = refl
    either false b c false e f g = cc (g e)

pub and_of : (a b : Bool) → a ≡ true → b ≡ true → (a && b) ≡ true
and_of a b e f = rw (e, f) refl

pub or_true : (a b : Bool) → (a || b) ≡ true → (a ≡ true) ⊎ (b ≡ true)
or_true true b e = inl refl
or_true false b e = inr e

pub or_left : (a b : Bool) → a ≡ true → (a || b) ≡ true
or_left a b e = rw e refl

pub or_right : (a b : Bool) → b ≡ true → (a || b) ≡ true
or_right true b e = refl
or_right false b e = e

pub bool_cases : (b : Bool) → (b ≡ true) ⊎ (b ≡ false)
bool_cases true = inl refl
bool_cases false = inr refl

pub option_cases : {A : Type 0} (o : Option A) → (o ≡ None) ⊎ ((x : A) × (o ≡ Some x))
option_cases None = inl refl
option_cases (Some x) = inr (x, refl)
