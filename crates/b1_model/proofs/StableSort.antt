-- A list is determined by being in order and by how its elements that tie stand.
use Rattle.std.specs.Prelude.{◌≡◌, refl, ℕ, suc, ◌<◌, ◌≤◌, Bool, true, false, List, [], ◌∷◌, length, filter, if◌then◌else◌}
use Rattle.std.specs.Cmp.{IsStrictWeakOrder}
use Rattle.std.specs.List.Sorted.{ties, IsSortedBy}
use Rattle.std.proofs.lemmas.List.Sorted.{sorted_far}
use Rattle.std.proofs.Common.{get_or, arith, subst, sym, ap, ◌∙◌}

module _ {X : Type 0} (lt : X → X → Bool) where
  -- no element is below z
  abbrev pub AllAbove : X → List X → Type 0
  AllAbove z [] = Unit {0}
  AllAbove z (x ∷ xs) = (lt x z ≡ false) × AllAbove z xs

  -- each element is followed by none below it
  abbrev pub Rises : List X → Type 0
  Rises [] = Unit {0}
  Rises (x ∷ xs) = AllAbove x xs × Rises xs

module _ {X : Type 0} (lt : X → X → Bool) (o : IsStrictWeakOrder lt) where
  not_below_itself : (x : X) → lt x x ≡ false
  not_below_itself x = go (lt x x) refl
    where
      go : (b : Bool) → lt x x ≡ b → lt x x ≡ false
      go true e = o.one_way x x e
      go false e = e

  above_of : (z : X) (xs : List X) → ((i : ℕ) (d : X) → i < length xs → lt (get_or xs i d) z ≡ false) → AllAbove lt z xs
  above_of z [] h = tt
  above_of z (x ∷ xs) h = (h 0 x (omega arith), above_of z xs (λ i d l. h (suc i) d (omega (arith, l))))

  rises_of : (xs : List X) → ((i j : ℕ) (d : X) → i ≤ j → j < length xs → lt (get_or xs j d) (get_or xs i d) ≡ false) → Rises lt xs
  rises_of [] h = tt
  rises_of (x ∷ xs) h = (above_of x xs (λ i d l. h 0 (suc i) d (omega arith) (omega (arith, l))), rises_of xs (λ i j d l m. h (suc i) (suc j) d (omega (arith, l)) (omega (arith, m))))

  pub rises_of_sorted : (xs : List X) → IsSortedBy lt xs → Rises lt xs
  rises_of_sorted xs up = rises_of xs (λ i j d l m. sorted_far lt o xs up i j d l m)

  pub above_above : (x y : X) (xs : List X) → lt y x ≡ false → AllAbove lt y xs → AllAbove lt x xs
  above_above x y [] e h = tt
  above_above x y (z ∷ xs) e h = (o.chain z y x h.0 e, above_above x y xs e h.1)

  -- an element that passes is not below what is below none
  passed_is_above : (z w : X) (p : X → Bool) (xs ws : List X) → AllAbove lt z xs → filter p xs ≡ w ∷ ws → lt w z ≡ false
  passed_is_above z w p [] ws h e = cc
  passed_is_above z w p (x ∷ xs) ws h e = go (p x) e (λ f. passed_is_above z w p xs ws h.1 f)
    where
      go : (b : Bool) → (if b then x ∷ filter p xs else filter p xs) ≡ w ∷ ws → (filter p xs ≡ w ∷ ws → lt w z ≡ false) → lt w z ≡ false
      go true f rest = let s : x ≡ w = cc f in subst (λ y. lt y z ≡ false) s h.0
      go false f rest = rest f

  pub ties_itself : (x : X) → ties lt x x ≡ true
  ties_itself x = rw (not_below_itself x) refl

  of_not_below : (x y : X) → lt x y ≡ false → lt y x ≡ false → ties lt x y ≡ true
  of_not_below x y e f = rw (e, f) refl

  first_passes : (p : X → Bool) (x : X) (xs : List X) → p x ≡ true → filter p (x ∷ xs) ≡ x ∷ filter p xs
  first_passes p x xs e = rw e refl

  rest_same : (p : X → Bool) (x : X) (xs ys : List X) → filter p (x ∷ xs) ≡ filter p (x ∷ ys) → filter p xs ≡ filter p ys
  rest_same p x xs ys e = go (p x) e
    where
      go : (b : Bool) → (if b then x ∷ filter p xs else filter p xs) ≡ (if b then x ∷ filter p ys else filter p ys) → filter p xs ≡ filter p ys
      go true f = cc f
      go false f = f

  pub same_list : (xs ys : List X) → Rises lt xs → Rises lt ys → ((x : X) → filter (ties lt x) xs ≡ filter (ties lt x) ys) → xs ≡ ys
  same_list [] [] h g e = refl
  same_list [] (y ∷ ys) h g e = let f : [] ≡ y ∷ filter (ties lt y) ys = e y ∙ first_passes (ties lt y) y ys (ties_itself y) in cc f
  same_list (x ∷ xs) [] h g e = let f : x ∷ filter (ties lt x) xs ≡ [] = sym (first_passes (ties lt x) x xs (ties_itself x)) ∙ e x in cc f
  same_list (x ∷ xs) (y ∷ ys) h g e =
      let a : filter (ties lt x) (y ∷ ys) ≡ x ∷ filter (ties lt x) xs = sym (e x) ∙ first_passes (ties lt x) x xs (ties_itself x) in
      let b : filter (ties lt y) (x ∷ xs) ≡ y ∷ filter (ties lt y) ys = e y ∙ first_passes (ties lt y) y ys (ties_itself y) in
      let u : lt x y ≡ false = passed_is_above y x (ties lt x) (y ∷ ys) (filter (ties lt x) xs) (not_below_itself y, g.0) a in
      let v : lt y x ≡ false = passed_is_above x y (ties lt y) (x ∷ xs) (filter (ties lt y) ys) (not_below_itself x, h.0) b in
      let w : y ∷ filter (ties lt x) ys ≡ x ∷ filter (ties lt x) xs = sym (first_passes (ties lt x) y ys (of_not_below x y u v)) ∙ a in
      let s : y ≡ x = cc w in
      subst (λ z. x ∷ xs ≡ z ∷ ys) (sym s) (ap (λ l. x ∷ l) (same_list xs ys h.1 g.1 (λ z. rest_same (ties lt z) x xs ys (subst (λ q. filter (ties lt z) (x ∷ xs) ≡ filter (ties lt z) (q ∷ ys)) s (e z)))))
