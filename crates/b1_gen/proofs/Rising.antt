-- Rising numbers, with one more at the end.
use Rattle.std.proofs.Common.{◌≡◌, ℕ, zero, suc, ◌+◌, ◌≤◌, Bool, true, false, cond, List, [], ◌∷◌, ◌++◌, map, length, refl, sym, ap, ◌∙◌, arith, append_assoc}
use Rattle.std.specs.List.{flat_map, range_with_len, filter, sum_by}
use Rattle.std.proofs.lemmas.List.{map-append}
use Rattle.std.proofs.lemmas.Grind.{flat_map-append}
use Rattle.std.proofs.lemmas.List.Elements.{filter-append}
use Rattle.std.proofs.lemmas.List.Sums.{sum_by_push}
use Rattle.b1_gen.specs.Generated.{below, phase_commands, commands_before}

last : (a n j : ℕ) → a + n ≡ j → range_with_len a (suc n) ≡ range_with_len a n ++ j ∷ []
last a zero j e = let same : a ≡ j = omega arith in ap (λ k. k ∷ []) same
last a (suc n) j e = ap (λ l. a ∷ l) (last (a + 1) n j (omega arith))

-- one more number
pub range-more : (a n j : ℕ) → a + n ≡ j → range_with_len a (n + 1) ≡ range_with_len a n ++ j ∷ []
range-more a n j e = let on : n + 1 ≡ suc n = omega arith in ap (range_with_len a) on ∙ last a n j e

pub below-more : (n : ℕ) → below (n + 1) ≡ below n ++ n ∷ []
below-more n = range-more 0 n n (omega arith)

append-none : {A : Type 0} (xs : List A) → xs ++ [] ≡ xs
append-none [] = refl
append-none (x ∷ xs) = ap (λ l. x ∷ l) (append-none xs)

-- what they are made into, one behind the other
pub flat_map-below : {A : Type 0} (f : ℕ → List A) (n : ℕ) → flat_map f (below (n + 1)) ≡ flat_map f (below n) ++ f n
flat_map-below f n = ap (flat_map f) (below-more n) ∙ flat_map-append f (below n) (n ∷ []) ∙ ap (λ l. flat_map f (below n) ++ l) (append-none (f n))

pub flat_map-range : {A : Type 0} (f : ℕ → List A) (a n j : ℕ) → a + n ≡ j → flat_map f (range_with_len a (n + 1)) ≡ flat_map f (range_with_len a n) ++ f j
flat_map-range f a n j e = ap (flat_map f) (range-more a n j e) ∙ flat_map-append f (range_with_len a n) (j ∷ []) ∙ ap (λ l. flat_map f (range_with_len a n) ++ l) (append-none (f j))

-- the commands of one more phase
pub commands_before-none : (number p : ℕ) → commands_before number p 0 ≡ []
unfolding commands_before
commands_before-none number p = refl

pub commands_before-more : (number p n : ℕ) → commands_before number p (n + 1) ≡ commands_before number p n ++ phase_commands number p n
unfolding commands_before
commands_before-more number p n = flat_map-below (phase_commands number p) n

module _ {A : Type 0} (g : ℕ → A) (p : ℕ → Bool) (n : ℕ) where
  chosen : map g (filter p (below (n + 1))) ≡ map g (filter p (below n)) ++ map g (cond (p n) (n ∷ []) [])
  chosen = ap (λ l. map g (filter p l)) (below-more n) ∙ ap (map g) (filter-append p (below n) (n ∷ [])) ∙ map-append g (filter p (below n)) (filter p (n ∷ []))

  -- those that pass a test, where the next one does, and where it doesn't
  pub chosen-more : p n ≡ true → map g (filter p (below (n + 1))) ≡ map g (filter p (below n)) ++ g n ∷ []
  chosen-more passes = chosen ∙ ap (λ b. map g (filter p (below n)) ++ map g (cond b (n ∷ []) [])) passes

  pub chosen-same : p n ≡ false → map g (filter p (below (n + 1))) ≡ map g (filter p (below n))
  chosen-same fails = chosen ∙ ap (λ b. map g (filter p (below n)) ++ map g (cond b (n ∷ []) [])) fails ∙ append-none (map g (filter p (below n)))

module _ {A : Type 0} (g : ℕ → A) (p : ℕ → Bool) (n : ℕ) (old xs ys : List A) (so_far : xs ≡ old ++ map g (filter p (below n))) where
  -- a list of those so far takes the next one, or keeps as it is
  pub push-chosen : ys ≡ xs ++ g n ∷ [] → p n ≡ true → ys ≡ old ++ map g (filter p (below (n + 1)))
  push-chosen pushed passes = pushed ∙ ap (λ l. l ++ g n ∷ []) so_far ∙ append_assoc old (map g (filter p (below n))) (g n ∷ []) ∙ ap (λ l. old ++ l) (sym (chosen-more g p n passes))

  pub keep-chosen : ys ≡ xs → p n ≡ false → ys ≡ old ++ map g (filter p (below (n + 1)))
  keep-chosen same fails = same ∙ so_far ∙ ap (λ l. old ++ l) (sym (chosen-same g p n fails))

-- the same of what all are made into
pub push-range : {A : Type 0} (f : ℕ → List A) (a n j : ℕ) (old xs ys : List A) → a + n ≡ j → xs ≡ old ++ flat_map f (range_with_len a n) → ys ≡ xs ++ f j → ys ≡ old ++ flat_map f (range_with_len a (n + 1))
push-range f a n j old xs ys at so_far pushed = pushed ∙ ap (λ l. l ++ f j) so_far ∙ append_assoc old (flat_map f (range_with_len a n)) (f j) ∙ ap (λ l. old ++ l) (sym (flat_map-range f a n j at))

-- their sum
pub sum_by-below : (f : ℕ → ℕ) (n : ℕ) → sum_by f (below (n + 1)) ≡ sum_by f (below n) + f n
sum_by-below f n = ap (sum_by f) (below-more n) ∙ sum_by_push f (below n) n

-- no more of them pass a test than there are
pub filter-few : (p : ℕ → Bool) (xs : List ℕ) → length (filter p xs) ≤ length xs
filter-few p [] = omega arith
filter-few p (x ∷ xs) = elim (p x) as (λ b. length (cond b (x ∷ filter p xs) (filter p xs)) ≤ length (x ∷ xs)) [ true ↦ omega (arith, filter-few p xs) | false ↦ omega (arith, filter-few p xs) ]

pub map-below : {A : Type 0} (g : ℕ → A) (n : ℕ) → map g (below (n + 1)) ≡ map g (below n) ++ g n ∷ []
map-below g n = ap (map g) (below-more n) ∙ map-append g (below n) (n ∷ [])

pub ruleset rising = (map-below, flat_map-below, flat_map-range, chosen-more, chosen-same, filter-few)
