-- Lists by the first place that passes a test, and pairs of elements.
use Rattle.std.proofs.Common.{◌≡◌, ◌≢◌, ℕ, suc, zero, ◌+◌, ◌<◌, ◌≤◌, Bool, true, false, List, [], ◌∷◌, length, get_or, refl, ap, ◌∙◌, arith, inl, inr, Option, Some, None}
use Rattle.std.specs.Prelude.{All, AllPairs, filter, filter_map, find, remove}
use Rattle.std.specs.List.{range_with_len}
use Rattle.std.proofs.lemmas.List.Elements.{All-head, All-tail}
use Rattle.std.proofs.lemmas.Bool.{cases_Bool, cases_eq}

module _ {X : Type 0} where
  pub AllPairs-head : (R : X → X → Type 0) (x : X) (xs : List X) → AllPairs R (x ∷ xs) → All (R x) xs
  AllPairs-head R x xs h k d lt = h 0 (suc k) d (omega arith) (omega arith)

  pub AllPairs-tail : (R : X → X → Type 0) (x : X) (xs : List X) → AllPairs R (x ∷ xs) → AllPairs R xs
  AllPairs-tail R x xs h i j d lt within = h (suc i) (suc j) d (omega arith) (omega arith)

  pub AllPairs-nil : (R : X → X → Type 0) → AllPairs R []
  AllPairs-nil R i j d lt within = absurd (omega arith)

  pub find_none : (p : X → Bool) (xs : List X) → All (λ x. p x ≡ false) xs → find p xs ≡ None
  find_none p [] h = refl
  find_none p (x ∷ xs) h =
      rw (All-head (λ x. p x ≡ false) x xs h) (find_none p xs (All-tail (λ x. p x ≡ false) x xs h))

  pub find_first : (p : X → Bool) (xs : List X) (i : ℕ) (d : X) → i < length xs → ((k : ℕ) → k < i → p (get_or xs k d) ≡ false) → p (get_or xs i d) ≡ true → find p xs ≡ Some (get_or xs i d)
  find_first p [] i d within fails passes = absurd (omega arith)
  find_first p (x ∷ xs) zero d within fails passes = rw passes refl
  find_first p (x ∷ xs) (suc i) d within fails passes =
      rw (fails 0 (omega arith)) (find_first p xs i d (omega arith) (λ k lt. fails (suc k) (omega arith)) passes)

  -- the first that passes, where one element left
  pub find-remove : (p : X → Bool) (xs : List X) (i : ℕ) → i < length xs → ((d : X) → p (get_or xs i d) ≡ false) → find p (remove xs i) ≡ find p xs
  find-remove p [] i within fails = absurd (omega arith)
  find-remove p (x ∷ xs) zero within fails = rw (fails x) refl
  find-remove p (x ∷ xs) (suc i) within fails =
      let ih = find-remove p xs i (omega arith) fails in
      elim (cases_Bool (p x)) [ inl yes_x ↦ rw yes_x refl | inr no_x ↦ rw no_x ih ]

  pub find-remove_none : (p : X → Bool) (xs : List X) (i : ℕ) → i < length xs → ((k : ℕ) (d : X) → k < length xs → k ≢ i → p (get_or xs k d) ≡ false) → find p (remove xs i) ≡ None
  find-remove_none p [] i within fails = absurd (omega arith)
  find-remove_none p (x ∷ xs) zero within fails =
      find_none p xs (λ k d lt. fails (suc k) d (omega arith) (omega arith))
  find-remove_none p (x ∷ xs) (suc i) within fails =
      rw (fails 0 x (omega arith) (omega arith))
      (find-remove_none p xs i (omega arith) (λ k d lt ne. fails (suc k) d (omega arith) (omega arith)))

  pub filter_all : (p : X → Bool) (xs : List X) → All (λ x. p x ≡ true) xs → filter p xs ≡ xs
  filter_all p [] h = refl
  filter_all p (x ∷ xs) h =
      rw (All-head (λ x. p x ≡ true) x xs h) (ap (λ ys. x ∷ ys) (filter_all p xs (All-tail (λ x. p x ≡ true) x xs h)))

  -- one element does not pass
  pub filter_but_one : (p : X → Bool) (xs : List X) (i : ℕ) → i < length xs → ((k : ℕ) (d : X) → k < length xs → k ≢ i → p (get_or xs k d) ≡ true) → ((d : X) → p (get_or xs i d) ≡ false) → filter p xs ≡ remove xs i
  filter_but_one p [] i within passes fails = absurd (omega arith)
  filter_but_one p (x ∷ xs) zero within passes fails =
      rw (fails x) (filter_all p xs (λ k d lt. passes (suc k) d (omega arith) (omega arith)))
  filter_but_one p (x ∷ xs) (suc i) within passes fails =
      rw (passes 0 x (omega arith) (omega arith))
      (ap (λ ys. x ∷ ys) (filter_but_one p xs i (omega arith) (λ k d lt ne. passes (suc k) d (omega arith) (omega arith)) (λ d. fails d)))

-- what a range of numbers gives, by the first of them that gives something
module _ {Y : Type 0} where
  filter_map_same : (F G : ℕ → Option Y) (a n : ℕ) → ((g : ℕ) → a ≤ g → G g ≡ F g) → filter_map F (range_with_len a n) ≡ filter_map G (range_with_len a n)
  filter_map_same F G a zero same = refl
  filter_map_same F G a (suc n) same =
      rw (same a (omega arith), filter_map_same F G (a + 1) n (λ g le. same g (omega arith))) refl

  pub filter_map_first : (F G : ℕ → Option Y) (v : Y) (first a n : ℕ) → a ≤ first → first < a + n → ((g : ℕ) → g < first → F g ≡ None) → F first ≡ Some v → ((g : ℕ) → g ≤ first → G g ≡ None) → ((g : ℕ) → first < g → G g ≡ F g) → filter_map F (range_with_len a n) ≡ v ∷ filter_map G (range_with_len a n)
  filter_map_first F G v first a zero low high none some gone same = absurd (omega arith)
  filter_map_first F G v first a (suc n) low high none some gone same =
      elim (cases_eq a first) [
        | inl here ↦
            let at : F a ≡ Some v = ap F here ∙ some in
            rw (at, gone a (omega arith), filter_map_same F G (a + 1) n (λ g le. same g (omega arith))) refl
        | inr later ↦
            rw (none a (omega arith), gone a (omega arith))
            (filter_map_first F G v first (a + 1) n (omega arith) (omega arith) none some gone same)
      ]

  pub filter_map_none : (F : ℕ → Option Y) (a n : ℕ) → ((g : ℕ) → F g ≡ None) → filter_map F (range_with_len a n) ≡ []
  filter_map_none F a zero none = refl
  filter_map_none F a (suc n) none = rw (none a) (filter_map_none F (a + 1) n none)
