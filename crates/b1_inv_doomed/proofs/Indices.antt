-- The first place of a list at which a test passes.
use Rattle.std.proofs.Common.{◌≡◌, refl, sym, ap, subst, ◌∙◌, inl, inr, ℕ, zero, suc, ◌+◌, ◌==◌, Bool, true, false, cond, not, ◌||◌, nat_lt, List, [], ◌∷◌, map, length, Option, Some, None, option_map}
use Rattle.std.specs.Prelude.{slice_get, position, is_some}
use Rattle.std.specs.List.{list_any, position_or_len}
use Rattle.std.proofs.lemmas.Bool.{eq-eqb, eqb-true, lt-ltb, le-ltb, cases_lt}
use Rattle.std.proofs.lemmas.Option.{same_Some}
use native.Mathlib.Omega.{arith}
use Rattle.b1_step.specs.Rights.{Has}
use Rattle.b1_step.proofs.Lists.{has_at}
use Rattle.b1_inv.specs.Notices.{Apart}

-- by recursion
abbrev pub index : {X : Type 0} → (X → Bool) → List X → Option ℕ
index test [] = None
index test (x ∷ xs) = cond (test x) (Some 0) (option_map suc (index test xs))

abbrev within : ℕ → ℕ → Option ℕ
within k n = cond (nat_lt k n) (Some k) None

within_zero : (n : ℕ) → within 0 (suc n) ≡ Some 0
within_zero n = ap (λ b. cond b (Some 0) None) (lt-ltb 0 (suc n) (omega arith))

within_suc : (k n : ℕ) → within (1 + k) (suc n) ≡ option_map suc (within k n)
within_suc k n = elim (cases_lt k n) [
  | inl low ↦
      let next : 1 + k ≡ suc k = omega arith in
      ap (λ b. cond b (Some (1 + k)) None) (lt-ltb (1 + k) (suc n) (omega (arith, low))) ∙ ap Some next ∙ sym (ap (λ b. option_map suc (cond b (Some k) None)) (lt-ltb k n low))
  | inr high ↦
      ap (λ b. cond b (Some (1 + k)) None) (le-ltb (1 + k) (suc n) (omega (arith, high))) ∙ sym (ap (λ b. option_map suc (cond b (Some k) None)) (le-ltb k n high))
]

module _ {X : Type 0} (test : X → Bool) where
  position_within : (xs : List X) → position test xs ≡ within (position_or_len test xs) (length xs)
  position_within xs = refl

  one_more : (b : Bool) (k n : ℕ) → within (cond (not b) (1 + k) 0) (suc n) ≡ cond b (Some 0) (option_map suc (within k n))
  one_more true k n = within_zero n
  one_more false k n = within_suc k n

  within_index : (xs : List X) → within (position_or_len test xs) (length xs) ≡ index test xs
  within_index [] = ap (λ b. cond b (Some 0) None) (le-ltb 0 0 (omega arith))
  within_index (x ∷ xs) = one_more (test x) (position_or_len test xs) (length xs) ∙ ap (λ r. cond (test x) (Some 0) (option_map suc r)) (within_index xs)

  pub position_is : (xs : List X) → position test xs ≡ index test xs
  position_is xs = position_within xs ∙ within_index xs

  -- there is one where some element passes
  pub index_any : (xs : List X) → is_some (index test xs) ≡ list_any test xs
  index_any [] = refl
  index_any (x ∷ xs) = by (test x) (index test xs) (index_any xs)
    where
      by : (b : Bool) (r : Option ℕ) → is_some r ≡ list_any test xs → is_some (cond b (Some 0) (option_map suc r)) ≡ (b || list_any test xs)
      by true r further = refl
      by false None further = further
      by false (Some i) further = further

  -- the element there passes
  pub index_at : (xs : List X) (i : ℕ) → index test xs ≡ Some i → (x : X) × (slice_get xs i ≡ Some x) × (test x ≡ true)
  index_at [] i is = absurd (cc is)
  index_at (x ∷ xs) i is = by (test x) refl (index test xs) (index_at xs) i is
    where
      by : (b : Bool) → test x ≡ b → (r : Option ℕ) → ((j : ℕ) → r ≡ Some j → (y : X) × (slice_get xs j ≡ Some y) × (test y ≡ true)) → (j : ℕ) → cond b (Some 0) (option_map suc r) ≡ Some j → (y : X) × (slice_get (x ∷ xs) j ≡ Some y) × (test y ≡ true)
      by true passes r further j same = let k : 0 ≡ j = same_Some 0 j same in (x, ap (slice_get (x ∷ xs)) (sym k), passes)
      by false fails None further j same = absurd (cc same)
      by false fails (Some m) further j same =
          let k : suc m ≡ j = same_Some (suc m) j same in
          let f = further m refl in
          (f.0, ap (slice_get (x ∷ xs)) (sym k) ∙ f.1, f.2)

  -- there is none where no element passes
  pub index_none : (xs : List X) → ((x : X) → Has xs x → test x ≡ false) → index test xs ≡ None
  index_none [] none = refl
  index_none (x ∷ xs) none = ap (λ b. cond b (Some 0) (option_map suc (index test xs))) (none x (inl refl)) ∙ ap (option_map suc) (index_none xs (λ y h. none y (inr h)))

-- of a mapped list
pub index_map : {X Y : Type 0} (test : Y → Bool) (f : X → Y) (xs : List X) → index test (map f xs) ≡ index (λ x. test (f x)) xs
index_map test f [] = refl
index_map test f (x ∷ xs) = ap (λ r. cond (test (f x)) (Some 0) (option_map suc r)) (index_map test f xs)

-- by tests that say the same
pub index_same : {X : Type 0} (test other : X → Bool) (xs : List X) → ((x : X) → test x ≡ other x) → index test xs ≡ index other xs
index_same test other [] same = refl
index_same test other (x ∷ xs) same = ap (λ b. cond b (Some 0) (option_map suc (index test xs))) (same x) ∙ ap (λ r. cond (other x) (Some 0) (option_map suc r)) (index_same test other xs same)

-- of a number that stands once
pub index_once : (ns : List ℕ) (i n : ℕ) → Apart ns → slice_get ns i ≡ Some n → index (λ m. m == n) ns ≡ Some i
index_once [] i n apart is = absurd (cc is)
index_once (m ∷ ms) zero n apart is = let same : m ≡ n = cc is in ap (λ b. cond b (Some 0) (option_map suc (index (λ k. k == n) ms))) (eq-eqb m n same)
index_once (m ∷ ms) (suc i) n apart is = by (m == n) refl (index_once ms i n apart.1 is)
  where
    by : (b : Bool) → (m == n) ≡ b → index (λ k. k == n) ms ≡ Some i → cond b (Some 0) (option_map suc (index (λ k. k == n) ms)) ≡ Some (suc i)
    by true same further = absurd (apart.0 (subst (Has ms) (sym (eqb-true m n same)) (has_at ms i n is)))
    by false differs further = ap (option_map suc) further
