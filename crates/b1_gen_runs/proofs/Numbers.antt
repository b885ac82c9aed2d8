-- Sums over peers and phases: what is sent to a peer is what it takes, since two peers match both ways.
use Rattle.std.proofs.Common.{◌≡◌, ◌*◌, ◌≢◌, inl, inr, refl, sym, ap, ◌∙◌, subst, ℕ, zero, suc, ◌+◌, ◌<◌, ◌≤◌, ◌%◌, ◌==◌, Bool, true, false, cond, not, ◌&&◌, List, [], ◌∷◌, filter, length, sum_by, Some}
use Rattle.std.specs.Prelude.{slice_get}
use Rattle.std.specs.List.{range_with_len}
use Rattle.std.proofs.lemmas.Bool.{ne_eqb, eq-eqb, cases_eq}
use Rattle.std.proofs.lemmas.List.Sums.{sum_by-cons}
use Rattle.std.proofs.Math.Nat.{suc-mul, zero-mul, add_comm}
use native.Mathlib.Omega.{arith}
use Rattle.b1_step.specs.Rights.{Has}
use Rattle.b1_gen.specs.Generated.{below, peer_count, partners, matches}
use Rattle.b1_gen_runs.specs.Sums.{where_true}
use Rattle.b1_gen_runs.proofs.Bounds.{times}

-- ---- sums

pub sum_same : {X : Type 0} (f g : X → ℕ) (xs : List X) → ((x : X) → Has xs x → f x ≡ g x) → sum_by f xs ≡ sum_by g xs
sum_same f g [] same = refl
sum_same f g (x ∷ xs) same =
    let k = sum_by-cons f x xs in
    let l = sum_by-cons g x xs in
    let m = same x (inl refl) in
    let n = sum_same f g xs (λ y has. same y (inr has)) in
    omega (arith, k, l, m, n)

sum_both : {X : Type 0} (f g : X → ℕ) (xs : List X) → sum_by (λ x. f x + g x) xs ≡ sum_by f xs + sum_by g xs
sum_both f g [] = refl
sum_both f g (x ∷ xs) =
    let k = sum_by-cons f x xs in
    let l = sum_by-cons g x xs in
    let m = sum_by-cons (λ x. f x + g x) x xs in
    let n = sum_both f g xs in
    omega (arith, k, l, m, n)

pub sum_none : {X : Type 0} (xs : List X) → sum_by (λ x. 0) xs ≡ 0
sum_none [] = refl
sum_none (x ∷ xs) = let k = sum_by-cons (λ x. 0) x xs in let l = sum_none xs in omega (arith, k, l)

-- sums over two lists can be swapped
pub sum_swap : {X Y : Type 0} (f : X → Y → ℕ) (xs : List X) (ys : List Y) → sum_by (λ x. sum_by (f x) ys) xs ≡ sum_by (λ y. sum_by (λ x. f x y) xs) ys
sum_swap f [] ys = sym (sum_none ys)
sum_swap f (x ∷ xs) ys =
    sum_by-cons (λ x. sum_by (f x) ys) x xs
    ∙ ap (λ n. sum_by (f x) ys + n) (sum_swap f xs ys)
    ∙ sym (sum_both (f x) (λ y. sum_by (λ x. f x y) xs) ys)
    ∙ sum_same (λ y. f x y + sum_by (λ x. f x y) xs) (λ y. sum_by (λ x. f x y) (x ∷ xs)) ys (λ y has. sym (sum_by-cons (λ x. f x y) x xs))

-- the same for each element
pub sum_each : (n : ℕ) (xs : List ℕ) → sum_by (λ x. n) xs ≡ length xs * n
sum_each n [] = sym (zero-mul n)
sum_each n (x ∷ xs) =
    let k = sum_by-cons (λ (x : ℕ). n) x xs in
    let l = sum_each n xs in
    let m = suc-mul (length xs) n in
    k ∙ ap (λ z. n + z) l ∙ add_comm n (length xs * n) ∙ sym m

-- of a list that is as long as so many numbers
pub sum_least : {X : Type 0} (f : X → ℕ) (g : ℕ → ℕ) (xs : List X) (from : ℕ) → ((i : ℕ) (x : X) → slice_get xs i ≡ Some x → g (from + i) ≤ f x) → sum_by g (range_with_len from (length xs)) ≤ sum_by f xs
sum_least f g [] from least = omega arith
sum_least f g (x ∷ xs) from least =
    let k = sum_by-cons f x xs in
    let l = sum_by-cons g from (range_with_len (from + 1) (length xs)) in
    let m : g from ≤ f x = subst (λ n. g n ≤ f x) (plus_zero from) (least 0 x refl) in
    let n = sum_least f g xs (from + 1) (λ i y is. subst (λ j. g j ≤ f y) (later from i) (least (suc i) y is)) in
    omega (arith, k, l, m, n)
  where
    plus_zero : (m : ℕ) → m + 0 ≡ m
    plus_zero m = omega arith

    later : (m j : ℕ) → m + suc j ≡ m + 1 + j
    later m j = omega arith

pub sum_indexed : {X : Type 0} (f : X → ℕ) (g : ℕ → ℕ) (xs : List X) (from : ℕ) → ((i : ℕ) (x : X) → slice_get xs i ≡ Some x → f x ≡ g (from + i)) → sum_by f xs ≡ sum_by g (range_with_len from (length xs))
sum_indexed f g [] from same = refl
sum_indexed f g (x ∷ xs) from same =
    let k = sum_by-cons f x xs in
    let l = sum_by-cons g from (range_with_len (from + 1) (length xs)) in
    let m : f x ≡ g from = subst (λ n. f x ≡ g n) (plus_zero from) (same 0 x refl) in
    let n = sum_indexed f g xs (from + 1) (λ i y is. subst (λ j. f y ≡ g j) (later from i) (same (suc i) y is)) in
    omega (arith, k, l, m, n)
  where
    plus_zero : (m : ℕ) → m + 0 ≡ m
    plus_zero m = omega arith

    later : (m j : ℕ) → m + suc j ≡ m + 1 + j
    later m j = omega arith

-- ---- how often a peer is among those that pass

module _ (q each : ℕ) (test : ℕ → Bool) where
  times_none : (from n : ℕ) → q < from → times q each (filter test (range_with_len from n)) ≡ 0
  times_none from zero less = refl
  times_none from (suc n) less = at (test from) (times_none (from + 1) n (omega (arith, less)))
    where
      at : (b : Bool) → times q each (filter test (range_with_len (from + 1) n)) ≡ 0 → times q each (cond b (from ∷ filter test (range_with_len (from + 1) n)) (filter test (range_with_len (from + 1) n))) ≡ 0
      at false further = further
      at true further =
          let k = sum_by-cons (λ r. where_true (r == q) each) from (filter test (range_with_len (from + 1) n)) in
          let m : where_true (from == q) each ≡ 0 = rw (ne_eqb from q (λ e. absurd (omega (arith, e, less)))) refl in
          omega (arith, k, m, further)

  module _ (from : ℕ) (F : List ℕ) where
    here : from ≡ q → times q each F ≡ 0 → (b : Bool) → test from ≡ b → times q each (cond b (from ∷ F) F) ≡ where_true (test q) each
    here same none true is =
        let k = sum_by-cons (λ r. where_true (r == q) each) from F in
        let m : where_true (from == q) each ≡ each = rw (eq-eqb from q same) refl in
        let n : where_true (test q) each ≡ each = ap (λ b. where_true b each) (ap test (sym same) ∙ is) in
        omega (arith, k, m, n, none)
    here same none false is =
        let n : where_true (test q) each ≡ 0 = ap (λ b. where_true b each) (ap test (sym same) ∙ is) in
        omega (arith, n, none)

    there : from ≢ q → times q each F ≡ where_true (test q) each → (b : Bool) → times q each (cond b (from ∷ F) F) ≡ where_true (test q) each
    there apart further true =
        let k = sum_by-cons (λ r. where_true (r == q) each) from F in
        let m : where_true (from == q) each ≡ 0 = rw (ne_eqb from q apart) refl in
        omega (arith, k, m, further)
    there apart further false = further

  times_once : (from n : ℕ) → from ≤ q → q < from + n → times q each (filter test (range_with_len from n)) ≡ where_true (test q) each
  times_once from zero low high = absurd (omega (arith, low, high))
  times_once from (suc n) low high = elim (cases_eq from q) [
    | inl same ↦ here from (filter test (range_with_len (from + 1) n)) same (times_none (from + 1) n (omega (arith, same))) (test from) refl
    | inr apart ↦ there from (filter test (range_with_len (from + 1) n)) apart (times_once (from + 1) n (omega (arith, low, apart)) (omega (arith, high))) (test from)
  ]

-- those that pass, each as much
passing : (each : ℕ) (test : ℕ → Bool) (xs : List ℕ) → sum_by (λ x. where_true (test x) each) xs ≡ sum_by (λ x. each) (filter test xs)
passing each test [] = refl
passing each test (x ∷ xs) = at (test x) (passing each test xs) refl
  where
    at : (b : Bool) → sum_by (λ x. where_true (test x) each) xs ≡ sum_by (λ x. each) (filter test xs) → test x ≡ b → sum_by (λ x. where_true (test x) each) (x ∷ xs) ≡ sum_by (λ x. each) (cond b (x ∷ filter test xs) (filter test xs))
    at true further is =
        let k = sum_by-cons (λ x. where_true (test x) each) x xs in
        let l = sum_by-cons (λ (x : ℕ). each) x (filter test xs) in
        let m : where_true (test x) each ≡ each = ap (λ b. where_true b each) is in
        omega (arith, k, l, m, further)
    at false further is =
        let k = sum_by-cons (λ x. where_true (test x) each) x xs in
        let m : where_true (test x) each ≡ 0 = ap (λ b. where_true b each) is in
        omega (arith, k, m, further)

-- two peers match both ways
eqb_swaps : (a b : ℕ) → (a == b) ≡ (b == a)
eqb_swaps a b = elim (cases_eq a b) [
  | inl same ↦ eq-eqb a b same ∙ sym (eq-eqb b a (sym same))
  | inr apart ↦ ne_eqb a b apart ∙ sym (ne_eqb b a (λ e. apart (sym e)))
]

match_swaps : (number k p q : ℕ) → matches number k p q ≡ matches number k q p
match_swaps number k p q =
    ap (λ b. not b && not ((number + p + k + q) % 3 == 0)) (eqb_swaps q p)
    ∙ ap (λ n. not (p == q) && not (n % 3 == 0)) (turned number p k q)
  where
    turned : (a b c d : ℕ) → a + b + c + d ≡ a + d + c + b
    turned a b c d = omega arith

-- ---- what is sent to a peer

-- what a peer takes in the first phases, where a message of each phase counts so much
abbrev pub due_before : (ℕ → ℕ) → ℕ → ℕ → ℕ → ℕ
due_before each number p phases = sum_by (λ k. sum_by (λ r. each k) (partners number k p)) (below phases)

-- what a peer's SENDs of the first phases bring to another
abbrev pub brings_before : (ℕ → ℕ) → ℕ → ℕ → ℕ → ℕ → ℕ
brings_before each number q phases p = sum_by (λ k. times q (each k) (partners number k p)) (below phases)

module _ (each : ℕ → ℕ) (number q : ℕ) (within : q < peer_count number) where
  in_phase : (k : ℕ) → sum_by (λ p. times q (each k) (partners number k p)) (below (peer_count number)) ≡ sum_by (λ r. each k) (partners number k q)
  in_phase k =
      sum_same (λ p. times q (each k) (partners number k p)) (λ p. where_true (matches number k q p) (each k)) (below (peer_count number))
      (λ p has. times_once q (each k) (matches number k p) 0 (peer_count number) (omega arith) (omega (arith, within)) ∙ ap (λ b. where_true b (each k)) (match_swaps number k p q))
      ∙ passing (each k) (matches number k q) (below (peer_count number))

  pub both_ways : (phases : ℕ) → sum_by (brings_before each number q phases) (below (peer_count number)) ≡ due_before each number q phases
  both_ways phases =
      sum_swap (λ p k. times q (each k) (partners number k p)) (below (peer_count number)) (below phases)
      ∙ sum_same (λ k. sum_by (λ p. times q (each k) (partners number k p)) (below (peer_count number))) (λ k. sum_by (λ r. each k) (partners number k q)) (below phases) (λ k has. in_phase k)
