-- Steps of a cell up or down, by what the comparisons answered.
use Rattle.std.proofs.Common.{◌≡◌, ◌≢◌, ℕ, ◌+◌, ◌*◌, ◌^◌, ◌<◌, ◌≤◌, true, false, List, length, sym, ap, ◌∙◌, arith, inl, inr, subst}
use Rattle.std.specs.Prelude.{swap}
use Rattle.std.specs.declared.cmp.Ordering.TheVariants.{Less}
use Rattle.std.proofs.Math.Nat.{mul-le-mul_left}
use Rattle.std.proofs.lemmas.Bool.{cases_lt, false≢true}
use Rattle.std.proofs.lemmas.Grind.{pow_more}
use Rattle.std.proofs.lemmas.List.{get_or_default}
use Rattle.std.proofs.lemmas.List.Edits.{Swapped, swapped_from_swap, length-swap}
use Rattle.b1_model.specs.Keys.{compare_keys}
use Rattle.b1_model.specs.declared.naming.Key.{Key}
use Rattle.b1_queue.specs.Queue.{is_before}
use Rattle.b1_queue.proofs.Order.{less_from_before, before_from_less, before_cases}
use Rattle.b1_heap.specs.Heap.{AreApart, IsHeap, parent}
use Rattle.b1_heap.specs.Sift.{keys_of, RisesAt, SinksAt, MovesAt, Rises, Sinks, IsLeastChild}
use Rattle.b1_heap.proofs.Sifts.{rises_more, sinks_more, rises_root, rises_done, sinks_leaf, sinks_done, rises_from_moves, sinks_from_moves}

child_differs : (place child : ℕ) → 0 < child → parent child ≡ place → child ≢ place
child_differs place child positive below = omega arith

module _ (cells : List (Key × ℕ)) (e : Key × ℕ) where
  key_as : (d : Key × ℕ) (place : ℕ) → place < length cells → keys_of cells d place ≡ keys_of cells e place
  key_as d place lt = ap (λ (c : Key × ℕ). c.0) (get_or_default cells place d e lt)

  pub keys_differ : AreApart cells → (d : Key × ℕ) (a b : ℕ) → a < length cells → b < length cells → a ≢ b → keys_of cells d a ≢ keys_of cells d b
  keys_differ apart d a b la lb ne same =
      elim (cases_lt a b) [
        | inl low ↦ apart a b d low lb same
        | inr high ↦ apart b a d (omega arith) la (sym same)
      ]

  pub before_at : (a b : ℕ) → a < length cells → b < length cells → is_before (keys_of cells e a) (keys_of cells e b) ≡ true → (d : Key × ℕ) → compare_keys (keys_of cells d a) (keys_of cells d b) ≡ Less
  before_at a b la lb h d = rw (key_as d a la, key_as d b lb) (less_from_before (keys_of cells e a) (keys_of cells e b) h)

  pub after_at : AreApart cells → (a b : ℕ) → a < length cells → b < length cells → a ≢ b → is_before (keys_of cells e a) (keys_of cells e b) ≡ false → (d : Key × ℕ) → compare_keys (keys_of cells d b) (keys_of cells d a) ≡ Less
  after_at apart a b la lb ne h d =
      rw (key_as d a la, key_as d b lb)
      (elim (before_cases (keys_of cells e a) (keys_of cells e b) (keys_differ apart e a b la lb ne)) [
        | inl less ↦ absurd (false≢true (sym h ∙ before_from_less (keys_of cells e a) (keys_of cells e b) less))
        | inr more ↦ more
      ])

  module _ (ys : List (Key × ℕ)) (a b : ℕ) (la : a < length cells) (lb : b < length cells) (same : ys ≡ swap cells a b) where
    swapped_keys : (d : Key × ℕ) → Swapped (keys_of cells d) (keys_of ys d) a b
    swapped_keys d =
        let s = swapped_from_swap cells ys a b d la lb same in
        (ap (λ (c : Key × ℕ). c.0) s.0, ap (λ (c : Key × ℕ). c.0) s.1, λ m na nb. ap (λ (c : Key × ℕ). c.0) (s.2 m na nb))

    swapped_length : length cells ≡ length ys
    swapped_length = sym (ap length same ∙ length-swap cells a b)

  pub rises_swapped : (ys : List (Key × ℕ)) (place : ℕ) → 0 < place → place < length cells → ys ≡ swap cells (parent place) place → is_before (keys_of cells e place) (keys_of cells e (parent place)) ≡ true → RisesAt cells place → RisesAt ys (parent place)
  rises_swapped ys place positive within same less r d =
      let high : parent place < length cells = omega arith in
      subst (λ (n : ℕ). Rises (keys_of ys d) n (parent place)) (swapped_length ys (parent place) place high within same)
      (rises_more (keys_of cells d) (keys_of ys d) (length cells) place (swapped_keys ys (parent place) place high within same d) positive within (before_at place (parent place) within high less d) (r d))

  pub heap_from_root : (place : ℕ) → place ≤ 0 → RisesAt cells place → IsHeap cells
  heap_from_root place root r p d = rises_root (keys_of cells d) (length cells) place root (r d) p

  pub heap_from_rises : AreApart cells → (place : ℕ) → 0 < place → place < length cells → is_before (keys_of cells e place) (keys_of cells e (parent place)) ≡ false → RisesAt cells place → IsHeap cells
  heap_from_rises apart place positive within less r p d =
      rises_done (keys_of cells d) (length cells) place (after_at apart place (parent place) within (omega arith) (omega arith) less d) (r d) p

  pub sinks_swapped : (ys : List (Key × ℕ)) (place child : ℕ) → place < length cells → IsLeastChild cells place child → ys ≡ swap cells place child → is_before (keys_of cells e child) (keys_of cells e place) ≡ true → SinksAt cells place → SinksAt ys child
  sinks_swapped ys place child within c same less r d =
      subst (λ (n : ℕ). Sinks (keys_of ys d) n child) (swapped_length ys place child within c.within same)
      (sinks_more (keys_of cells d) (keys_of ys d) (length cells) place child (swapped_keys ys place child within c.within same d) c.positive c.within c.below (λ other. c.least other d) (before_at child place c.within within less d) (r d))

  pub heap_from_leaf : (place : ℕ) → length cells ≤ 2 * place + 1 → SinksAt cells place → IsHeap cells
  heap_from_leaf place leaf r p d = sinks_leaf (keys_of cells d) (length cells) place leaf (r d) p

  pub heap_from_sinks : AreApart cells → (place child : ℕ) → place < length cells → IsLeastChild cells place child → is_before (keys_of cells e child) (keys_of cells e place) ≡ false → SinksAt cells place → IsHeap cells
  heap_from_sinks apart place child within c less r p d =
      sinks_done (keys_of cells d) (length cells) place child (λ other. c.least other d)
      (after_at apart child place c.within within (child_differs place child c.positive c.below) less d) (r d) p

  pub rises_here : (at : ℕ) → 0 < at → at < length cells → is_before (keys_of cells e at) (keys_of cells e (parent at)) ≡ true → MovesAt cells at → RisesAt cells at
  rises_here at positive within less m d =
      rises_from_moves (keys_of cells d) (length cells) at positive (before_at at (parent at) within (omega arith) less d) (m d)

  pub sinks_here : AreApart cells → (at : ℕ) → at < length cells → (0 < at → is_before (keys_of cells e at) (keys_of cells e (parent at)) ≡ false) → MovesAt cells at → SinksAt cells at
  sinks_here apart at within less m d =
      sinks_from_moves (keys_of cells d) (length cells) at
      (λ positive. after_at apart at (parent at) within (omega arith) (omega arith) (less positive) d) (m d)

-- the cost of one more level down
pub levels_more : (levels at place child : ℕ) → 2 ^ levels * (at + 1) ≤ place + 1 → 0 < child → parent child ≡ place → 2 ^ (levels + 1) * (at + 1) ≤ child + 1
levels_more levels at place child so_far positive below = rw pow_more (omega arith)

-- the cost of one more level up
module _ (t place m : ℕ) (positive : 0 < place) (so_far : 2 ^ t * (place + 1) ≤ m) where
  pub cost_above : 2 ^ (t + 1) * (parent place + 1) ≤ m
  cost_above =
      let more = mul-le-mul_left {m = 2 * (parent place + 1)} {n = place + 1} (2 ^ t) (omega arith) in
      rw pow_more (omega (arith, more))

  pub cost_here : 2 ^ (t + 1) ≤ m
  cost_here =
      let more = mul-le-mul_left {m = 2} {n = place + 1} (2 ^ t) (omega arith) in
      rw pow_more (omega (arith, more))
