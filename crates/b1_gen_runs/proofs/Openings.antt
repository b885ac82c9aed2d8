-- The opening of a generated script, computed for each number of peers.
use Rattle.std.proofs.Common.{◌≡◌, ◌≢◌, inl, inr, refl, ap, ◌∙◌, subst, ℕ, zero, suc, ◌+◌, ◌%◌, ◌<◌, ◌≤◌, length, ◌==◌, Bool, true, false, ◌&&◌, ◌||◌, not, List, [], ◌∷◌, get_or, Option, Some, None}
use Rattle.std.specs.Prelude.{slice_get}
use Rattle.std.specs.List.{list_all, range_with_len}
use Rattle.std.proofs.lemmas.Bool.{eqb-true, cases_eq, ne_eqb}
use Rattle.std.proofs.lemmas.Option.{same_Some}
use Rattle.std.proofs.Math.Nat.{zero-add}
use native.Mathlib.Omega.{arith}
use Rattle.b1_model.specs.declared.naming.NodeRef.{NodeRef}
use Rattle.b1_model.specs.declared.naming.Limits.{Limits}
use Rattle.b1_model.specs.MachineParts.{PeerPart, NodePart, is_live, node_at, no_node}
use Rattle.b1_model.specs.MachinePool.{is_free}
use Rattle.b1_model.specs.MachineTables.{held_node}
use Rattle.b1_model.specs.MachineStep.{opening_state}
use Rattle.b1_step.specs.Rights.{Has}
use Rattle.b1_inv.specs.Words.{IsPeer}
use Rattle.b1_gen.specs.Generated.{below, handle_at, peer_spec, peer_count, opening_of}
use Rattle.b1_gen.specs.declared.numbers.TheConstants.{POOL}
use Rattle.b1_gen_runs.specs.Parts.{Stands, IsFresh}

-- ---- each number of peers

five : (P : ℕ → Type 0) → P 0 → P 1 → P 2 → P 3 → P 4 → (m : ℕ) → m < 5 → P m
five P a b c d e zero small = a
five P a b c d e (suc zero) small = b
five P a b c d e (suc (suc zero)) small = c
five P a b c d e (suc (suc (suc zero))) small = d
five P a b c d e (suc (suc (suc (suc zero)))) small = e
five P a b c d e (suc (suc (suc (suc (suc m))))) small = absurd (omega (arith, small))

pub by_count : (P : ℕ → Type 0) → P 4 → P 5 → P 6 → P 7 → P 8 → (number : ℕ) → P (peer_count number)
by_count P a b c d e number = five (λ m. P (4 + m)) a b c d e (number % 5) (omega arith)

-- ---- one peer

abbrev is_ref : NodeRef → Option NodeRef → Bool
is_ref node None = false
is_ref node (Some one) = (one.owner == node.owner) && (one.serial == node.serial)

abbrev is_there : ℕ → PeerPart → ℕ → Bool
is_there q x r = (r == q) || is_ref (record { owner = r; serial = 0 }) (held_node (handle_at q r) x.handles)

abbrev same_limits : Limits → Limits → Bool
same_limits a b = (a.entries == b.entries) && (a.bytes == b.bytes) && (a.handles == b.handles)

abbrev is_empty : {X : Type 0} → List X → Bool
is_empty [] = true
is_empty (x ∷ xs) = false

abbrev is_one : {X : Type 0} → List X → Bool
is_one [] = true
is_one (x ∷ xs) = is_empty xs

abbrev stands_here : ℕ → ℕ → PeerPart → Bool
stands_here n q x =
    is_live (node_at x 0).state
    && (list_all (λ (node : NodePart). not node.taken) x.nodes
    && (list_all (is_there q x) (below n)
    && (same_limits x.limits (peer_spec q).limits
    && ((x.pool == POOL)
    && (is_empty x.dead
    && (is_empty x.queue
    && (is_one x.slices
    && (list_all is_free x.slices
    && (x.clock == 0)))))))))

abbrev all_from : ℕ → ℕ → List PeerPart → Bool
all_from n q [] = true
all_from n q (x ∷ rest) = stands_here n q x && all_from n (q + 1) rest

abbrev all_stand : ℕ → Bool
all_stand n = all_from n 0 (opening_state (opening_of n)).peers

opening_stands : (number : ℕ) → all_stand (peer_count number) ≡ true
opening_stands number = by_count (λ n. all_stand n ≡ true) refl refl refl refl refl number

-- ---- what the tests say

pub and_parts : (a b : Bool) → (a && b) ≡ true → (a ≡ true) × (b ≡ true)
and_parts true b is = (refl, is)
and_parts false b is = absurd (cc is)

at_from : (n : ℕ) (xs : List PeerPart) (from q : ℕ) (x : PeerPart) → all_from n from xs ≡ true → slice_get xs q ≡ Some x → stands_here n (from + q) x ≡ true
at_from n [] from q x all is = absurd (cc is)
at_from n (y ∷ rest) from zero x all is =
    let same : y ≡ x = same_Some y x is in
    let here = (and_parts (stands_here n from y) (all_from n (from + 1) rest) all).0 in
    subst (λ z. stands_here n (from + 0) z ≡ true) same (subst (λ k. stands_here n k y ≡ true) (plus_zero from) here)
  where
    plus_zero : (k : ℕ) → k ≡ k + 0
    plus_zero k = omega arith
at_from n (y ∷ rest) from (suc q) x all is =
    subst (λ k. stands_here n k x ≡ true) (later from q) (at_from n rest (from + 1) q x (and_parts (stands_here n from y) (all_from n (from + 1) rest) all).1 is)
  where
    later : (k j : ℕ) → k + 1 + j ≡ k + suc j
    later k j = omega arith

empty_is : {X : Type 0} (xs : List X) → is_empty xs ≡ true → xs ≡ []
empty_is [] is = refl
empty_is (x ∷ xs) is = absurd (cc is)

one_is : {X : Type 0} (xs : List X) → is_one xs ≡ true → length xs ≤ 1
one_is [] is = omega arith
one_is (x ∷ []) is = omega arith
one_is (x ∷ y ∷ xs) is = absurd (cc is)

all_has : {X : Type 0} (test : X → Bool) (xs : List X) → list_all test xs ≡ true → (x : X) → Has xs x → test x ≡ true
all_has test [] all x has = absurd has
all_has test (y ∷ ys) all x (inl same) = ap test same ∙ (and_parts (test y) (list_all test ys) all).0
all_has test (y ∷ ys) all x (inr has) = all_has test ys (and_parts (test y) (list_all test ys) all).1 x has

taken_at : (nodes : List NodePart) → list_all (λ (node : NodePart). not node.taken) nodes ≡ true → (serial : ℕ) → (get_or nodes serial no_node).taken ≡ false
taken_at [] all serial = refl
taken_at (node ∷ rest) all zero = not_true node.taken (and_parts (not node.taken) (list_all (λ (node : NodePart). not node.taken) rest) all).0
  where
    not_true : (b : Bool) → not b ≡ true → b ≡ false
    not_true true is = absurd (cc is)
    not_true false is = refl
taken_at (node ∷ rest) all (suc serial) = taken_at rest (and_parts (not node.taken) (list_all (λ (node : NodePart). not node.taken) rest) all).1 serial

range_has : (from n r : ℕ) → from ≤ r → r < from + n → Has (range_with_len from n) r
range_has from zero r low high = absurd (omega (arith, low, high))
range_has from (suc n) r low high = elim (cases_eq r from) [ inl same ↦ inl same | inr apart ↦ inr (range_has (from + 1) n r (omega (arith, low, apart)) (omega (arith, high))) ]

pub below_has : (n r : ℕ) → r < n → Has (below n) r
below_has n r less = range_has 0 n r (omega arith) (omega (arith, less))

ref_is : (r : ℕ) (found : Option NodeRef) → is_ref (record { owner = r; serial = 0 }) found ≡ true → found ≡ Some (record { owner = r; serial = 0 })
ref_is r None is = absurd (cc is)
ref_is r (Some one) is =
    let k = and_parts (one.owner == r) (one.serial == 0) is in
    let owner = eqb-true one.owner r k.0 in
    let serial = eqb-true one.serial 0 k.1 in
    rw (owner, serial) refl

there_is : (q : ℕ) (x : PeerPart) (r : ℕ) → r ≢ q → is_there q x r ≡ true → held_node (handle_at q r) x.handles ≡ Some (record { owner = r; serial = 0 })
there_is q x r apart is = ref_is r (held_node (handle_at q r) x.handles) (other (r == q) (is_ref (record { owner = r; serial = 0 }) (held_node (handle_at q r) x.handles)) (ne_eqb r q apart) is)
  where
    other : (a b : Bool) → a ≡ false → (a || b) ≡ true → b ≡ true
    other true b no_a is = absurd (cc no_a)
    other false b no_a is = is

limits_are : (a b : Limits) → same_limits a b ≡ true → a ≡ b
limits_are a b is =
    let k = and_parts ((a.entries == b.entries) && (a.bytes == b.bytes)) (a.handles == b.handles) is in
    let l = and_parts (a.entries == b.entries) (a.bytes == b.bytes) k.0 in
    let entries = eqb-true a.entries b.entries l.0 in
    let bytes = eqb-true a.bytes b.bytes l.1 in
    let handles = eqb-true a.handles b.handles k.1 in
    limits_by a.entries a.bytes a.handles b.entries b.bytes b.handles entries bytes handles
  where
    limits_by : (i j k l m n : ℕ) → i ≡ l → j ≡ m → k ≡ n → ◌≡◌ {A = Limits} (record { entries = i; bytes = j; handles = k }) (record { entries = l; bytes = m; handles = n })
    limits_by i j k l m n a b c = rw (a, b, c) refl

-- ---- the opening

module _ (number q : ℕ) (x : PeerPart) (is : IsPeer (opening_state (opening_of (peer_count number))) q x) where
  abbrev n : ℕ
  n = peer_count number

  abbrev A : Bool
  A = is_live (node_at x 0).state

  abbrev B : Bool
  B = list_all (λ (node : NodePart). not node.taken) x.nodes

  abbrev C : Bool
  C = list_all (is_there q x) (below n)

  abbrev D : Bool
  D = same_limits x.limits (peer_spec q).limits

  abbrev E : Bool
  E = x.pool == POOL

  abbrev F : Bool
  F = is_empty x.dead

  abbrev G : Bool
  G = is_empty x.queue

  abbrev H : Bool
  H = is_one x.slices

  abbrev I : Bool
  I = list_all is_free x.slices

  abbrev J : Bool
  J = x.clock == 0

  here : stands_here n q x ≡ true
  here = subst (λ k. stands_here n k x ≡ true) (zero-add q) (at_from n (opening_state (opening_of n)).peers 0 q x (opening_stands number) is)

  b : (B && (C && (D && (E && (F && (G && (H && (I && J)))))))) ≡ true
  b = (and_parts A (B && (C && (D && (E && (F && (G && (H && (I && J)))))))) here).1

  c : (C && (D && (E && (F && (G && (H && (I && J))))))) ≡ true
  c = (and_parts B (C && (D && (E && (F && (G && (H && (I && J))))))) b).1

  d : (D && (E && (F && (G && (H && (I && J)))))) ≡ true
  d = (and_parts C (D && (E && (F && (G && (H && (I && J)))))) c).1

  e : (E && (F && (G && (H && (I && J))))) ≡ true
  e = (and_parts D (E && (F && (G && (H && (I && J))))) d).1

  f : (F && (G && (H && (I && J)))) ≡ true
  f = (and_parts E (F && (G && (H && (I && J)))) e).1

  g : (G && (H && (I && J))) ≡ true
  g = (and_parts F (G && (H && (I && J))) f).1

  h : (H && (I && J)) ≡ true
  h = (and_parts G (H && (I && J)) g).1

  i : (I && J) ≡ true
  i = (and_parts H (I && J) h).1

  pub stands : Stands n q x
  stands = record {
    live = (and_parts A (B && (C && (D && (E && (F && (G && (H && (I && J)))))))) here).0;
    taken = taken_at x.nodes (and_parts B (C && (D && (E && (F && (G && (H && (I && J))))))) b).0;
    held = λ r less apart. there_is q x r apart (all_has (is_there q x) (below n) (and_parts C (D && (E && (F && (G && (H && (I && J)))))) c).0 r (below_has n r less));
    limits = limits_are x.limits (peer_spec q).limits (and_parts D (E && (F && (G && (H && (I && J))))) d).0;
    pool = eqb-true x.pool POOL (and_parts E (F && (G && (H && (I && J)))) e).0;
    dead = empty_is x.dead (and_parts F (G && (H && (I && J))) f).0;
  }

  pub fresh : IsFresh x
  fresh = record {
    queue = empty_is x.queue (and_parts G (H && (I && J)) g).0;
    pieces = one_is x.slices (and_parts H (I && J) h).0;
    slices = all_has is_free x.slices (and_parts I J i).0;
    clock = eqb-true x.clock 0 (and_parts I J i).1;
  }
