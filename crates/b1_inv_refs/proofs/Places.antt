-- Own numbers and serials, where nodes are made and counted; and two parts of a list that change.
use Rattle.std.proofs.Common.{◌≡◌, refl, sym, ap, ◌∙◌, subst, ℕ, zero, suc, ◌+◌, ◌<◌, ◌≤◌, ◌==◌, Bool, true, false, cond, not, nat_lt, List, [], ◌∷◌, ◌++◌, get_or, set, length, position, replicate, Option, Some, None}
use Rattle.std.specs.Prelude.{slice_get}
use Rattle.std.specs.List.{position_or_len}
use Rattle.std.proofs.lemmas.Bool.{ltb-true, ltb-false, lt-ltb, eqb-true, eq-eqb}
use Rattle.std.proofs.lemmas.List.Sums.{passes_at_first}
use Rattle.std.proofs.lemmas.List.{length-append, length-set}
use native.Mathlib.Omega.{arith}
use Rattle.b1_model.specs.declared.parts.NodeState.TheVariants.{Live}
use Rattle.b1_model.specs.MachineParts.{PeerPart, no_node}
use Rattle.b1_model.specs.MachineTables.{serial_of, with_made, with_node, counted}
use Rattle.b1_model.specs.MachineStep.{no_peer}
use Rattle.b1_inv_refs.proofs.Counts.{Nodes}

-- ---- the first place that passes

module _ {X : Type 0} (test : X → Bool) where
  first : List X → ℕ
  first xs = position_or_len test xs

  pub found_at : (xs : List X) (i : ℕ) → position test xs ≡ Some i → (position_or_len test xs ≡ i) × (i < length xs)
  found_at xs i is = at (nat_lt (position_or_len test xs) (length xs)) refl is
    where
      at : (b : Bool) → nat_lt (position_or_len test xs) (length xs) ≡ b → cond b (Some (position_or_len test xs)) None ≡ Some i → (position_or_len test xs ≡ i) × (i < length xs)
      at true less here = let same : position_or_len test xs ≡ i = cc here in (same, let l = ltb-true _ _ less in omega (arith, l, same))
      at false less here = absurd (cc here)

  pub found_from : (xs : List X) (i : ℕ) → position_or_len test xs ≡ i → i < length xs → position test xs ≡ Some i
  found_from xs i same less = let inside : nat_lt (position_or_len test xs) (length xs) ≡ true = lt-ltb _ _ (omega (arith, same, less)) in rw inside (ap Some same)

  pub found_passes : (xs : List X) (i : ℕ) (d : X) → position test xs ≡ Some i → test (get_or xs i d) ≡ true
  found_passes xs i d is =
      let k = found_at xs i is in
      subst (λ n. test (get_or xs n d) ≡ true) k.0 (passes_at_first test xs d (let s = k.0 in let l = k.1 in omega (arith, s, l)))

  -- what is found stays, where more comes behind
  before_more : (xs ys : List X) → position_or_len test xs < length xs → position_or_len test (xs ++ ys) ≡ position_or_len test xs
  before_more [] ys less = absurd (omega (arith, less))
  before_more (x ∷ xs) ys less = at (test x) (before_more xs ys) less
    where
      at : (b : Bool) → (position_or_len test xs < length xs → position_or_len test (xs ++ ys) ≡ position_or_len test xs) → cond (not b) (1 + position_or_len test xs) 0 < suc (length xs) → cond (not b) (1 + position_or_len test (xs ++ ys)) 0 ≡ cond (not b) (1 + position_or_len test xs) 0
      at true further inside = refl
      at false further inside = ap (λ n. 1 + n) (further (omega (arith, inside)))

  pub found_more : (xs ys : List X) (i : ℕ) → position test xs ≡ Some i → position test (xs ++ ys) ≡ Some i
  found_more xs ys i is =
      let k = found_at xs i is in
      let inside : position_or_len test xs < length xs = (let s = k.0 in let l = k.1 in omega (arith, s, l)) in
      found_from (xs ++ ys) i (before_more xs ys inside ∙ k.0) (let m = length-append xs ys in let l = k.1 in omega (arith, m, l))

  last_one : (xs : List X) (x : X) → length xs ≤ position_or_len test xs → test x ≡ true → position_or_len test (xs ++ x ∷ []) ≡ length xs
  last_one [] x past is = rw is refl
  last_one (y ∷ xs) x past is = at (test y) (last_one xs x) past
    where
      at : (b : Bool) → (length xs ≤ position_or_len test xs → test x ≡ true → position_or_len test (xs ++ x ∷ []) ≡ length xs) → suc (length xs) ≤ cond (not b) (1 + position_or_len test xs) 0 → cond (not b) (1 + position_or_len test (xs ++ x ∷ [])) 0 ≡ suc (length xs)
      at true further inside = absurd (omega (arith, inside))
      at false further inside = let k = further (omega (arith, inside)) is in omega (arith, k)

  -- none is found only where the first place is the end
  pub found_last : (xs : List X) (x : X) → position test xs ≡ None → test x ≡ true → position test (xs ++ x ∷ []) ≡ Some (length xs)
  found_last xs x none is =
      let past : length xs ≤ position_or_len test xs = at (nat_lt (position_or_len test xs) (length xs)) refl none in
      found_from (xs ++ x ∷ []) (length xs) (last_one xs x past is) (let m = length-append xs (x ∷ []) in omega (arith, m))
    where
      at : (b : Bool) → nat_lt (position_or_len test xs) (length xs) ≡ b → cond b (Some (position_or_len test xs)) None ≡ None → length xs ≤ position_or_len test xs
      at true less here = absurd (cc here)
      at false less here = ltb-false _ _ less

  -- an update that keeps the test keeps the place
  same_first : (xs : List X) (i : ℕ) (y d : X) → test y ≡ test (get_or xs i d) → position_or_len test (set xs i y) ≡ position_or_len test xs
  same_first [] i y d same = refl
  same_first (x ∷ xs) zero y d same = ap (λ b. cond (not b) (1 + position_or_len test xs) 0) same
  same_first (x ∷ xs) (suc i) y d same = ap (λ n. cond (not (test x)) (1 + n) 0) (same_first xs i y d same)

  pub found_set : (xs : List X) (i : ℕ) (y d : X) (j : ℕ) → test y ≡ test (get_or xs i d) → position test xs ≡ Some j → position test (set xs i y) ≡ Some j
  found_set xs i y d j same is =
      let k = found_at xs j is in
      found_from (set xs i y) j (same_first xs i y d same ∙ k.0) (let l = length-set xs i y in let m = k.1 in omega (arith, l, m))

-- ---- serials

-- one serial has one number
pub one_number : (nodes : Nodes) (serial m n : ℕ) → serial_of m nodes ≡ Some serial → serial_of n nodes ≡ Some serial → m ≡ n
one_number nodes serial m n is_m is_n =
    sym (eqb-true (get_or nodes serial no_node).number m (found_passes (λ z. z.number == m) nodes serial no_node is_m))
    ∙ eqb-true (get_or nodes serial no_node).number n (found_passes (λ z. z.number == n) nodes serial no_node is_n)

pub serial_within : (nodes : Nodes) (serial m : ℕ) → serial_of m nodes ≡ Some serial → serial < length nodes
serial_within nodes serial m is = (found_at (λ z. z.number == m) nodes serial is).1

-- a number keeps its serial where another is made, or a count rises
pub serial_made : (peers number m serial : ℕ) (nodes : Nodes) → serial_of m nodes ≡ Some serial → serial_of m (with_made peers number nodes) ≡ Some serial
serial_made peers number m serial nodes is = at (serial_of number nodes)
  where
    at : (found : Option ℕ) → serial_of m (elim found [ None ↦ nodes ++ record { number = number; state = Live; counts = replicate peers 0; taken = false } ∷ [] | Some one ↦ nodes ]) ≡ Some serial
    at None = found_more (λ z. z.number == m) nodes _ serial is
    at (Some one) = is

pub serial_counted : (peer one m serial : ℕ) (nodes : Nodes) → serial_of m nodes ≡ Some serial → serial_of m (with_node one (counted peer) nodes) ≡ Some serial
serial_counted peer one m serial nodes is = found_set (λ z. z.number == m) nodes one (counted peer (get_or nodes one no_node)) no_node serial refl is

-- what is made has a serial
pub made_serial : (peers number : ℕ) (nodes : Nodes) → (serial : ℕ) × (serial_of number (with_made peers number nodes) ≡ Some serial)
made_serial peers number nodes = at (serial_of number nodes) refl
  where
    at : (found : Option ℕ) → serial_of number nodes ≡ found → (serial : ℕ) × (serial_of number (elim found [ None ↦ nodes ++ record { number = number; state = Live; counts = replicate peers 0; taken = false } ∷ [] | Some one ↦ nodes ]) ≡ Some serial)
    at None is = (length nodes, found_last (λ z. z.number == number) nodes (record { number = number; state = Live; counts = replicate peers 0; taken = false }) is (eq-eqb number number refl))
    at (Some one) is = (one, is)

-- ---- parts

pub part_there : (xs : List PeerPart) (i : ℕ) → i < length xs → slice_get xs i ≡ Some (get_or xs i no_peer)
part_there [] i less = absurd (omega (arith, less))
part_there (x ∷ xs) zero less = refl
part_there (x ∷ xs) (suc i) less = part_there xs i (omega (arith, less))

pub part_read : (xs : List PeerPart) (i : ℕ) (x : PeerPart) → slice_get xs i ≡ Some x → get_or xs i no_peer ≡ x
part_read [] i x is = absurd (cc is)
part_read (y ∷ xs) zero x is = cc is
part_read (y ∷ xs) (suc i) x is = part_read xs i x is
