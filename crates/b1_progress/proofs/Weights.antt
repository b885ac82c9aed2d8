-- Sums over queues and lists, where entries come in, leave, or change.
use Rattle.std.proofs.Common.{◌≡◌, refl, arith, ℕ, ◌+◌, ◌≤◌, Bool, true, false, cond, not, List, [], ◌∷◌, ◌++◌, length, filter, filter_map, zip, Option}
use Rattle.b1_model.specs.declared.naming.Key.{Key}
use Rattle.b1_model.specs.declared.naming.NodeRef.{NodeRef}
use Rattle.b1_model.specs.declared.entries.Entry.{Entry}
use Rattle.b1_model.specs.MachineParts.{HandleRecord, key_before}
use Rattle.b1_progress.specs.Work.{total_of}
use Rattle.b1_model.specs.MachineTables.{put, put_all, changed, more_flight, less_flight, changed_or_made, expected, unexpected}

module _ (w : Key × Entry → ℕ) where
  pub sum_put : (k : Key) (e : Entry) (queue : List (Key × Entry)) → total_of w (put k e queue) ≡ w (k, e) + total_of w queue
  sum_put k e [] = refl
  sum_put k e (f ∷ rest) = by_order (key_before k f.0) (sum_put k e rest)
    where
      by_order : (b : Bool) → total_of w (put k e rest) ≡ w (k, e) + total_of w rest → total_of w (cond b ((k, e) ∷ f ∷ rest) (f ∷ put k e rest)) ≡ w (k, e) + (w f + total_of w rest)
      by_order true ih = refl
      by_order false ih = omega (arith, ih)

  pub sum_put_all : (more queue : List (Key × Entry)) → total_of w (put_all more queue) ≡ total_of w more + total_of w queue
  sum_put_all [] queue = omega arith
  sum_put_all (f ∷ more) queue = omega (arith, sum_put f.0 f.1 (put_all more queue), sum_put_all more queue)

-- what passes a test, and what doesn't
pub sum_parts : {X : Type 0} (w : X → ℕ) (test : X → Bool) (xs : List X) → total_of w (filter test xs) + total_of w (filter (λ x. not (test x)) xs) ≡ total_of w xs
sum_parts w test [] = refl
sum_parts w test (x ∷ xs) = by_test (test x) (sum_parts w test xs)
  where
    by_test : (b : Bool) → total_of w (filter test xs) + total_of w (filter (λ y. not (test y)) xs) ≡ total_of w xs → total_of w (cond b (x ∷ filter test xs) (filter test xs)) + total_of w (cond (not b) (x ∷ filter (λ y. not (test y)) xs) (filter (λ y. not (test y)) xs)) ≡ w x + total_of w xs
    by_test true ih = omega (arith, ih)
    by_test false ih = omega (arith, ih)

pub sum_append : {X : Type 0} (w : X → ℕ) (xs ys : List X) → total_of w (xs ++ ys) ≡ total_of w xs + total_of w ys
sum_append w [] ys = omega arith
sum_append w (x ∷ xs) ys = omega (arith, sum_append w xs ys)

pub filter_map_length : {X Y : Type 0} (f : X → Option Y) (xs : List X) → length (filter_map f xs) ≤ length xs
filter_map_length f [] = omega arith
filter_map_length f (x ∷ xs) = let ih = filter_map_length f xs in grind arith

pub zip_length : {X Y : Type 0} (xs : List X) (ys : List Y) → length (zip xs ys) ≤ length xs
zip_length [] ys = omega arith
zip_length (x ∷ xs) [] = omega arith
zip_length (x ∷ xs) (y ∷ ys) = omega (arith, zip_length xs ys)

-- ---- handle records

pub changed_length : (node : NodeRef) (f : HandleRecord → HandleRecord) (handles : List HandleRecord) → length (changed node f handles) ≤ length handles
changed_length node f [] = omega arith
changed_length node f (h ∷ rest) = let ih = changed_length node f rest in grind arith

pub made_length : (node : NodeRef) (f : HandleRecord → HandleRecord) (handles : List HandleRecord) → length (changed_or_made node f handles) ≤ length handles + 1
made_length node f [] = omega arith
made_length node f (h ∷ rest) = let ih = made_length node f rest in grind arith

pub expected_length : (nodes : List NodeRef) (handles : List HandleRecord) → length (expected nodes handles) ≤ length handles + length nodes
expected_length [] handles = omega arith
expected_length (node ∷ nodes) handles = omega (arith, expected_length nodes (changed_or_made node more_flight handles), made_length node more_flight handles)

pub unexpected_length : (nodes : List NodeRef) (handles : List HandleRecord) → length (unexpected nodes handles) ≤ length handles
unexpected_length [] handles = omega arith
unexpected_length (node ∷ nodes) handles = omega (arith, unexpected_length nodes (changed node less_flight handles), changed_length node less_flight handles)
