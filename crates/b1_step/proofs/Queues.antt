-- The queue: what an entry that comes in and entries that leave make of its elements, its tests and its sums.
use Rattle.std.proofs.Common.{◌≡◌, ◌⊎◌, refl, sym, ap, ◌∙◌, inl, inr, ℕ, ◌+◌, Bool, true, false, cond, ◌||◌, not, List, [], ◌∷◌, filter, sum_by}
use Rattle.std.specs.List.{list_any}
use Rattle.std.proofs.lemmas.List.Sums.{sum_by-cons}
use native.Mathlib.Omega.{arith}
use Rattle.b1_model.specs.declared.naming.Key.{Key}
use Rattle.b1_model.specs.declared.entries.Entry.{Entry}
use Rattle.b1_model.specs.MachineParts.{key_before}
use Rattle.b1_model.specs.MachineTables.{put, put_all, without}
use Rattle.b1_step.specs.Rights.{Has}
use Rattle.b1_step.proofs.Lists.{has_filter, filter_has}

abbrev Items : Type 0
Items = List (Key × Entry)

-- ---- elements

-- what comes in is there, and what was there stays
pub has_put_new : (k : Key) (e : Entry) (queue : Items) → Has (put k e queue) (k, e)
has_put_new k e [] = inl refl
has_put_new k e (f ∷ rest) = elim (key_before k f.0) as (λ b. Has (cond b ((k, e) ∷ f ∷ rest) (f ∷ put k e rest)) (k, e)) [ true ↦ inl refl | false ↦ inr (has_put_new k e rest) ]

pub has_put_old : (k : Key) (e : Entry) (queue : Items) (x : Key × Entry) → Has queue x → Has (put k e queue) x
has_put_old k e [] x h = absurd h
has_put_old k e (f ∷ rest) x h = elim (key_before k f.0) as (λ b. Has (cond b ((k, e) ∷ f ∷ rest) (f ∷ put k e rest)) x) [ true ↦ inr h | false ↦ elim h [ inl same ↦ inl same | inr further ↦ inr (has_put_old k e rest x further) ] ]

-- nothing else is there
pub put_has : (k : Key) (e : Entry) (queue : Items) (x : Key × Entry) → Has (put k e queue) x → (x ≡ (k, e)) ⊎ Has queue x
put_has k e [] x h = elim h [ inl same ↦ inl same | inr further ↦ absurd further ]
put_has k e (f ∷ rest) x h = placed (put_has k e rest x) (key_before k f.0) h
  where
    placed : (Has (put k e rest) x → (x ≡ (k, e)) ⊎ Has rest x) → (b : Bool) → Has (cond b ((k, e) ∷ f ∷ rest) (f ∷ put k e rest)) x → (x ≡ (k, e)) ⊎ Has (f ∷ rest) x
    placed further true (inl same) = inl same
    placed further true (inr old) = inr old
    placed further false (inl same) = inr (inl same)
    placed further false (inr old) = elim (further old) [ inl same ↦ inl same | inr older ↦ inr (inr older) ]

pub has_put_all_old : (more queue : Items) (x : Key × Entry) → Has queue x → Has (put_all more queue) x
has_put_all_old [] queue x h = h
has_put_all_old (f ∷ rest) queue x h = has_put_old f.0 f.1 (put_all rest queue) x (has_put_all_old rest queue x h)

pub put_all_has : (more queue : Items) (x : Key × Entry) → Has (put_all more queue) x → Has more x ⊎ Has queue x
put_all_has [] queue x h = inr h
put_all_has (f ∷ rest) queue x h =
    elim (put_has f.0 f.1 (put_all rest queue) x h) [
      | inl same ↦ inl (inl same)
      | inr further ↦ elim (put_all_has rest queue x further) [ inl new ↦ inl (inr new) | inr old ↦ inr old ]
    ]

-- what doesn't pass stays when those that pass leave, and what stays was there and doesn't pass
pub has_without : (test : Key × Entry → Bool) (queue : Items) (x : Key × Entry) → Has queue x → test x ≡ false → Has (without test queue) x
has_without test queue x h fails = has_filter (λ f. not (test f)) queue x h (ap not fails)

pub without_has : (test : Key × Entry → Bool) (queue : Items) (x : Key × Entry) → Has (without test queue) x → Has queue x
without_has test queue x h = (filter_has (λ f. not (test f)) queue x h).0

-- ---- tests

-- some entry passes after one came in exactly where that one does or one did before
pub any_put : (test : Key × Entry → Bool) (k : Key) (e : Entry) (queue : Items) → list_any test (put k e queue) ≡ (test (k, e) || list_any test queue)
any_put test k e [] = refl
any_put test k e (f ∷ rest) =
    elim (key_before k f.0) as (λ b. list_any test (cond b ((k, e) ∷ f ∷ rest) (f ∷ put k e rest)) ≡ (test (k, e) || (test f || list_any test rest))) [
      | true ↦ refl
      | false ↦ ap (λ b. test f || b) (any_put test k e rest) ∙ exchanged (test f) (test (k, e)) (list_any test rest)
    ]
  where
    exchanged : (a b c : Bool) → (a || (b || c)) ≡ (b || (a || c))
    exchanged true true c = refl
    exchanged true false c = refl
    exchanged false true c = refl
    exchanged false false c = refl

-- none passes after those that pass left
pub any_without : (test : Key × Entry → Bool) (queue : Items) → list_any test (without test queue) ≡ false
any_without test [] = refl
any_without test (f ∷ rest) = left (any_without test rest) (test f) refl
  where
    left : list_any test (without test rest) ≡ false → (b : Bool) → test f ≡ b → list_any test (cond (not b) (f ∷ without test rest) (without test rest)) ≡ false
    left further true is = further
    left further false is = rw is further

-- ---- sums

-- a sum over a queue, where an entry comes in
pub sum_put : (f : Key × Entry → ℕ) (k : Key) (e : Entry) (queue : Items) → sum_by f (put k e queue) ≡ f (k, e) + sum_by f queue
sum_put f k e [] = sum_by-cons f (k, e) []
sum_put f k e (g ∷ rest) =
    elim (key_before k g.0) as (λ b. sum_by f (cond b ((k, e) ∷ g ∷ rest) (g ∷ put k e rest)) ≡ f (k, e) + sum_by f (g ∷ rest)) [
      | true ↦ sum_by-cons f (k, e) (g ∷ rest)
      | false ↦ let one = sum_put f k e rest in let two = sum_by-cons f g (put k e rest) in let three = sum_by-cons f g rest in omega (arith, one, two, three)
    ]

pub sum_put_all : (f : Key × Entry → ℕ) (more queue : Items) → sum_by f (put_all more queue) ≡ sum_by f more + sum_by f queue
sum_put_all f [] queue = sym (zero_plus (sum_by f queue))
  where
    zero_plus : (n : ℕ) → 0 + n ≡ n
    zero_plus n = omega arith
sum_put_all f (g ∷ rest) queue = let one = sum_put f g.0 g.1 (put_all rest queue) in let two = sum_put_all f rest queue in let three = sum_by-cons f g rest in omega (arith, one, two, three)

-- what leaves and what stays sum up to the whole
pub sum_without : (f : Key × Entry → ℕ) (test : Key × Entry → Bool) (queue : Items) → sum_by f (without test queue) + sum_by f (filter test queue) ≡ sum_by f queue
sum_without f test [] = refl
sum_without f test (g ∷ rest) = split (sum_without f test rest) (test g) refl
  where
    split : sum_by f (without test rest) + sum_by f (filter test rest) ≡ sum_by f rest → (b : Bool) → test g ≡ b → sum_by f (cond (not b) (g ∷ without test rest) (without test rest)) + sum_by f (cond b (g ∷ filter test rest) (filter test rest)) ≡ sum_by f (g ∷ rest)
    split one true is = let two = sum_by-cons f g (filter test rest) in let three = sum_by-cons f g rest in omega (arith, one, two, three)
    split one false is = let two = sum_by-cons f g (without test rest) in let three = sum_by-cons f g rest in omega (arith, one, two, three)
