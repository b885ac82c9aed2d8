-- What keeps the list of vacant places right.
use Rattle.std.proofs.Common.{◌≡◌, ◌≢◌, refl, sym, ap, ◌∙◌, inl, inr, subst, ℕ, zero, suc, ◌+◌, ◌<◌, ◌≤◌, cond, List, [], ◌∷◌, ◌++◌, length, length-append, get_or, set, Option, Some, None, IsSome, is_some, arith}
use Rattle.std.specs.Prelude.{All, AllPairs, count_by}
use Rattle.std.proofs.lemmas.Bool.{cases_lt}
use Rattle.std.proofs.lemmas.List.{get_or-set_other, get_or-set_same, get_or_past, get_or_append_left, length-set}
use Rattle.std.proofs.lemmas.List.Elements.{All-append, All-cons, All-nil}
use Rattle.std.proofs.lemmas.List.Sums.{sum_by-set}
use Rattle.std.proofs.lemmas.List.Quantifiers.{all_pairs_push}
use Rattle.b1_model.specs.declared.entries.Entry.{Entry}
use Rattle.b1_entry.specs.Table.{entry_at}
use Rattle.b1_entry.specs.Places.{AreVacant}

abbrev Slots : Type 0
Slots = List (Option Entry)

-- the first of two lists
module _ {X : Type 0} where
  all_left : (P : X → Type 0) (xs ys : List X) → All P (xs ++ ys) → All P xs
  all_left P xs ys h k d lt = subst P (get_or_append_left xs ys d k lt) (h k d (omega (arith, length-append xs ys, lt)))

  pairs_left : (R : X → X → Type 0) (xs ys : List X) → AllPairs R (xs ++ ys) → AllPairs R xs
  pairs_left R [] ys h i j d lt within = absurd (omega arith)
  pairs_left R (x ∷ xs) ys h zero zero d lt within = absurd (omega arith)
  pairs_left R (x ∷ xs) ys h (suc i) zero d lt within = absurd (omega arith)
  pairs_left R (x ∷ xs) ys h zero (suc j) d lt within =
      subst (λ (y : X). R x y) (get_or_append_left xs ys d j (omega arith)) (h 0 (suc j) d (omega arith) (omega (arith, length-append xs ys, within)))
  pairs_left R (x ∷ xs) ys h (suc i) (suc j) d lt within =
      pairs_left R xs ys (λ a b e less inside. h (suc a) (suc b) e (omega (arith, less)) (omega (arith, inside))) i j d (omega (arith, lt)) (omega (arith, within))

  last_apart : (xs : List X) (y : X) → AllPairs ◌≢◌ (xs ++ y ∷ []) → All (λ x. x ≢ y) xs
  last_apart [] y h k d lt = absurd (omega arith)
  last_apart (x ∷ xs) y h zero d lt = λ same. h 0 (suc (length xs)) d (omega arith) (omega (arith, length-append xs (y ∷ []))) (same ∙ sym (last_read xs))
    where
      last_read : (zs : List X) → get_or (zs ++ y ∷ []) (length zs) d ≡ y
      last_read [] = refl
      last_read (z ∷ zs) = last_read zs
  last_apart (x ∷ xs) y h (suc k) d lt =
      last_apart xs y (λ a b e less inside. h (suc a) (suc b) e (omega (arith, less)) (omega (arith, inside))) k d (omega arith)

-- how many have an entry where one place is written
count_set : (slots : Slots) (i : ℕ) (new : Option Entry) → i < length slots → count_by is_some (set slots i new) + (cond (is_some (get_or slots i None)) 1 0) ≡ count_by is_some slots + (cond (is_some new) 1 0)
count_set slots i new within = sum_by-set (λ (o : Option Entry). cond (is_some o) 1 0) slots i new None within

-- a place with an entry is one of them
pub filled_within : (slots : Slots) (place : ℕ) → IsSome (entry_at slots place) → place < length slots
filled_within slots place there =
    elim (cases_lt place (length slots)) [
      | inl within ↦ within
      | inr past ↦ let e = rw (get_or_past slots place None past) at there in absurd (cc e)
    ]

module _ (slots : Slots) (vacant : List ℕ) (capacity : ℕ) (h : AreVacant slots vacant capacity) where
  -- an entry comes to the last vacant place
  pub vacant_put : (rest : List ℕ) (place : ℕ) (entry : Entry) (room : ℕ) → vacant ≡ rest ++ place ∷ [] → room ≡ capacity → AreVacant (set slots place (Some entry)) rest room
  vacant_put rest place entry room is same =
      let within = rw is at h.within in
      let empty = rw is at h.empty in
      let distinct = rw is at h.distinct in
      let at : place < length slots = last_holds rest (λ p. p < length slots) within in
      let none : entry_at slots place ≡ None = last_holds rest (λ p. entry_at slots p ≡ None) empty in
      let count = rw none at (count_set slots place (Some entry) at) in
      record {
        fits = rw (length-set slots place (Some entry)) (omega (arith, h.fits, same));
        within = rw (length-set slots place (Some entry)) (all_left (λ p. p < length slots) rest (place ∷ []) within);
        empty = λ k d lt. get_or-set_other slots place (get_or rest k d) (Some entry) None (last_apart rest place distinct k d lt) ∙ all_left (λ p. entry_at slots p ≡ None) rest (place ∷ []) empty k d lt;
        distinct = pairs_left ◌≢◌ rest (place ∷ []) distinct;
        all = rw (length-set slots place (Some entry)) (omega (arith, count, h.all, ap length is, length-append rest (place ∷ [])));
      }
    where
      last_holds : (zs : List ℕ) (P : ℕ → Type 0) → All P (zs ++ place ∷ []) → P place
      last_holds [] P all = all 0 0 (omega arith)
      last_holds (z ∷ zs) P all = last_holds zs P (λ k d lt. all (suc k) d (omega (arith, lt)))

  module _ (place : ℕ) (there : IsSome (entry_at slots place)) where
    at : place < length slots
    at = filled_within slots place there

    apart : All (λ p. p ≢ place) vacant
    apart k d lt same = let e = rw (ap (entry_at slots) (sym same) ∙ h.empty k d lt) at there in cc e

    -- there is room for one more vacant place
    pub vacant_room : length vacant < capacity
    vacant_room = let count = rw there at (count_set slots place None at) in omega (arith, count, h.all, h.fits)

    -- an entry leaves
    pub vacant_removed : (more : List ℕ) (room : ℕ) → more ≡ vacant ++ place ∷ [] → capacity ≤ room → AreVacant (set slots place None) more room
    vacant_removed more room is fits =
        let count = rw there at (count_set slots place None at) in
        let nothing : Option Entry = None in
        record {
          fits = rw (length-set slots place nothing) (omega (arith, h.fits, fits));
          within = rw (is, length-set slots place nothing) (All-append (λ p. p < length slots) vacant (place ∷ []) h.within (All-cons (λ p. p < length slots) place [] at (All-nil (λ p. p < length slots))));
          empty = rw is (All-append (λ p. entry_at (set slots place None) p ≡ None) vacant (place ∷ [])
              (λ k d lt. get_or-set_other slots place (get_or vacant k d) None None (apart k d lt) ∙ h.empty k d lt)
              (All-cons (λ p. entry_at (set slots place None) p ≡ None) place [] (get_or-set_same slots place None None at) (All-nil (λ p. entry_at (set slots place None) p ≡ None))));
          distinct = rw is (all_pairs_push ◌≢◌ vacant place h.distinct apart);
          all = rw (is, length-set slots place nothing, length-append vacant (place ∷ [])) (omega (arith, count, h.all));
        }

    -- an entry is written
    pub vacant_written : (entry : Entry) → AreVacant (set slots place (Some entry)) vacant capacity
    vacant_written entry =
        let count = rw there at (count_set slots place (Some entry) at) in
        record {
          fits = rw (length-set slots place (Some entry)) h.fits;
          within = rw (length-set slots place (Some entry)) h.within;
          empty = λ k d lt. get_or-set_other slots place (get_or vacant k d) (Some entry) None (apart k d lt) ∙ h.empty k d lt;
          distinct = h.distinct;
          all = rw (length-set slots place (Some entry)) (omega (arith, count, h.all));
        }
