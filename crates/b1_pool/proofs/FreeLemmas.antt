use Rattle.std.proofs.Common.{◌≡◌, ◌==◌, ℕ, zero, suc, ◌+◌, ◌-◌, ◌<◌, ◌≤◌, true, false, List, [], ◌∷◌, ◌++◌, Some, None, length, take, drop, refl, sym, ap, ◌∙◌, arith, inl, inr, set}
use Rattle.std.specs.Prelude.{slice_get, filter, insert, remove}
use Rattle.std.proofs.lemmas.Bool.{cases_Bool}
use Rattle.std.proofs.lemmas.Option.{same_Some}
use Rattle.b1_pool.specs.declared.slices.Slice.{Slice}
use Rattle.b1_pool.specs.declared.slices.SliceState.TheVariants.{Free, Unpublished}
use Rattle.b1_pool.specs.Slices.{is_free, whole}
use Rattle.b1_pool.specs.Places.{free_before, joined_at, freed_at, IsFreePair, IsPlace}
use Rattle.b1_pool.specs.Slices.{published, begins, is_unpublished, slice_at, divided, with_alloc}
use Rattle.b1_pool.proofs.PlaceLemmas.{replaced_at-place}
use Rattle.b1_pool.proofs.PoolLemmas.{unpublished_is_used}
use Rattle.b1_pool.proofs.OrderLemmas.{place-found}
use Rattle.std.proofs.Common.{add-one}
use Rattle.b1_pool.proofs.SliceLemmas.{joined_at-nil}

pub free-least : (xs : List Slice) → length (filter is_free xs) ≤ length xs
free-least [] = omega arith
free-least (x ∷ xs) =
    let rest = free-least xs in
    elim (cases_Bool (is_free x)) [
      | inl free ↦ rw free (omega (arith, rest))
      | inr used ↦ rw used (omega (arith, rest))
    ]

-- where one is in use, fewer are free
pub free-fewer : (xs : List Slice) (i : ℕ) (s : Slice) → slice_get xs i ≡ Some s → is_free s ≡ false → length (filter is_free xs) < length xs
free-fewer [] i s found used = absurd (let e : None ≡ Some s = found in cc)
free-fewer (x ∷ xs) zero s found used = let same = same_Some x s found in rw (same, used) (omega (arith, free-least xs))
free-fewer (x ∷ xs) (suc i) s found used =
    let rest = free-fewer xs i s found used in
    elim (cases_Bool (is_free x)) [
      | inl free ↦ rw free (omega (arith, rest))
      | inr taken ↦ rw taken (omega (arith, rest))
    ]

-- the free slice at a place is one of the free ones
pub free_before-within : (xs : List Slice) (i : ℕ) (s : Slice) → slice_get xs i ≡ Some s → is_free s ≡ true → free_before i xs < length (filter is_free xs)
free_before-within [] i s found is = absurd (let e : None ≡ Some s = found in cc)
free_before-within (x ∷ xs) zero s found is = let same = same_Some x s found in rw (same, is) (omega arith)
free_before-within (x ∷ xs) (suc i) s found is =
    let rest = free_before-within xs i s found is in
    elim (cases_Bool (is_free x)) [
      | inl free ↦ rw free (omega (arith, rest))
      | inr taken ↦ rw taken rest
    ]

pub free_before-le : (xs : List Slice) (i : ℕ) → free_before i xs ≤ length (filter is_free xs)
free_before-le [] zero = omega arith
free_before-le [] (suc i) = omega arith
free_before-le (x ∷ xs) zero = omega arith
free_before-le (x ∷ xs) (suc i) =
    let rest = free_before-le xs i in
    elim (cases_Bool (is_free x)) [
      | inl free ↦ rw free (omega (arith, rest))
      | inr taken ↦ rw taken rest
    ]

-- one more place
pub free_before-more : (xs : List Slice) (i : ℕ) (s : Slice) → slice_get xs i ≡ Some s → is_free s ≡ true → free_before (suc i) xs ≡ suc (free_before i xs)
free_before-more [] i s found is = absurd (let e : None ≡ Some s = found in cc)
free_before-more (x ∷ xs) zero s found is = let same = same_Some x s found in rw (same, is) refl
free_before-more (x ∷ xs) (suc i) s found is =
    let rest = free_before-more xs i s found is in
    elim (cases_Bool (is_free x)) [
      | inl free ↦ rw free (ap suc rest)
      | inr taken ↦ rw taken rest
    ]

pub free_before-used : (xs : List Slice) (i : ℕ) (s : Slice) → slice_get xs i ≡ Some s → is_free s ≡ false → free_before (suc i) xs ≡ free_before i xs
free_before-used [] i s found is = absurd (let e : None ≡ Some s = found in cc)
free_before-used (x ∷ xs) zero s found is = let same = same_Some x s found in rw (same, is) refl
free_before-used (x ∷ xs) (suc i) s found is =
    let rest = free_before-used xs i s found is in
    elim (cases_Bool (is_free x)) [
      | inl free ↦ rw free (ap suc rest)
      | inr taken ↦ rw taken rest
    ]

take-freed_at : (i : ℕ) (xs : List Slice) → take i (freed_at i xs) ≡ take i xs
take-freed_at i [] = refl
take-freed_at zero (x ∷ xs) = refl
take-freed_at (suc i) (x ∷ xs) = ap (λ r. x ∷ r) (take-freed_at i xs)

take-joined_at : (i : ℕ) (xs : List Slice) → take i (joined_at i xs) ≡ take i xs
take-joined_at i [] = ap (take i) (joined_at-nil i)
take-joined_at zero (x ∷ xs) = refl
take-joined_at (suc i) (x ∷ xs) = ap (λ r. x ∷ r) (take-joined_at i xs)

-- what stands before a slice stays when that is freed and joined with the one behind it
pub free_before-given : (i : ℕ) (xs : List Slice) → free_before i (joined_at i (freed_at i xs)) ≡ free_before i xs
free_before-given i xs = ap (λ ys. length (filter is_free ys)) (take-joined_at i (freed_at i xs) ∙ take-freed_at i xs)

-- the slice at a place is freed and joined with the free one behind it
pub free-freed_joined : (xs : List Slice) (i : ℕ) (s t : Slice) → slice_get xs i ≡ Some s → is_free s ≡ false → slice_get xs (suc i) ≡ Some t → is_free t ≡ true → set (filter is_free xs) (free_before i xs) (whole (record s { state = Free }) t) ≡ filter is_free (joined_at i (freed_at i xs))
free-freed_joined [] i s t at_i used at_next free = absurd (let e : None ≡ Some s = at_i in cc)
free-freed_joined (x ∷ []) zero s t at_i used at_next free = absurd (let e : None ≡ Some t = at_next in cc)
free-freed_joined (x ∷ y ∷ ys) zero s t at_i used at_next free = rw (same_Some x s at_i, same_Some y t at_next) (rw (used, free) refl)
free-freed_joined (x ∷ xs) (suc i) s t at_i used at_next free =
    let rest = free-freed_joined xs i s t at_i used at_next free in
    elim (cases_Bool (is_free x)) [
      | inl here ↦ rw here (ap (λ r. x ∷ r) rest)
      | inr taken ↦ rw taken rest
    ]

-- the slice at a place is freed, and not joined
pub free-freed : (xs : List Slice) (i : ℕ) (s : Slice) → slice_get xs i ≡ Some s → is_free s ≡ false → insert (filter is_free xs) (free_before i xs) (record s { state = Free }) ≡ filter is_free (freed_at i xs)
free-freed [] i s at_i used = absurd (let e : None ≡ Some s = at_i in cc)
free-freed (x ∷ xs) zero s at_i used = rw (same_Some x s at_i) (rw used refl)
free-freed (x ∷ xs) (suc i) s at_i used =
    let rest = free-freed xs i s at_i used in
    elim (cases_Bool (is_free x)) [
      | inl here ↦ rw here (ap (λ r. x ∷ r) rest)
      | inr taken ↦ rw taken rest
    ]

-- two free slices are joined
pub free-joined : (xs : List Slice) (i : ℕ) (s t : Slice) → slice_get xs i ≡ Some s → slice_get xs (suc i) ≡ Some t → is_free s ≡ true → is_free t ≡ true → remove (set (filter is_free xs) (free_before i xs) (whole s t)) (suc (free_before i xs)) ≡ filter is_free (joined_at i xs)
free-joined [] i s t at_i at_next first second = absurd (let e : None ≡ Some s = at_i in cc)
free-joined (x ∷ []) zero s t at_i at_next first second = absurd (let e : None ≡ Some t = at_next in cc)
free-joined (x ∷ y ∷ ys) zero s t at_i at_next first second = rw (same_Some x s at_i, same_Some y t at_next) (rw (first, second, first) refl)
free-joined (x ∷ xs) (suc i) s t at_i at_next first second =
    let rest = free-joined xs i s t at_i at_next first second in
    elim (cases_Bool (is_free x)) [
      | inl here ↦ rw here (ap (λ r. x ∷ r) rest)
      | inr taken ↦ rw taken rest
    ]

-- one free slice stands in place of another
pub free-set : (xs : List Slice) (i : ℕ) (s u v : Slice) → slice_get xs i ≡ Some s → is_free s ≡ true → is_free u ≡ false → is_free v ≡ true → set (filter is_free xs) (free_before i xs) v ≡ filter is_free (take i xs ++ (u ∷ v ∷ drop (suc i) xs))
free-set [] i s u v at_i is used free = absurd (let e : None ≡ Some s = at_i in cc)
free-set (x ∷ xs) zero s u v at_i is used free = rw (same_Some x s at_i) (rw (is, used, free) refl)
free-set (x ∷ xs) (suc i) s u v at_i is used free =
    let rest = free-set xs i s u v at_i is used free in
    elim (cases_Bool (is_free x)) [
      | inl here ↦ rw here (ap (λ r. x ∷ r) rest)
      | inr taken ↦ rw taken rest
    ]

-- a free slice is taken whole
pub free-removed : (xs : List Slice) (i : ℕ) (s u : Slice) → slice_get xs i ≡ Some s → is_free s ≡ true → is_free u ≡ false → remove (filter is_free xs) (free_before i xs) ≡ filter is_free (take i xs ++ (u ∷ drop (suc i) xs))
free-removed [] i s u at_i is used = absurd (let e : None ≡ Some s = at_i in cc)
free-removed (x ∷ xs) zero s u at_i is used = rw (same_Some x s at_i) (rw (is, used) refl)
free-removed (x ∷ xs) (suc i) s u at_i is used =
    let rest = free-removed xs i s u at_i is used in
    elim (cases_Bool (is_free x)) [
      | inl here ↦ rw here (ap (λ r. x ∷ r) rest)
      | inr taken ↦ rw taken rest
    ]

get-freed_at : (i : ℕ) (xs : List Slice) (s : Slice) → slice_get xs i ≡ Some s → slice_get (freed_at i xs) i ≡ Some (record s { state = Free })
get-freed_at i [] s found = absurd (let e : None ≡ Some s = found in cc)
get-freed_at zero (x ∷ xs) s found = rw (same_Some x s found) refl
get-freed_at (suc i) (x ∷ xs) s found = get-freed_at i xs s found

get-freed_next : (i : ℕ) (xs : List Slice) → slice_get (freed_at i xs) (suc i) ≡ slice_get xs (suc i)
get-freed_next i [] = refl
get-freed_next zero (x ∷ xs) = refl
get-freed_next (suc i) (x ∷ xs) = get-freed_next i xs

pub pair-next : (xs ys : List Slice) (i : ℕ) (t u : Slice) → ys ≡ freed_at i xs → IsFreePair ys i t u → slice_get xs (suc i) ≡ Some u
pair-next xs ys i t u is pair =
    let second : slice_get (freed_at i xs) (suc i) ≡ Some u = rw (is, add-one i) at pair.second_at in
    sym (get-freed_next i xs) ∙ second

pub pair-first : (xs ys : List Slice) (i : ℕ) (s t u : Slice) → ys ≡ freed_at i xs → slice_get xs i ≡ Some s → IsFreePair ys i t u → t ≡ record s { state = Free }
pair-first xs ys i s t u is found pair =
    let first : slice_get (freed_at i xs) i ≡ Some t = rw is at pair.first_at in
    sym (same_Some _ _ (sym (get-freed_at i xs s found) ∙ first))

-- the same, as a join tells it
pub listed-freed_joined : (xs ys zs free : List Slice) (i n : ℕ) (s t u both : Slice) → ys ≡ freed_at i xs → zs ≡ joined_at i ys → free ≡ filter is_free xs → n ≡ free_before i xs → slice_get xs i ≡ Some s → is_free s ≡ false → IsFreePair ys i t u → both ≡ whole t u → set free n both ≡ filter is_free zs
listed-freed_joined xs ys zs free i n s t u both is joined listed place found used pair whole_is =
    rw (listed, place, whole_is, pair-first xs ys i s t u is found pair, joined, is)
    (free-freed_joined xs i s u found used (pair-next xs ys i t u is pair) pair.second_free)

pub within-freed_joined : (xs ys free : List Slice) (i n : ℕ) (s t u : Slice) → ys ≡ freed_at i xs → free ≡ filter is_free xs → n ≡ free_before i xs → slice_get xs i ≡ Some s → is_free s ≡ false → IsFreePair ys i t u → n < length free
within-freed_joined xs ys free i n s t u is listed place found used pair =
    let w = free_before-within xs (suc i) u (pair-next xs ys i t u is pair) pair.second_free in
    let same = free_before-used xs i s found used in
    omega (arith, w, same, place, ap length listed)

pub listed-freed : (xs ys zs free ws : List Slice) (i n : ℕ) (s : Slice) → ys ≡ freed_at i xs → zs ≡ ys → free ≡ filter is_free xs → n ≡ free_before i xs → slice_get xs i ≡ Some s → is_free s ≡ false → ws ≡ insert free n (record s { state = Free }) → ws ≡ filter is_free zs
listed-freed xs ys zs free ws i n s is kept listed place found used put =
    put ∙ rw (listed, place, kept, is) (free-freed xs i s found used)

-- where the second of a free pair stands among the free ones
pub record JoinedPlace (xs : List Slice) (i at : ℕ) : Type 0 where
  pub some : at ≡ suc (free_before i xs)
  pub within : at < length (filter is_free xs)

pub joined-place : (xs : List Slice) (i at : ℕ) (t u : Slice) → at ≡ free_before (i + 1) xs → IsFreePair xs i t u → JoinedPlace xs i at
joined-place xs i at t u place pair =
    let second : slice_get xs (suc i) ≡ Some u = rw (add-one i) at pair.second_at in
    let place' : at ≡ free_before (suc i) xs = place ∙ ap (λ n. free_before n xs) (add-one i) in
    let w = free_before-within xs (suc i) u second pair.second_free in
    let more = free_before-more xs i t pair.first_at pair.first_free in
    record { some = place' ∙ more; within = omega (arith, w, place') }

pub listed-joined : (xs zs free : List Slice) (i at : ℕ) (t u both : Slice) → at ≡ free_before (i + 1) xs → free ≡ filter is_free xs → zs ≡ joined_at i xs → IsFreePair xs i t u → both ≡ whole t u → remove (set free (at - 1) both) at ≡ filter is_free zs
listed-joined xs zs free i at t u both place listed joined pair whole_is =
    let p = joined-place xs i at t u place pair in
    let second : slice_get xs (suc i) ≡ Some u = rw (add-one i) at pair.second_at in
    let before : at - 1 ≡ free_before i xs = omega (arith, p.some) in
    rw (before, p.some, listed, joined, whole_is) (free-joined xs i t u pair.first_at second pair.first_free pair.second_free)

-- the front of a free slice was taken, and something is left
pub listed-taken_rest : (offset len n : ℕ) (xs free zs : List Slice) (s v : Slice) → slice_at offset xs ≡ Some s → is_free s ≡ true → is_free v ≡ true → divided len s ≡ record { offset = s.offset; length = len; state = Unpublished } ∷ v ∷ [] → ((i : ℕ) → slice_get xs i ≡ Some s → n ≡ free_before i xs) → free ≡ filter is_free xs → zs ≡ with_alloc offset len xs → set free n v ≡ filter is_free zs
listed-taken_rest offset len n xs free zs s v found is free_rest parts place listed taken =
    let p = place-found offset xs s found in
    let at : IsPlace offset xs p.0 = record { slice = s; found = p.1; begins_here = p.2; first = p.3 } in
    let so = replaced_at-place offset (divided len) xs p.0 at ∙ ap (λ ys. take p.0 xs ++ (ys ++ drop (suc p.0) xs)) parts in
    rw (listed, place p.0 p.1, taken, so) (free-set xs p.0 s (record { offset = s.offset; length = len; state = Unpublished }) v p.1 is refl free_rest)

-- all of a free slice was taken
pub listed-taken_all : (offset len n : ℕ) (xs free zs : List Slice) (s : Slice) → slice_at offset xs ≡ Some s → is_free s ≡ true → divided len s ≡ record { offset = s.offset; length = len; state = Unpublished } ∷ [] → ((i : ℕ) → slice_get xs i ≡ Some s → n ≡ free_before i xs) → free ≡ filter is_free xs → zs ≡ with_alloc offset len xs → remove free n ≡ filter is_free zs
listed-taken_all offset len n xs free zs s found is parts place listed taken =
    let p = place-found offset xs s found in
    let at : IsPlace offset xs p.0 = record { slice = s; found = p.1; begins_here = p.2; first = p.3 } in
    let so = replaced_at-place offset (divided len) xs p.0 at ∙ ap (λ ys. take p.0 xs ++ (ys ++ drop (suc p.0) xs)) parts in
    rw (listed, place p.0 p.1, taken, so) (free-removed xs p.0 s (record { offset = s.offset; length = len; state = Unpublished }) p.1 is refl)

-- the free slice that is found is one of the free ones
pub within-found : (offset n : ℕ) (xs free : List Slice) (s : Slice) → slice_at offset xs ≡ Some s → is_free s ≡ true → ((i : ℕ) → slice_get xs i ≡ Some s → n ≡ free_before i xs) → free ≡ filter is_free xs → n < length free
within-found offset n xs free s found is place listed =
    let p = place-found offset xs s found in
    omega (arith, place p.0 p.1, free_before-within xs p.0 s p.1 is, ap length listed)

-- the same slices are free when one was published
pub free-published : (offset : ℕ) (xs : List Slice) → begins is_unpublished offset xs ≡ true → filter is_free (published offset xs) ≡ filter is_free xs
free-published offset [] h = refl
free-published offset (x ∷ xs) h =
    elim (cases_Bool (x.offset == offset)) [
      | inl here ↦ rw here (let used = unpublished_is_used x (rw here at h) in rw used refl)
      | inr past ↦ rw past (
          let rest = free-published offset xs (rw past at h) in
          elim (cases_Bool (is_free x)) [
            | inl free ↦ rw free (ap (λ r. x ∷ r) rest)
            | inr taken ↦ rw taken rest
          ])
    ]
