use Rattle.std.proofs.Common.{◌≡◌, ℕ, zero, suc, ◌+◌, ◌-◌, ◌<◌, ◌≤◌, ◌==◌, nat_lt, nat_le, Bool, true, false, cond, List, [], ◌∷◌, ◌++◌, Some, None, length, get_or, refl, sym, ap, ◌∙◌, subst, arith, inl, inr, max, add-one, set}
use Rattle.std.specs.Prelude.{slice_get}
use Rattle.std.proofs.lemmas.Bool.{cases_Bool, cond_both, false≢true, leb-true, le-leb}
use Rattle.std.proofs.lemmas.Option.{same_Some, get_or_from_slice_get}
use Rattle.b1_pool.specs.declared.slices.Slice.{Slice}
use Rattle.b1_pool.specs.declared.slices.SliceState.{SliceState}
use Rattle.b1_pool.specs.declared.slices.SliceState.TheVariants.{Free, Unpublished, Published}
use Rattle.b1_pool.specs.Slices.{is_free, is_before, lesser_of, least_fit, largest_free, begins, is_unpublished, slice_at, rest_of, published, with_alloc, whole}
use Rattle.b1_pool.specs.Places.{joined_at, freed_at, IsFreePair}
use Rattle.b1_pool.proofs.FitLemmas.{before-true, before-false}
use Rattle.b1_pool.specs.Places.{IsPlace, IsUsedAt}
use Rattle.b1_pool.proofs.SliceLemmas.{set-freed_at, begins-found}
use Rattle.b1_pool.proofs.PoolLemmas.{begins-place, unpublished_is_used}
use Rattle.b1_poolx.specs.Sizes.{free_count, placed, without, by_size, NoneBefore, IsBySize, first_long, last_length}
use Rattle.b1_poolx.proofs.SizeLemmas.{before_asym, not_after_before, not_after_lengths, NoneBefore-trans, IsBySize-by_size, IsBySize-placed, without-placed}

free_state : (s : Slice) → is_free s ≡ true → s.state ≡ Free
free_state s free =
    (elim s.state as (λ state. elim state as (λ _. Bool) [ Free ↦ true | Unpublished ↦ false | Published ↦ false ] ≡ true → state ≡ Free) [
      | Free ↦ λ _. refl
      | Unpublished ↦ λ h. absurd (false≢true h)
      | Published ↦ λ h. absurd (false≢true h)
    ]) free

-- free slices of the same length at the same offset are the same
same_parts : (o l o' l' : ℕ) (state state' : SliceState) → o ≡ o' → l ≡ l' → state ≡ state' → ◌≡◌ {A = Slice} (record { offset = o; length = l; state = state }) (record { offset = o'; length = l'; state = state' })
same_parts o l o' l' state state' offsets lengths states = rw (offsets, lengths, states) refl

same_free : (a b : Slice) → is_free a ≡ true → is_free b ≡ true → is_before a b ≡ false → is_before b a ≡ false → a ≡ b
same_free a b free_a free_b ab ba =
    let x = before-false a.length a.offset b.length b.offset ab in
    let y = before-false b.length b.offset a.length a.offset ba in
    let lengths : a.length ≡ b.length = grind arith in
    let offsets : a.offset ≡ b.offset = grind arith in
    same_parts a.offset a.length b.offset b.length a.state b.state offsets lengths (free_state a free_a ∙ sym (free_state b free_b))

two_first : (a b : Slice) (xs : List Slice) → is_free a ≡ true → is_free b ≡ true → cond (is_before b a) (b ∷ a ∷ xs) (a ∷ b ∷ xs) ≡ cond (is_before a b) (a ∷ b ∷ xs) (b ∷ a ∷ xs)
two_first a b xs free_a free_b =
    elim (cases_Bool (is_before b a)) [
      | inl ba ↦ rw (ba, before_asym b a ba) refl
      | inr ba ↦ elim (cases_Bool (is_before a b)) [
        | inl ab ↦ rw (ba, ab) refl
        | inr ab ↦ let same = same_free a b free_a free_b ab ba in rw (ba, ab) (ap (λ s. s ∷ b ∷ xs) same ∙ ap (λ s. b ∷ s ∷ xs) (sym same))
      ]
    ]

-- in whichever order two free slices are put in, the list is the same
pub placed_comm : (a b : Slice) (xs : List Slice) → is_free a ≡ true → is_free b ≡ true → placed a (placed b xs) ≡ placed b (placed a xs)
placed_comm a b [] free_a free_b = two_first a b [] free_a free_b
placed_comm a b (x ∷ xs) free_a free_b =
    elim (cases_Bool (is_before x b)) [
      | inl xb ↦ elim (cases_Bool (is_before x a)) [
        | inl xa ↦ rw (xb, xa) (rw xb (ap (λ r. x ∷ r) (placed_comm a b xs free_a free_b)))
        | inr xa ↦ rw (xb, xa) (rw (not_after_before a x b xa xb, xb) refl)
      ]
      | inr xb ↦ elim (cases_Bool (is_before x a)) [
        | inl xa ↦ rw (xb, xa) (rw (not_after_before b x a xb xa, xb) refl)
        | inr xa ↦ rw (xb, xa) (rw xb (two_first a b (x ∷ xs) free_a free_b))
      ]
    ]

pub length-placed : (s : Slice) (xs : List Slice) → length (placed s xs) ≡ length xs + 1
length-placed s [] = refl
length-placed s (x ∷ xs) =
    cond_both (is_before x s) (x ∷ placed s xs) (s ∷ x ∷ xs) (λ ys. length ys ≡ length (x ∷ xs) + 1)
    (λ _. let rest = length-placed s xs in omega arith)
    (λ _. omega arith)

-- as many slices are ordered as are free
pub length-by_size : (xs : List Slice) → length (by_size xs) ≡ free_count xs
length-by_size [] = refl
length-by_size (x ∷ xs) =
    elim (cases_Bool (is_free x)) [
      | inl free ↦ rw free (let rest = length-by_size xs in omega (arith, length-placed x (by_size xs)))
      | inr used ↦ rw used (length-by_size xs)
    ]

pub length-by_size-le : (xs : List Slice) → length (by_size xs) ≤ length xs
length-by_size-le [] = omega arith
length-by_size-le (x ∷ xs) =
    let rest = length-by_size-le xs in
    cond_both (is_free x) (placed x (by_size xs)) (by_size xs) (λ ys. length ys ≤ length (x ∷ xs))
    (λ _. omega (arith, length-placed x (by_size xs)))
    (λ _. omega arith)

-- where one slice is in use, there are fewer free ones than slices
pub length-by_size-used : (xs : List Slice) (i : ℕ) (s : Slice) → slice_get xs i ≡ Some s → is_free s ≡ false → length (by_size xs) < length xs
length-by_size-used [] i s found used = absurd (let e : None ≡ Some s = found in cc)
length-by_size-used (x ∷ xs) zero s found used =
    let x_used : is_free x ≡ false = rw (same_Some x s found) used in
    rw x_used (let rest = length-by_size-le xs in omega arith)
length-by_size-used (x ∷ xs) (suc i) s found used =
    let rest = length-by_size-used xs i s found used in
    cond_both (is_free x) (placed x (by_size xs)) (by_size xs) (λ ys. length ys < length (x ∷ xs))
    (λ _. omega (arith, length-placed x (by_size xs)))
    (λ _. omega arith)

-- the free slices once the one at a place was freed
pub by_size-freed_at : (xs : List Slice) (i : ℕ) (s : Slice) → slice_get xs i ≡ Some s → is_free s ≡ false → by_size (freed_at i xs) ≡ placed (record s { state = Free }) (by_size xs)
by_size-freed_at [] i s found used = absurd (let e : None ≡ Some s = found in cc)
by_size-freed_at (x ∷ xs) zero s found used =
    let same = same_Some x s found in
    let x_used : is_free x ≡ false = rw same used in
    rw (x_used, same) refl
by_size-freed_at (x ∷ xs) (suc i) s found used =
    elim (cases_Bool (is_free x)) [
      | inl free ↦ rw free (ap (placed x) (by_size-freed_at xs i s found used) ∙ placed_comm x (record s { state = Free }) (by_size xs) free refl)
      | inr x_used ↦ rw x_used (by_size-freed_at xs i s found used)
    ]

-- what stays free beside a change
pub record Beside (xs ys : List Slice) (before after : List Slice → List Slice) : Type 0 where
  pub others : List Slice
  pub was : by_size xs ≡ before (by_size others)
  pub is : by_size ys ≡ after (by_size others)

-- two free neighbours, and the one that they become
pub by_size-joined_at : (xs : List Slice) (i : ℕ) (s t : Slice) → slice_get xs i ≡ Some s → slice_get xs (suc i) ≡ Some t → is_free s ≡ true → is_free t ≡ true → Beside xs (joined_at i xs) (λ r. placed s (placed t r)) (placed (whole s t))
by_size-joined_at [] i s t first second free_s free_t = absurd (let e : None ≡ Some s = first in cc)
by_size-joined_at (x ∷ []) zero s t first second free_s free_t = absurd (let e : None ≡ Some t = second in cc)
by_size-joined_at (x ∷ y ∷ ys) zero s t first second free_s free_t =
    rw (same_Some x s first, same_Some y t second) (rw (free_s, free_t) record { others = ys; was = rw (free_s, free_t) refl; is = rw free_s refl })
by_size-joined_at (x ∷ xs) (suc i) s t first second free_s free_t =
    let rest = by_size-joined_at xs i s t first second free_s free_t in
    elim (cases_Bool (is_free x)) [
      | inl free ↦ record {
        others = x ∷ rest.others;
        was = rw (free, rest.was, placed_comm x s (placed t (by_size rest.others)) free free_s, placed_comm x t (by_size rest.others) free free_t) refl;
        is = rw (free, rest.is) (placed_comm x (whole s t) (by_size rest.others) free free_s);
      }
      | inr used ↦ record { others = x ∷ rest.others; was = rw used rest.was; is = rw used rest.is }
    ]

-- the free slice at an offset, and what is left of it
abbrev pub left_over : ℕ → Slice → List Slice → List Slice
left_over len s rest = cond (nat_lt len s.length) (placed (record { offset = s.offset + len; length = s.length - len; state = Free }) rest) rest

by_size-rest_of : (len : ℕ) (s : Slice) (xs : List Slice) → by_size (rest_of len s ++ xs) ≡ left_over len s (by_size xs)
by_size-rest_of len s xs = cond_both (nat_lt len s.length) (record { offset = s.offset + len; length = s.length - len; state = Free } ∷ []) [] (λ ys. by_size (ys ++ xs) ≡ left_over len s (by_size xs)) (λ less. rw less refl) (λ all. rw all refl)

left_over-placed : (len : ℕ) (s x : Slice) (xs : List Slice) → is_free x ≡ true → placed x (left_over len s xs) ≡ left_over len s (placed x xs)
left_over-placed len s x xs free =
    elim (cases_Bool (nat_lt len s.length)) [
      | inl less ↦ rw less (placed_comm x (record { offset = s.offset + len; length = s.length - len; state = Free }) xs free refl)
      | inr all ↦ rw all refl
    ]

pub by_size-with_alloc : (offset len : ℕ) (xs : List Slice) (s : Slice) → slice_at offset xs ≡ Some s → is_free s ≡ true → Beside xs (with_alloc offset len xs) (placed s) (left_over len s)
by_size-with_alloc offset len [] s found free = absurd (let e : None ≡ Some s = found in cc)
by_size-with_alloc offset len (x ∷ xs) s found free =
    elim (cases_Bool (x.offset == offset)) [
      | inl here ↦
          let same : x ≡ s = same_Some x s (rw here at found) in
          rw (here, same) record { others = xs; was = rw free refl; is = by_size-rest_of len s xs }
      | inr past ↦
          let rest = by_size-with_alloc offset len xs s (rw past at found) free in
          elim (cases_Bool (is_free x)) [
            | inl x_free ↦ record {
              others = x ∷ rest.others;
              was = rw (x_free, rest.was) (placed_comm x s (by_size rest.others) x_free free);
              is = rw (past, x_free, rest.is) (left_over-placed len s x (by_size rest.others) x_free);
            }
            | inr used ↦ record { others = x ∷ rest.others; was = rw used rest.was; is = rw (past, used) rest.is }
          ]
    ]

-- a slice in use may change its state
pub by_size-published : (offset : ℕ) (xs : List Slice) (s : Slice) → slice_at offset xs ≡ Some s → is_free s ≡ false → by_size (published offset xs) ≡ by_size xs
by_size-published offset [] s found used = refl
by_size-published offset (x ∷ xs) s found used =
    elim (cases_Bool (x.offset == offset)) [
      | inl here ↦
          let x_used : is_free x ≡ false = rw (same_Some x s (rw here at found)) used in
          rw (here, x_used) refl
      | inr past ↦ rw past (elim (cases_Bool (is_free x)) [
        | inl free ↦ rw free (ap (placed x) (by_size-published offset xs s (rw past at found) used))
        | inr x_used ↦ rw x_used (by_size-published offset xs s (rw past at found) used)
      ])
    ]

lesser-first_long : (len : ℕ) (s : Slice) (xs : List Slice) → NoneBefore s xs → lesser_of s (first_long len xs) ≡ s
lesser-first_long len s [] none = refl
lesser-first_long len s (x ∷ xs) none =
    cond_both (nat_le len x.length) (Some x) (first_long len xs) (λ found. lesser_of s found ≡ s)
    (λ _. rw none.0 refl)
    (λ _. lesser-first_long len s xs none.1)

first_long-placed : (len : ℕ) (s : Slice) (xs : List Slice) → IsBySize xs → first_long len (placed s xs) ≡ cond (nat_le len s.length) (Some (lesser_of s (first_long len xs))) (first_long len xs)
first_long-placed len s [] ordered = refl
first_long-placed len s (t ∷ rest) ordered =
    elim (cases_Bool (is_before t s)) [
      | inl first ↦ elim (cases_Bool (nat_le len t.length)) [
        | inl long ↦
            let most : len ≤ s.length = grind (arith, before-true t.length t.offset s.length s.offset first, leb-true len t.length long) in
            rw (first, long) (rw (le-leb len s.length most, first) refl)
        | inr short ↦ rw (first, short) (first_long-placed len s rest ordered.1)
      ]
      | inr after ↦ rw after
          (ap (λ u. cond (nat_le len s.length) (Some u) (first_long len (t ∷ rest)))
          (sym (lesser-first_long len s (t ∷ rest) (after, NoneBefore-trans s t rest after ordered.0))))
    ]

-- the least free slice that fits is the first one in order that is long enough
pub first_long-by_size : (len : ℕ) (xs : List Slice) → first_long len (by_size xs) ≡ least_fit len xs
first_long-by_size len [] = refl
first_long-by_size len (x ∷ xs) =
    elim (cases_Bool (is_free x)) [
      | inl free ↦ rw free (first_long-placed len x (by_size xs) (IsBySize-by_size xs) ∙ ap (λ f. cond (nat_le len x.length) (Some (lesser_of x f)) f) (first_long-by_size len xs))
      | inr used ↦ rw used (first_long-by_size len xs)
    ]

least_last : (s x : Slice) (xs : List Slice) → NoneBefore s (x ∷ xs) → s.length ≤ last_length (x ∷ xs)
least_last s x [] none = not_after_lengths s x none.0
least_last s x (y ∷ ys) none = least_last s y ys none.1

last_length-behind : (t : Slice) (s : Slice) (xs : List Slice) → last_length (t ∷ placed s xs) ≡ last_length (placed s xs)
last_length-behind t s [] = refl
last_length-behind t s (x ∷ xs) = cond_both (is_before x s) (x ∷ placed s xs) (s ∷ x ∷ xs) (λ ys. last_length (t ∷ ys) ≡ last_length ys) (λ _. refl) (λ _. refl)

last_length-placed : (s : Slice) (xs : List Slice) → IsBySize xs → last_length (placed s xs) ≡ max s.length (last_length xs)
last_length-placed s [] ordered = omega arith
last_length-placed s (t ∷ []) ordered =
    elim (cases_Bool (is_before t s)) [
      | inl first ↦
          let most : t.length ≤ s.length = grind (arith, before-true t.length t.offset s.length s.offset first) in
          rw first (omega arith)
      | inr after ↦ rw after (let most = not_after_lengths s t after in omega arith)
    ]
last_length-placed s (t ∷ x ∷ xs) ordered =
    elim (cases_Bool (is_before t s)) [
      | inl first ↦ rw first (last_length-behind t s (x ∷ xs) ∙ last_length-placed s (x ∷ xs) ordered.1)
      | inr after ↦
          let most = least_last s x xs (NoneBefore-trans s t (x ∷ xs) after ordered.0) in
          rw after (omega arith)
    ]

-- the greatest free length is that of the last slice in order
pub last_length-by_size : (xs : List Slice) → last_length (by_size xs) ≡ largest_free xs
last_length-by_size [] = refl
last_length-by_size (x ∷ xs) =
    elim (cases_Bool (is_free x)) [
      | inl free ↦ rw free (last_length-placed x (by_size xs) (IsBySize-by_size xs) ∙ ap (max x.length) (last_length-by_size xs))
      | inr used ↦ rw used (last_length-by_size xs)
    ]

-- a slice that was put in stands in its place
pub stands_placed : (s : Slice) (xs ys : List Slice) → xs ≡ placed s ys → xs ≡ placed s (without s xs)
stands_placed s xs ys is = is ∙ ap (placed s) (sym (without-placed s ys) ∙ ap (without s) (sym is))

pub without_is : (s : Slice) (xs ys zs : List Slice) → xs ≡ placed s ys → zs ≡ without s xs → zs ≡ ys
without_is s xs ys zs is taken = taken ∙ ap (without s) is ∙ without-placed s ys

pub by_size-pair : (xs : List Slice) (i : ℕ) (s t : Slice) → IsFreePair xs i s t → Beside xs (joined_at i xs) (λ r. placed s (placed t r)) (placed (whole s t))
by_size-pair xs i s t pair = by_size-joined_at xs i s t pair.first_at (rw (add-one i) at pair.second_at) pair.first_free pair.second_free

-- the same, as a read of the list gives the slice in use
pub by_size-freed : (xs : List Slice) (i : ℕ) (s : Slice) → IsUsedAt xs i → i < length xs → s ≡ get_or xs i s → by_size (set xs i (record s { state = Free })) ≡ placed (record s { state = Free }) (by_size xs)
by_size-freed xs i s used within read =
    let same : s ≡ used.slice = read ∙ get_or_from_slice_get xs i used.slice s used.found in
    let found : slice_get xs i ≡ Some s = used.found ∙ ap (λ x. Some x) (sym same) in
    ap by_size (set-freed_at xs i s found) ∙ by_size-freed_at xs i s found (rw same used.used)

pub length-by_size-room : (xs : List Slice) (i : ℕ) → IsUsedAt xs i → length (by_size xs) < length xs
length-by_size-room xs i used = length-by_size-used xs i used.slice used.found used.used

pub IsBySize-sized : (xs free : List Slice) → free ≡ by_size xs → IsBySize free
IsBySize-sized xs free sized = subst IsBySize (sym sized) (IsBySize-by_size xs)

pub IsBySize-put : (s : Slice) (xs free : List Slice) → free ≡ placed s (by_size xs) → IsBySize free
IsBySize-put s xs free is = subst IsBySize (sym is) (IsBySize-placed s (by_size xs) (IsBySize-by_size xs))

-- a slice that is published stays in use
pub by_size-publish : (offset : ℕ) (xs : List Slice) → begins is_unpublished offset xs ≡ true → by_size (published offset xs) ≡ by_size xs
by_size-publish offset xs unpublished =
    let b = begins-found is_unpublished offset xs unpublished in
    by_size-published offset xs b.0 b.1 (unpublished_is_used b.0 b.2)

-- what is found among the free slices in order is the least that fits
pub found_least : (len : ℕ) (xs free : List Slice) → free ≡ by_size xs → first_long len free ≡ least_fit len xs
found_least len xs free sized = ap (first_long len) sized ∙ first_long-by_size len xs

pub last_largest : (xs free : List Slice) → free ≡ by_size xs → last_length free ≡ largest_free xs
last_largest xs free sized = ap last_length sized ∙ last_length-by_size xs

pub length-sized : (xs free : List Slice) → free ≡ by_size xs → length free ≡ free_count xs
length-sized xs free sized = ap length sized ∙ length-by_size xs

-- the last of a list
pub last_length-last : (xs : List Slice) (i : ℕ) (s : Slice) → i + 1 ≡ length xs → slice_get xs i ≡ Some s → s.length ≡ last_length xs
last_length-last [] i s last found = absurd (let e : None ≡ Some s = found in cc)
last_length-last (x ∷ []) zero s last found = ap (λ y. y.length) (sym (same_Some x s found))
last_length-last (x ∷ []) (suc i) s last found = absurd (let e : None ≡ Some s = found in cc)
last_length-last (x ∷ y ∷ ys) zero s last found = absurd (omega arith)
last_length-last (x ∷ y ∷ ys) (suc i) s last found = last_length-last (y ∷ ys) i s (omega arith) found

-- the slice in use at a place
pub used_place : (p : Slice → Bool) (offset : ℕ) (xs : List Slice) (i : ℕ) → IsPlace offset xs i → ((s : Slice) → p s ≡ true → is_free s ≡ false) → begins p offset xs ≡ true → IsUsedAt xs i
used_place p offset xs i place is_used begun =
    record { slice = place.slice; found = place.found; used = is_used place.slice (sym (begins-place p offset xs i place) ∙ begun) }
