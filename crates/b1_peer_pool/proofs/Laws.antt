-- What taking, publishing and giving back a slice leave of a pool, in the machine's words.
use Rattle.std.proofs.Common.{◌≡◌, ◌≢◌, ℕ, ◌<◌, ◌≤◌, ◌==◌, nat_le, Bool, true, false, cond, not, List, Option, Some, None, refl, sym, ap, ◌∙◌, arith}
use Rattle.std.specs.Prelude.{option_map, is_some}
use Rattle.std.proofs.lemmas.Bool.{false≢true, ne_eqb, eq-eqb, leb-true, and_parts}
use Rattle.b1_model.specs.declared.tables.Usage.TheVariants.{Unpublished, Published}
use Rattle.b1_model.specs.MachineParts.{Slice}
use Rattle.b1_model.specs.MachinePool.{slice_at, largest_free, taken, taken_offset, given_back, published, whole_pool}
use Rattle.b1_pool.specs.declared.slices.Slice.{Slice as PoolSlice}
use Rattle.b1_pool.specs.Slices as pool
use Rattle.b1_pool.specs.Slices.{IsLength, IsPoolSize}
use Rattle.b1_pool.proofs.FitLemmas.{is_some-least_fit}
use Rattle.b1_pool.proofs.PoolLemmas as pools
use Rattle.b1_pool.proofs.SliceLemmas as slices
use Rattle.b1_pool.proofs.UsedLemmas as used
use Rattle.b1_peer_pool.specs.Words.{in_words, all_in_words}
use Rattle.b1_peer_pool.specs.Slices.{is_queued, used_at, IsPool}
use Rattle.b1_peer_pool.proofs.Words.{each_in_words, IsPool-in_words, IsPool-of_words, largest_free-in_words, taken_offset-in_words, taken-in_words, published-in_words, given_back-in_words, slice_at-in_words, used_at-in_words, is_queued-in_words}
use Rattle.b1_peer_pool.proofs.Fits.{has_fit-le}
use Rattle.b1_peer_pool.proofs.Found.{used_at-found, used_at-slice}

-- ---- the slice that a message gets

found_of : {X : Type 0} (o : Option X) → is_some o ≡ true → (x : X) × (o ≡ Some x)
found_of None h = absurd (false≢true h)
found_of (Some x) h = (x, refl)

-- the free slice whose front a message gets
pub record IsChosen (len : ℕ) (xs : List PoolSlice) : Type 0 where
  pub slice : PoolSlice
  pub chosen : pool.least_fit len xs ≡ Some slice
  pub found : pool.slice_at slice.offset xs ≡ Some slice
  pub free : pool.is_free slice ≡ true
  pub long : len ≤ slice.length

pub chosen : (size len : ℕ) (xs : List PoolSlice) → pool.IsPool size xs → 0 < len → len ≤ largest_free (all_in_words xs) → IsChosen len xs
chosen size len xs p some most =
    let fit = has_fit-le len xs some (rw (← largest_free-in_words xs) most) in
    let f = found_of (pool.least_fit len xs) (is_some-least_fit len xs ∙ fit) in
    let stands = pools.least_fit-found size len xs f.0 p f.1 in
    let parts = and_parts (pool.is_free f.0) (nat_le len f.0.length) stands.1 in
    record { slice = f.0; chosen = f.1; found = stands.0; free = parts.0; long = leb-true len f.0.length parts.1 }

-- an option of one of two
map_cond : (b : Bool) (s : PoolSlice) (t : Option PoolSlice) → option_map in_words (cond b (Some s) t) ≡ cond b (Some (in_words s)) (option_map in_words t)
map_cond true s t = refl
map_cond false s t = refl

map_none : (b : Bool) (t : Option PoolSlice) → option_map in_words (cond b None t) ≡ cond b None (option_map in_words t)
map_none true t = refl
map_none false t = refl

map_some : (o : Option PoolSlice) (s : Slice) → option_map in_words o ≡ Some s → (t : PoolSlice) × (o ≡ Some t) × (in_words t ≡ s)
map_some None s h = absurd (let e : None ≡ Some s = h in cc)
map_some (Some t) s h = (t, refl, ap (λ (o : Option Slice). elim o as (λ _. Slice) [ None ↦ s | Some x ↦ x ]) h)

-- a slice that is found in the machine's words is found in the pool's
of_found : (offset : ℕ) (xs : List PoolSlice) (s : Slice) → slice_at offset (all_in_words xs) ≡ Some s → (t : PoolSlice) × (pool.slice_at offset xs ≡ Some t) × (in_words t ≡ s)
of_found offset xs s found = map_some (pool.slice_at offset xs) s (sym (slice_at-in_words offset xs) ∙ found)

-- which slices are in use once a message got its own
pub used_at-taken : (size len offset : ℕ) (ys : List Slice) → IsPool size ys → IsLength len → len ≤ largest_free ys → used_at offset (taken len ys) ≡ cond (taken_offset len ys == offset) (Some (record { offset = taken_offset len ys; len = len; usage = Unpublished })) (used_at offset ys)
used_at-taken size len offset ys =
    each_in_words (λ zs. IsPool size zs → IsLength len → len ≤ largest_free zs → used_at offset (taken len zs) ≡ cond (taken_offset len zs == offset) (Some (record { offset = taken_offset len zs; len = len; usage = Unpublished })) (used_at offset zs))
    (λ xs p length_ok most.
    let q = IsPool-of_words size xs p in
    let c = chosen size len xs q (omega (arith, length_ok.0)) most in
    rw (taken_offset-in_words len xs c.slice c.chosen, taken-in_words len xs c.slice c.chosen, used_at-in_words offset xs, used_at-in_words offset (pool.with_alloc c.slice.offset len xs))
    (ap (option_map in_words) (used.used_at-with_alloc size c.slice.offset len offset xs c.slice q c.found (omega (arith, length_ok.0)) c.long)
    ∙ map_cond (c.slice.offset == offset) _ (pool.used_at offset xs)))
    ys

-- it wasn't in use before
pub taken_offset-new : (size len : ℕ) (ys : List Slice) → IsPool size ys → IsLength len → len ≤ largest_free ys → used_at (taken_offset len ys) ys ≡ None
taken_offset-new size len ys =
    each_in_words (λ zs. IsPool size zs → IsLength len → len ≤ largest_free zs → used_at (taken_offset len zs) zs ≡ None)
    (λ xs p length_ok most.
    let c = chosen size len xs (IsPool-of_words size xs p) (omega (arith, length_ok.0)) most in
    rw (taken_offset-in_words len xs c.slice c.chosen)
    (used_at-in_words c.slice.offset xs ∙ ap (λ o. option_map in_words (pool.used_of o)) c.found ∙ ap (λ b. option_map in_words (cond (not b) (Some c.slice) None)) c.free))
    ys

-- it is unpublished, and of the length that was asked for
pub slice_at-taken : (size len : ℕ) (ys : List Slice) → IsPool size ys → IsLength len → len ≤ largest_free ys → slice_at (taken_offset len ys) (taken len ys) ≡ Some (record { offset = taken_offset len ys; len = len; usage = Unpublished })
slice_at-taken size len ys =
    each_in_words (λ zs. IsPool size zs → IsLength len → len ≤ largest_free zs → slice_at (taken_offset len zs) (taken len zs) ≡ Some (record { offset = taken_offset len zs; len = len; usage = Unpublished }))
    (λ xs p length_ok most.
    let c = chosen size len xs (IsPool-of_words size xs p) (omega (arith, length_ok.0)) most in
    rw (taken_offset-in_words len xs c.slice c.chosen, taken-in_words len xs c.slice c.chosen)
    (slice_at-in_words c.slice.offset (pool.with_alloc c.slice.offset len xs) ∙ ap (option_map in_words) (slices.slice_at-with_alloc c.slice.offset len xs c.slice c.found)))
    ys

pub used_at-taken_here : (size len : ℕ) (ys : List Slice) → IsPool size ys → IsLength len → len ≤ largest_free ys → used_at (taken_offset len ys) (taken len ys) ≡ Some (record { offset = taken_offset len ys; len = len; usage = Unpublished })
used_at-taken_here size len ys p length_ok most = used_at-slice (taken_offset len ys) (taken len ys) _ (slice_at-taken size len ys p length_ok most) refl

-- the slices in use before stay, and begin elsewhere
pub taken-apart : (size len offset : ℕ) (ys : List Slice) (s : Slice) → IsPool size ys → IsLength len → len ≤ largest_free ys → used_at offset ys ≡ Some s → taken_offset len ys ≢ offset
taken-apart size len offset ys s p length_ok most used same =
    let none : used_at offset ys ≡ None = rw same at (taken_offset-new size len ys p length_ok most) in
    let e : Some s ≡ None = sym used ∙ none in
    cc

pub taken-stays : (size len offset : ℕ) (ys : List Slice) (s : Slice) → IsPool size ys → IsLength len → len ≤ largest_free ys → used_at offset ys ≡ Some s → used_at offset (taken len ys) ≡ Some s
taken-stays size len offset ys s p length_ok most used =
    used_at-taken size len offset ys p length_ok most
    ∙ ap (λ b. cond b (Some (record { offset = taken_offset len ys; len = len; usage = Unpublished })) (used_at offset ys)) (ne_eqb (taken_offset len ys) offset (taken-apart size len offset ys s p length_ok most used))
    ∙ used

pub IsPool-taken : (size len : ℕ) (ys : List Slice) → IsPool size ys → IsLength len → len ≤ largest_free ys → IsPool size (taken len ys)
IsPool-taken size len ys =
    each_in_words (λ zs. IsPool size zs → IsLength len → len ≤ largest_free zs → IsPool size (taken len zs))
    (λ xs p length_ok most.
    let q = IsPool-of_words size xs p in
    let c = chosen size len xs q (omega (arith, length_ok.0)) most in
    rw (taken-in_words len xs c.slice c.chosen)
    (IsPool-in_words size _ (pools.IsPool-with_alloc size c.slice.offset len xs q length_ok (pools.begins-least_fit size len xs c.slice q c.chosen))))
    ys

-- ---- a slice that is published

-- which slices are in use once one was published
pub used_at-published : (size here offset : ℕ) (ys : List Slice) (s : Slice) → IsPool size ys → slice_at here ys ≡ Some s → used_at offset (published here ys) ≡ cond (here == offset) (Some (record s { usage = Published })) (used_at offset ys)
used_at-published size here offset ys s =
    each_in_words (λ zs. IsPool size zs → slice_at here zs ≡ Some s → used_at offset (published here zs) ≡ cond (here == offset) (Some (record s { usage = Published })) (used_at offset zs))
    (λ xs p found.
    let f = of_found here xs s found in
    rw (published-in_words here xs, used_at-in_words offset xs, used_at-in_words offset (pool.published here xs))
    (ap (option_map in_words) (used.used_at-published size here offset xs f.0 (IsPool-of_words size xs p) f.1)
    ∙ map_cond (here == offset) _ (pool.used_at offset xs)
    ∙ ap (λ (r : Slice). cond (here == offset) (Some (record r { usage = Published })) (option_map in_words (pool.used_at offset xs))) f.2))
    ys

pub published-stays : (size here offset : ℕ) (ys : List Slice) (s t : Slice) → IsPool size ys → slice_at here ys ≡ Some s → here ≢ offset → used_at offset ys ≡ Some t → used_at offset (published here ys) ≡ Some t
published-stays size here offset ys s t p found apart used =
    used_at-published size here offset ys s p found
    ∙ ap (λ b. cond b (Some (record s { usage = Published })) (used_at offset ys)) (ne_eqb here offset apart)
    ∙ used

pub slice_at-published : (size here : ℕ) (ys : List Slice) (s : Slice) → IsPool size ys → slice_at here ys ≡ Some s → slice_at here (published here ys) ≡ Some (record s { usage = Published })
slice_at-published size here ys s p found =
    (used_at-found here (published here ys) (record s { usage = Published })
    (used_at-published size here here ys s p found
    ∙ ap (λ b. cond b (Some (record s { usage = Published })) (used_at here ys)) (eq-eqb here here refl))).0

pub IsPool-published : (size here : ℕ) (ys : List Slice) → IsPool size ys → is_queued here ys ≡ true → IsPool size (published here ys)
IsPool-published size here ys =
    each_in_words (λ zs. IsPool size zs → is_queued here zs ≡ true → IsPool size (published here zs))
    (λ xs p queued.
    rw (published-in_words here xs)
    (IsPool-in_words size _ (pools.IsPool-published size here xs (IsPool-of_words size xs p) (sym (is_queued-in_words here xs) ∙ queued))))
    ys

-- ---- a slice that is given back

-- which slices are in use once one was given back
pub used_at-given_back : (size here offset : ℕ) (ys : List Slice) (s : Slice) → IsPool size ys → slice_at here ys ≡ Some s → used_at offset (given_back here ys) ≡ cond (here == offset) None (used_at offset ys)
used_at-given_back size here offset ys s =
    each_in_words (λ zs. IsPool size zs → slice_at here zs ≡ Some s → used_at offset (given_back here zs) ≡ cond (here == offset) None (used_at offset zs))
    (λ xs p found.
    let f = of_found here xs s found in
    rw (given_back-in_words here xs, used_at-in_words offset xs, used_at-in_words offset (pool.given_back here xs))
    (ap (option_map in_words) (used.used_at-given_back size here offset xs f.0 (IsPool-of_words size xs p) f.1)
    ∙ map_none (here == offset) (pool.used_at offset xs)))
    ys

pub given_back-stays : (size here offset : ℕ) (ys : List Slice) (s t : Slice) → IsPool size ys → slice_at here ys ≡ Some s → here ≢ offset → used_at offset ys ≡ Some t → used_at offset (given_back here ys) ≡ Some t
given_back-stays size here offset ys s t p found apart used =
    used_at-given_back size here offset ys s p found
    ∙ ap (λ b. cond b None (used_at offset ys)) (ne_eqb here offset apart)
    ∙ used

pub IsPool-given_back : (size here : ℕ) (ys : List Slice) → IsPool size ys → IsPool size (given_back here ys)
IsPool-given_back size here ys =
    each_in_words (λ zs. IsPool size zs → IsPool size (given_back here zs))
    (λ xs p. rw (given_back-in_words here xs) (IsPool-in_words size _ (pools.IsPool-given_back size here xs (IsPool-of_words size xs p))))
    ys

-- ---- a whole pool that is free

pub IsPool-whole_pool : (size : ℕ) → IsPoolSize size → IsPool size (whole_pool size)
IsPool-whole_pool size in_range = IsPool-in_words size (pool.one_free size) (pools.IsPool-one_free size in_range)

pub used_at-whole_pool : (size offset : ℕ) → used_at offset (whole_pool size) ≡ None
used_at-whole_pool size offset = used_at-in_words offset (pool.one_free size) ∙ ap (option_map in_words) (used.used_at-one_free size offset)
