-- The steps by which a slice is filled.
use Rattle.std.proofs.Common.{◌≡◌, ℕ, ◌+◌, ◌-◌, ◌*◌, ◌<◌, ◌≤◌, true, not, List, [], ◌∷◌, ◌++◌, Option, Some, None, length, take, get_or, replicate, refl, sym, ap, ◌∙◌, append_assoc, arith}
use Rattle.std.specs.Prelude.{option_map}
use Rattle.std.specs.Int.{w64, to_le_bytes}
use Rattle.std.proofs.lemmas.Option.{same_Some}
use Rattle.std.proofs.lemmas.List.{append-nil, length-take-le, take_more, take-replicate}
use Rattle.b1_model.specs.declared.tables.Usage.TheVariants.{Unpublished}
use Rattle.b1_model.specs.MachineParts.{Slice}
use Rattle.b1_model.specs.MachinePool.{slice_len, slice_at, taken, taken_offset}
use Rattle.b1_pool.specs.declared.slices.Slice.{Slice as PoolSlice}
use Rattle.b1_pool.specs.declared.slices.SliceState.TheVariants as state
use Rattle.b1_pool.specs.Slices as pool
use Rattle.b1_pool.specs.Bytes.{written}
use Rattle.b1_pool.proofs.PoolLemmas.{unpublished_is_used}
use Rattle.b1_pool.proofs.SliceLemmas.{Spans-found, begins-found}
use Rattle.b1_peer_pool.specs.Words.{in_words, all_in_words}
use Rattle.b1_peer_pool.specs.Slices.{is_queued, len_at, IsPool}
use Rattle.b1_peer_pool.specs.Content.{padded_len, padded, number_bytes}
use Rattle.b1_peer_pool.specs.Stored.{full_reason}
use Rattle.b1_peer_pool.proofs.Words.{is_queued-in_words, largest_free-in_words, taken_offset-in_words, taken-in_words, slice_at-in_words}
use Rattle.b1_peer_pool.proofs.Fits.{IsLength-slice_len, has_fit-le, full_reason-none}
use Rattle.b1_peer_pool.proofs.Found.{slice_at-within, is_queued-used, used_at-found, used-len_at}
use Rattle.b1_peer_pool.proofs.Bytes.{written-written}
use Rattle.b1_peer_pool.proofs.Holding.{length-number_bytes}

-- ---- the slice of a queued message

pub used_there : (offset : ℕ) (xs : List PoolSlice) → is_queued offset (all_in_words xs) ≡ true → pool.begins pool.is_used offset xs ≡ true
used_there offset xs queued =
    let b = begins-found pool.is_unpublished offset xs (sym (is_queued-in_words offset xs) ∙ queued) in
    ap (pool.passes pool.is_used) b.1 ∙ ap not (unpublished_is_used b.0 b.2)

pub ends_within : (size offset : ℕ) (ys : List Slice) → IsPool size ys → is_queued offset ys ≡ true → offset + len_at offset ys ≤ size
ends_within size offset ys p queued =
    let u = is_queued-used offset ys queued in
    let w = slice_at-within size offset ys u.0 p (used_at-found offset ys u.0 u.1).0 in
    omega (arith, w.high, used-len_at offset ys u.0 u.1)

-- ---- a payload

-- a message that isn't refused has a free slice that is long enough
pub fits_there : (payload handles len : ℕ) (xs : List PoolSlice) → full_reason (all_in_words xs) payload handles ≡ None → len ≡ slice_len payload handles → pool.has_fit len xs ≡ true
fits_there payload handles len xs none is =
    let most : slice_len payload handles ≤ pool.largest_free xs = rw (← largest_free-in_words xs) (full_reason-none (all_in_words xs) payload handles none) in
    rw is (has_fit-le (slice_len payload handles) xs (omega (arith, (IsLength-slice_len payload handles).0)) most)

best_found : (o : Option PoolSlice) (offset : ℕ) → option_map (λ (s : PoolSlice). s.offset) o ≡ Some offset → (s : PoolSlice) × (o ≡ Some s) × (s.offset ≡ offset)
best_found None offset h = absurd (let e : None ≡ Some offset = h in cc)
best_found (Some s) offset h = (s, refl, same_Some s.offset offset h)

pub put_offset : (offset payload handles len : ℕ) (xs : List PoolSlice) → len ≡ slice_len payload handles → pool.best_fit len xs ≡ Some offset → offset ≡ taken_offset (slice_len payload handles) (all_in_words xs)
put_offset offset payload handles len xs is best =
    let f = best_found (pool.least_fit len xs) offset best in
    rw (← is) (sym (taken_offset-in_words len xs f.0 f.1 ∙ f.2))

pub put_slices : (offset payload handles len : ℕ) (xs ys : List PoolSlice) → len ≡ slice_len payload handles → pool.best_fit len xs ≡ Some offset → ys ≡ pool.with_alloc offset len xs → all_in_words ys ≡ taken (slice_len payload handles) (all_in_words xs)
put_slices offset payload handles len xs ys is best after =
    let f = best_found (pool.least_fit len xs) offset best in
    rw (← is) (ap all_in_words after ∙ ap (λ o. all_in_words (pool.with_alloc o len xs)) (sym f.2) ∙ sym (taken-in_words len xs f.0 f.1))

pub put_taken : (offset payload handles len : ℕ) (ys : List PoolSlice) → len ≡ slice_len payload handles → pool.slice_at offset ys ≡ Some (record { offset = offset; length = len; state = state.Unpublished }) → slice_at offset (all_in_words ys) ≡ Some (record { offset = offset; len = slice_len payload handles; usage = Unpublished })
put_taken offset payload handles len ys is found = rw (← is) (slice_at-in_words offset ys ∙ ap (option_map in_words) found)

-- the zeros behind a payload, of eight
pub few_zeros : (size end : ℕ) → end ≡ padded_len size → take {A = ℕ} (end - size) (replicate 8 0) ≡ replicate (padded_len size - size) 0
few_zeros size end is = rw is (take-replicate (padded_len size - size) 8 0 (omega arith))

-- the payload and the zeros behind it
pub put_bytes : (offset : ℕ) (payload zeros old taken first second : List ℕ) (ys : List PoolSlice) (s : PoolSlice) → pool.IsPool (length taken) ys → pool.slice_at offset ys ≡ Some s → taken ≡ old → first ≡ written (offset + 0) payload taken → second ≡ written (offset + length payload) zeros first → zeros ≡ replicate (padded_len (length payload) - length payload) 0 → second ≡ written offset (padded payload) old
put_bytes offset payload zeros old taken first second ys s p found same one two are_zeros =
    let stands = Spans-found 0 (length taken) offset ys s p.covers found in
    let within : offset ≤ length old = omega (arith, stands.0.high, stands.1, ap length same) in
    let none : offset + 0 ≡ offset = omega arith in
    two
    ∙ ap (written (offset + length payload) zeros) (one ∙ ap (λ n. written n payload taken) none ∙ ap (written offset payload) same)
    ∙ written-written offset payload zeros old within
    ∙ ap (λ z. written offset (payload ++ z) old) are_zeros

-- ---- numbers

number_bytes-append : (xs ys : List ℕ) → number_bytes (xs ++ ys) ≡ number_bytes xs ++ number_bytes ys
number_bytes-append [] ys = refl
number_bytes-append (x ∷ xs) ys = ap (λ r. to_le_bytes w64 x ++ r) (number_bytes-append xs ys) ∙ sym (append_assoc (to_le_bytes w64 x) (number_bytes xs) (number_bytes ys))

-- one number more
pub number_bytes-more : (numbers : List ℕ) (i : ℕ) → i < length numbers → number_bytes (take (i + 1) numbers) ≡ number_bytes (take i numbers) ++ to_le_bytes w64 (get_or numbers i 0)
number_bytes-more numbers i within =
    ap number_bytes (take_more numbers i 0 within)
    ∙ number_bytes-append (take i numbers) (get_or numbers i 0 ∷ [])
    ∙ ap (λ r. number_bytes (take i numbers) ++ r) (append-nil (to_le_bytes w64 (get_or numbers i 0)))

pub numbers_more : (start i place : ℕ) (numbers eight old before after : List ℕ) → i < length numbers → start ≤ length old → before ≡ written start (number_bytes (take i numbers)) old → eight ≡ to_le_bytes w64 (get_or numbers i 0) → after ≡ written place eight before → place ≡ start + 8 * i → after ≡ written start (number_bytes (take (i + 1) numbers)) old
numbers_more start i place numbers eight old before after within inside so is then at_end =
    let end : place ≡ start + length (number_bytes (take i numbers)) = omega (arith, at_end, length-number_bytes (take i numbers), length-take-le i numbers (omega arith)) in
    then
    ∙ ap (written place eight) so
    ∙ ap (λ p. written p eight (written start (number_bytes (take i numbers)) old)) end
    ∙ written-written start (number_bytes (take i numbers)) eight old inside
    ∙ ap (λ e. written start (number_bytes (take i numbers) ++ e) old) is
    ∙ ap (λ b. written start b old) (sym (number_bytes-more numbers i within))
