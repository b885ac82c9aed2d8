-- What slices hold.
use Rattle.std.proofs.Common.{◌≡◌, ◌≢◌, ℕ, ◌+◌, ◌-◌, ◌*◌, ◌≤◌, List, [], ◌∷◌, Some, None, true, length, replicate, refl, sym, ap, ◌∙◌, inl, inr, arith}
use Rattle.std.proofs.lemmas.List.{length-append, length-replicate}
use Rattle.std.specs.Int.{w64, to_le_bytes}
use Rattle.b1_model.specs.declared.tables.Usage.TheVariants.{Unpublished}
use Rattle.b1_model.specs.MachineParts.{Slice}
use Rattle.b1_model.specs.MachinePool.{slice_len, largest_free, slice_at, taken, taken_offset}
use Rattle.b1_pool.specs.Bytes.{bytes_from, written}
use Rattle.b1_peer_pool.specs.Slices.{is_queued, len_at, used_at, IsPool}
use Rattle.b1_peer_pool.specs.Content.{padded_len, padded, number_bytes, message_bytes, Holds, SameElsewhere}
use Rattle.b1_peer_pool.specs.Stored.{Stored, IsStored, full_reason}
use Rattle.b1_peer_pool.proofs.Bytes.{length-written, Holds-written, Holds-append, Holds-same, bytes_from-below, bytes_from-above}
use Rattle.b1_peer_pool.proofs.Fits.{IsLength-slice_len, padded_len-within, full_reason-none}
use Rattle.b1_peer_pool.proofs.Found.{slice_at-within, slices-apart, used_at-found, used-len_at, is_queued-used}
use Rattle.b1_peer_pool.proofs.Laws.{IsPool-taken, slice_at-taken, taken-stays}

-- ---- lengths

pub length-padded : (payload : List ℕ) → length (padded payload) ≡ padded_len (length payload)
length-padded payload =
    length-append payload (replicate (padded_len (length payload) - length payload) 0)
    ∙ omega (arith, length-replicate {A = ℕ} (padded_len (length payload) - length payload) 0)

pub length-number_bytes : (numbers : List ℕ) → length (number_bytes numbers) ≡ 8 * length numbers
length-number_bytes [] = refl
length-number_bytes (n ∷ numbers) = length-append (to_le_bytes w64 n) (number_bytes numbers) ∙ omega (arith, length-number_bytes numbers)

pub length-message_bytes : (payload numbers : List ℕ) → length (message_bytes payload numbers) ≡ padded_len (length payload) + 8 * length numbers
length-message_bytes payload numbers = length-append (padded payload) (number_bytes numbers) ∙ omega (arith, length-padded payload, length-number_bytes numbers)

-- ---- writes into one slice

-- a write into a slice is within the pool
pub starts_within : (size here at : ℕ) (new bytes : List ℕ) (ys : List Slice) (s : Slice) → IsPool size ys → length bytes ≡ size → slice_at here ys ≡ Some s → at + length new ≤ s.len → here + at + length new ≤ length bytes
starts_within size here at new bytes ys s p as_long found within = omega (arith, (slice_at-within size here ys s p found).high, as_long, within)

pub same_elsewhere : (size here at start : ℕ) (new bytes : List ℕ) (ys : List Slice) (s : Slice) → start ≡ here + at → IsPool size ys → length bytes ≡ size → slice_at here ys ≡ Some s → at + length new ≤ s.len → SameElsewhere here ys bytes (written start new bytes)
same_elsewhere size here at start new bytes ys s is p as_long found within offset t used apart =
    let inside = starts_within size here at new bytes ys s p as_long found within in
    elim (slices-apart size here offset ys s t p found (used_at-found offset ys t used).0 apart) [
      | inl behind ↦ bytes_from-above offset t.len start new bytes (omega (arith, is, behind, within)) (omega (arith, is, inside))
      | inr before ↦ bytes_from-below offset t.len start new bytes (omega (arith, is, before)) (omega (arith, is, inside))
    ]

-- ---- a message that is put

-- its slice begins with its payload
pub put-holds : (size handles : ℕ) (payload bytes : List ℕ) (ys : List Slice) → IsPool size ys → length bytes ≡ size → slice_len (length payload) handles ≤ largest_free ys → Holds (taken_offset (slice_len (length payload) handles) ys) (written (taken_offset (slice_len (length payload) handles) ys) (padded payload) bytes) (padded payload)
put-holds size handles payload bytes ys p as_long most =
    let len = slice_len (length payload) handles in
    let length_ok = IsLength-slice_len (length payload) handles in
    let w = slice_at-within size (taken_offset len ys) (taken len ys) (record { offset = taken_offset len ys; len = len; usage = Unpublished }) (IsPool-taken size len ys p length_ok most) (slice_at-taken size len ys p length_ok most) in
    Holds-written (taken_offset len ys) (padded payload) bytes (omega (arith, w.high, as_long))

-- as many bytes as before
pub put-length : (size handles : ℕ) (payload bytes : List ℕ) (ys : List Slice) → IsPool size ys → length bytes ≡ size → slice_len (length payload) handles ≤ largest_free ys → length (written (taken_offset (slice_len (length payload) handles) ys) (padded payload) bytes) ≡ size
put-length size handles payload bytes ys p as_long most =
    let len = slice_len (length payload) handles in
    let length_ok = IsLength-slice_len (length payload) handles in
    let w = slice_at-within size (taken_offset len ys) (taken len ys) (record { offset = taken_offset len ys; len = len; usage = Unpublished }) (IsPool-taken size len ys p length_ok most) (slice_at-taken size len ys p length_ok most) in
    length-written (taken_offset len ys) (padded payload) bytes (omega (arith, w.high, as_long, length-padded payload, padded_len-within (length payload) handles))
    ∙ as_long

-- the slices in use before keep their bytes
pub put-elsewhere : (size handles : ℕ) (payload bytes : List ℕ) (ys : List Slice) → IsPool size ys → length bytes ≡ size → slice_len (length payload) handles ≤ largest_free ys → SameElsewhere (taken_offset (slice_len (length payload) handles) ys) ys bytes (written (taken_offset (slice_len (length payload) handles) ys) (padded payload) bytes)
put-elsewhere size handles payload bytes ys p as_long most offset t used apart =
    let len = slice_len (length payload) handles in
    let length_ok = IsLength-slice_len (length payload) handles in
    same_elsewhere size (taken_offset len ys) 0 (taken_offset len ys) (padded payload) bytes (taken len ys) (record { offset = taken_offset len ys; len = len; usage = Unpublished }) (omega arith) (IsPool-taken size len ys p length_ok most) as_long (slice_at-taken size len ys p length_ok most) (omega (arith, length-padded payload, padded_len-within (length payload) handles))
    offset t (taken-stays size len offset ys t p length_ok most used) apart

-- ---- a message that is received

-- the numbers stand behind the payload
pub Holds-message : (offset at : ℕ) (payload numbers old new : List ℕ) → at ≡ padded_len (length payload) → new ≡ written (offset + at) (number_bytes numbers) old → offset + at ≤ length old → Holds offset old (padded payload) → Holds offset new (message_bytes payload numbers)
Holds-message offset at payload numbers old new behind is within held =
    let end : at ≡ length (padded payload) = behind ∙ sym (length-padded payload) in
    rw is
    (Holds-append offset (written (offset + at) (number_bytes numbers) old) (padded payload) (number_bytes numbers)
    (Holds-same offset at old (written (offset + at) (number_bytes numbers) old) (padded payload) (bytes_from-below offset at (offset + at) (number_bytes numbers) old (omega arith) within) (omega (arith, end)) held)
    (ap (λ n. bytes_from (offset + n) (length (number_bytes numbers)) (written (offset + at) (number_bytes numbers) old)) (sym end)
    ∙ Holds-written (offset + at) (number_bytes numbers) old within))

-- what another slice in use holds stays
pub Holds-elsewhere : (here offset : ℕ) (ys : List Slice) (s : Slice) (old new expected : List ℕ) → SameElsewhere here ys old new → used_at offset ys ≡ Some s → here ≢ offset → length expected ≤ s.len → Holds offset old expected → Holds offset new expected
Holds-elsewhere here offset ys s old new expected same used apart most held = Holds-same offset s.len old new expected (same offset s used apart) most held

-- ---- the store after a message was put, and after it was published

-- as many bytes as before, the payload in its slice, and the same bytes in all other slices in use
pub record IsFilled (s : Stored) (offset start : ℕ) (new expected : List ℕ) : Type 0 where
  pub as_long : length new ≡ s.size
  pub holds : Holds start new expected
  pub others : SameElsewhere offset s.slices s.bytes new

pub put-filled : (s : Stored) (offset handles : ℕ) (payload new : List ℕ) → IsStored s → full_reason s.slices (length payload) handles ≡ None → offset ≡ taken_offset (slice_len (length payload) handles) s.slices → new ≡ written offset (padded payload) s.bytes → IsFilled s offset offset new (padded payload)
put-filled s offset handles payload new ok fits there is =
    let most = full_reason-none s.slices (length payload) handles fits in
    rw (is, there) (record {
      as_long = put-length s.size handles payload s.bytes s.slices ok.pool ok.as_long most;
      holds = put-holds s.size handles payload s.bytes s.slices ok.pool ok.as_long most;
      others = put-elsewhere s.size handles payload s.bytes s.slices ok.pool ok.as_long most;
    })

pub publish-filled : (s : Stored) (offset at : ℕ) (numbers new : List ℕ) → IsStored s → is_queued offset s.slices ≡ true → at + 8 * length numbers ≤ len_at offset s.slices → new ≡ written (offset + at) (number_bytes numbers) s.bytes → IsFilled s offset (offset + at) new (number_bytes numbers)
publish-filled s offset at numbers new ok queued room is =
    let u = is_queued-used offset s.slices queued in
    let found = (used_at-found offset s.slices u.0 u.1).0 in
    let within : at + length (number_bytes numbers) ≤ u.0.len = omega (arith, room, length-number_bytes numbers, used-len_at offset s.slices u.0 u.1) in
    let inside = starts_within s.size offset at (number_bytes numbers) s.bytes s.slices u.0 ok.pool ok.as_long found within in
    rw is (record {
      as_long = length-written (offset + at) (number_bytes numbers) s.bytes inside ∙ ok.as_long;
      holds = Holds-written (offset + at) (number_bytes numbers) s.bytes (omega (arith, inside));
      others = same_elsewhere s.size offset at (offset + at) (number_bytes numbers) s.bytes s.slices u.0 refl ok.pool ok.as_long found within;
    })
