-- How long a message's slice is, and when a free slice is long enough.
use Rattle.std.proofs.Common.{◌≡◌, ℕ, ◌+◌, ◌*◌, ◌/◌, ◌<◌, ◌≤◌, nat_lt, nat_le, Bool, true, false, List, [], ◌∷◌, Some, None, refl, sym, ap, ◌∙◌, inl, inr, arith}
use Rattle.std.specs.Bool.{then_some}
use Rattle.std.proofs.Math.Nat.{le-max_left, le-max_right, max-le}
use Rattle.std.proofs.lemmas.Bool.{cases_Bool, false≢true, leb-true, leb-false, ltb-false, lt-ltb, le-ltb}
use Rattle.b1_model.specs.declared.limits.TheConstants.{MOST_HANDLES, MOST_PAYLOAD}
use Rattle.b1_model.specs.declared.answers.Reason.{Reason}
use Rattle.b1_model.specs.declared.answers.Reason.TheVariants as reason
use Rattle.b1_model.specs.MachineParts.{Slice}
use Rattle.b1_model.specs.MachinePool.{slice_len, largest_free}
use Rattle.b1_pool.specs.declared.slices.Slice.{Slice as PoolSlice}
use Rattle.b1_pool.specs.declared.kind.Full.{Full}
use Rattle.b1_pool.specs.Slices as pool
use Rattle.b1_pool.specs.Slices.{IsLength}
use Rattle.b1_peer_pool.specs.Words.{all_in_words}
use Rattle.b1_peer_pool.specs.Content.{padded_len}
use Rattle.b1_peer_pool.specs.Stored.{full_reason}
use Rattle.b1_peer_pool.proofs.Words.{largest_free-in_words}

-- a message's slice has a length that slices may have
pub IsLength-slice_len : (payload handles : ℕ) → IsLength (slice_len payload handles)
IsLength-slice_len payload handles = (le-max_left 8 ((payload + 7) / 8 * 8 + 8 * handles), omega arith)

-- the padded payload and the handles' numbers have room in it
pub padded_len-within : (payload handles : ℕ) → padded_len payload + 8 * handles ≤ slice_len payload handles
padded_len-within payload handles = le-max_right 8 ((payload + 7) / 8 * 8 + 8 * handles)

pub slice_len-most : (payload handles : ℕ) → payload ≤ MOST_PAYLOAD → handles ≤ MOST_HANDLES → slice_len payload handles ≤ 66048
slice_len-most payload handles few_bytes few_handles = max-le (omega arith) (omega arith)

pub fit_le : (len : ℕ) (xs : List PoolSlice) → pool.has_fit len xs ≡ true → len ≤ pool.largest_free xs
fit_le len [] fit = absurd (false≢true fit)
fit_le len (x ∷ xs) fit =
    elim (cases_Bool (pool.is_free x)) [
      | inl free ↦ rw free (elim (cases_Bool (nat_le len x.length)) [
        | inl long ↦ omega (arith, leb-true len x.length long, le-max_left x.length (pool.largest_free xs))
        | inr short ↦ let rest : len ≤ pool.largest_free xs = fit_le len xs (rw (free, short) at fit) in omega (arith, rest, le-max_right x.length (pool.largest_free xs))
      ])
      | inr used ↦ rw used (fit_le len xs (rw used at fit))
    ]

pub unfit_lt : (len : ℕ) (xs : List PoolSlice) → 0 < len → pool.has_fit len xs ≡ false → pool.largest_free xs < len
unfit_lt len [] some unfit = some
unfit_lt len (x ∷ xs) some unfit =
    elim (cases_Bool (pool.is_free x)) [
      | inl free ↦ rw free (elim (cases_Bool (nat_le len x.length)) [
        | inl long ↦ absurd (false≢true (sym (rw (free, long) at unfit)))
        | inr short ↦
            let rest : pool.largest_free xs < len = unfit_lt len xs some (rw (free, short) at unfit) in
            omega (arith, leb-false len x.length short, rest)
      ])
      | inr used ↦ rw used (unfit_lt len xs some (rw used at unfit))
    ]

-- a free slice is long enough where the greatest one is
pub has_fit-le : (len : ℕ) (xs : List PoolSlice) → 0 < len → len ≤ pool.largest_free xs → pool.has_fit len xs ≡ true
has_fit-le len xs some most =
    elim (cases_Bool (pool.has_fit len xs)) [
      | inl fit ↦ fit
      | inr unfit ↦ absurd (omega (arith, unfit_lt len xs some unfit))
    ]

abbrev reason_of : List Slice → ℕ → ℕ → Reason
reason_of slices payload handles = reason.Full (slice_len payload handles) (largest_free slices)

-- no refusal, where a free slice is long enough
pub none_full : (payload handles len : ℕ) (xs : List PoolSlice) → len ≡ slice_len payload handles → true ≡ pool.has_fit len xs → None ≡ full_reason (all_in_words xs) payload handles
none_full payload handles len xs is fit =
    let most : slice_len payload handles ≤ largest_free (all_in_words xs) = rw (largest_free-in_words xs, ← is) (fit_le len xs (sym fit)) in
    sym (ap (λ b. then_some b (reason_of (all_in_words xs) payload handles)) (le-ltb (largest_free (all_in_words xs)) (slice_len payload handles) most))

-- the refusal, where none is
pub some_full : (e : Full) (payload handles len : ℕ) (xs : List PoolSlice) → len ≡ slice_len payload handles → false ≡ pool.has_fit len xs → e ≡ record { asked = len; largest = pool.largest_free xs } → Some (reason.Full e.asked e.largest) ≡ full_reason (all_in_words xs) payload handles
some_full e payload handles len xs is unfit told =
    let some : 0 < len = rw is (omega (arith, (IsLength-slice_len payload handles).0)) in
    let less : largest_free (all_in_words xs) < slice_len payload handles = rw (largest_free-in_words xs, ← is) (unfit_lt len xs some (sym unfit)) in
    ap (λ d. Some (reason.Full d.asked d.largest)) told
    ∙ rw (is, ← largest_free-in_words xs) (sym (ap (λ b. then_some b (reason_of (all_in_words xs) payload handles)) (lt-ltb (largest_free (all_in_words xs)) (slice_len payload handles) less)))

then_none : {X : Type 0} (b : Bool) (x : X) → then_some b x ≡ None → b ≡ false
then_none true x none = absurd (let e : Some x ≡ None = none in cc)
then_none false x none = refl

-- where a message isn't refused, a free slice is long enough for it
pub full_reason-none : (slices : List Slice) (payload handles : ℕ) → full_reason slices payload handles ≡ None → slice_len payload handles ≤ largest_free slices
full_reason-none slices payload handles none =
    ltb-false (largest_free slices) (slice_len payload handles)
    (then_none (nat_lt (largest_free slices) (slice_len payload handles)) (reason_of slices payload handles) none)
