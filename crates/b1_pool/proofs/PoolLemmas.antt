use Rattle.std.proofs.Common.{◌≡◌, ℕ, ◌+◌, ◌<◌, ◌≤◌, ◌^◌, nat_le, Bool, true, false, List, Some, refl, sym, ap, ◌∙◌, arith}
use Rattle.std.proofs.lemmas.Bool.{false≢true, leb-true, and_parts}
use Rattle.std.proofs.lemmas.Option.{same_Some}
use Rattle.std.proofs.lemmas.List.Elements.{All-from_recursion}
use Rattle.b1_pool.specs.declared.slices.Slice.{Slice}
use Rattle.b1_pool.specs.declared.slices.SliceState.TheVariants.{Free, Unpublished, Published}
use Rattle.b1_pool.specs.Slices.{is_free, is_unpublished, is_fit, least_fit, IsLength, IsBestFit, IsPoolSize, IsPool, one_free, slice_at, passes, begins, length_at, replaced_at, divided, in_state, published, with_alloc, given_back, is_published}
use Rattle.b1_pool.specs.Places.{IsPlace, total, freed_at}
use Rattle.b1_pool.proofs.PlaceLemmas.{slice_at-place, replaced_at-set}
use Rattle.b1_pool.proofs.FitLemmas.{IsLeast, least_fit_finds}
use Rattle.b1_pool.proofs.SliceLemmas.{Spans-found, Spans-among, Spans-replaced_at, Spans-in_state, Spans-divided, Spans-merged, KeepsApart-in_state, KeepsApart-divided, IsMerged-replaced_at, IsMerged-merged, begins-found, total-spans, set-freed_at}

-- a pool stays one when the front of a slice is taken
pub IsPool-with_alloc : (size offset len : ℕ) (xs : List Slice) → IsPool size xs → IsLength len → begins (is_fit len) offset xs ≡ true → IsPool size (with_alloc offset len xs)
IsPool-with_alloc size offset len xs pool length_ok fit =
    let b = begins-found (is_fit len) offset xs fit in
    let parts = and_parts (is_free b.0) (nat_le len b.0.length) b.2 in
    let same = λ (s : Slice) (found : slice_at offset xs ≡ Some s). same_Some b.0 s (sym b.1 ∙ found) in
    record {
      in_range = pool.in_range;
      covers = Spans-replaced_at 0 size offset (divided len) xs
          (λ s found long multiple.
          let most : len ≤ s.length = rw (same s found) at (leb-true len b.0.length parts.1) in
          Spans-divided len s length_ok.0 length_ok.1 most multiple)
          pool.covers;
      merged = IsMerged-replaced_at offset (divided len) xs
          (λ s found. KeepsApart-divided len s (rw (same s found) at parts.0)) pool.merged;
    }

pub unpublished_is_used : (s : Slice) → is_unpublished s ≡ true → is_free s ≡ false
unpublished_is_used s h =
    (elim s.state as (λ state. elim state as (λ _. Bool) [ Free ↦ false | Unpublished ↦ true | Published ↦ false ] ≡ true → elim state as (λ _. Bool) [ Free ↦ true | Unpublished ↦ false | Published ↦ false ] ≡ false) [
      | Free ↦ λ h'. absurd (false≢true h')
      | Unpublished ↦ λ _. refl
      | Published ↦ λ _. refl
    ]) h

pub published_is_used : (s : Slice) → is_published s ≡ true → is_free s ≡ false
published_is_used s h =
    (elim s.state as (λ state. elim state as (λ _. Bool) [ Free ↦ false | Unpublished ↦ false | Published ↦ true ] ≡ true → elim state as (λ _. Bool) [ Free ↦ true | Unpublished ↦ false | Published ↦ false ] ≡ false) [
      | Free ↦ λ h'. absurd (false≢true h')
      | Unpublished ↦ λ _. refl
      | Published ↦ λ _. refl
    ]) h

-- a pool stays one when a slice is published
pub IsPool-published : (size offset : ℕ) (xs : List Slice) → IsPool size xs → begins is_unpublished offset xs ≡ true → IsPool size (published offset xs)
IsPool-published size offset xs pool unpublished =
    let b = begins-found is_unpublished offset xs unpublished in
    record {
      in_range = pool.in_range;
      covers = Spans-replaced_at 0 size offset (in_state Published) xs (λ s found long multiple. Spans-in_state Published s long multiple) pool.covers;
      merged = IsMerged-replaced_at offset (in_state Published) xs
          (λ s found. KeepsApart-in_state Published s (sym (unpublished_is_used s (rw (same_Some b.0 s (sym b.1 ∙ found)) at b.2)))) pool.merged;
    }

-- a pool stays one when a slice is given back
pub IsPool-given_back : (size offset : ℕ) (xs : List Slice) → IsPool size xs → IsPool size (given_back offset xs)
IsPool-given_back size offset xs pool = record {
  in_range = pool.in_range;
  covers = Spans-merged 0 size (replaced_at offset (in_state Free) xs)
      (Spans-replaced_at 0 size offset (in_state Free) xs (λ s found long multiple. Spans-in_state Free s long multiple) pool.covers);
  merged = IsMerged-merged (replaced_at offset (in_state Free) xs);
}

-- one free slice is a pool
pub IsPool-one_free : (size : ℕ) → IsPoolSize size → IsPool size (one_free size)
IsPool-one_free size in_range = record { in_range = in_range; covers = (refl, in_range.least, in_range.multiple, omega arith); merged = (refl, tt) }

-- the lengths of a pool's slices together
pub total-IsPool : (size : ℕ) (xs : List Slice) → IsPool size xs → total xs < 2 ^ 32
total-IsPool size xs pool = omega (arith, total-spans 0 size xs pool.covers, pool.in_range.most)

-- a slice of a pool ends within it
pub within-IsPool : (size offset : ℕ) (p : Slice → Bool) (xs : List Slice) → IsPool size xs → begins p offset xs ≡ true → offset + length_at offset xs ≤ size
within-IsPool size offset p xs pool begun =
    let b = begins-found p offset xs begun in
    let stands = Spans-found 0 size offset xs b.0 pool.covers b.1 in
    rw b.1 (omega (arith, stands.0.high, stands.1))

pub inside-IsPool : (size offset : ℕ) (p : Slice → Bool) (xs : List Slice) → IsPool size xs → begins p offset xs ≡ true → offset + length_at offset xs < 2 ^ 32
inside-IsPool size offset p xs pool begun = omega (arith, within-IsPool size offset p xs pool begun, pool.in_range.most)

-- a slice that is freed where it stands
pub freed_at-place : (offset : ℕ) (xs : List Slice) (i : ℕ) → IsPlace offset xs i → freed_at i xs ≡ replaced_at offset (in_state Free) xs
freed_at-place offset xs i p = sym (set-freed_at xs i p.slice p.found) ∙ replaced_at-set offset (in_state Free) xs i p (record p.slice { state = Free }) refl

-- a test of the slice that stands at a place
pub begins-place : (p : Slice → Bool) (offset : ℕ) (xs : List Slice) (i : ℕ) (place : IsPlace offset xs i) → begins p offset xs ≡ p place.slice
begins-place p offset xs i place = ap (passes p) (slice_at-place offset xs i place)

-- where the least fit is found, it begins there and fits
pub begins-least_fit : (size len : ℕ) (xs : List Slice) (s : Slice) → IsPool size xs → least_fit len xs ≡ Some s → begins (is_fit len) s.offset xs ≡ true
begins-least_fit size len xs s pool found =
    let least : IsLeast len xs s = rw found at (least_fit_finds len xs) in
    rw (Spans-among 0 size xs s pool.covers least.among).found least.fit

-- what is found is the best fit
pub IsBestFit-least_fit : (size len : ℕ) (xs : List Slice) (s : Slice) → IsPool size xs → least_fit len xs ≡ Some s → IsBestFit len xs s.offset
IsBestFit-least_fit size len xs s pool found =
    let least : IsLeast len xs s = rw found at (least_fit_finds len xs) in
    record { slice = s; begins_here = (Spans-among 0 size xs s pool.covers least.among).found; fit = least.fit; least = All-from_recursion _ xs least.least }

-- the least fit stands among the slices, and fits
pub least_fit-found : (size len : ℕ) (xs : List Slice) (s : Slice) → IsPool size xs → least_fit len xs ≡ Some s → (slice_at s.offset xs ≡ Some s) × (is_fit len s ≡ true)
least_fit-found size len xs s pool found =
    let least : IsLeast len xs s = rw found at (least_fit_finds len xs) in
    ((Spans-among 0 size xs s pool.covers least.among).found, least.fit)
