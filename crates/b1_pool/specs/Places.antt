use Rattle.std.specs.Prelude.{◌≡◌, ◌≢◌, ℕ, zero, suc, ◌+◌, ◌<◌, ◌≤◌, List, [], ◌∷◌, ◌++◌, true, false, Option, Some, None, length, take, drop, filter, slice_get, AllPairs}
use Rattle.b1_pool.specs.declared.slices.Slice.{Slice}
use Rattle.b1_pool.specs.declared.slices.SliceState.TheVariants.{Free}
use Rattle.b1_pool.specs.Slices.{IsPool, is_free, joined, lesser, lesser_of}

-- the slices stand in the order of their offsets, and no two begin at the same one
abbrev pub IsRising : List Slice → Type 0
IsRising slices = AllPairs (λ s t. s.offset < t.offset) slices

-- how many of the slices before a place in the list are free
abbrev pub free_before : ℕ → List Slice → ℕ
free_before place slices = length (filter is_free (take place slices))

-- none of the slices begins at the offset
abbrev pub NoneBegins : ℕ → List Slice → Type 0
NoneBegins offset [] = Unit {0}
NoneBegins offset (s ∷ rest) = (s.offset ≢ offset) × NoneBegins offset rest

-- at the place in the list stands the first slice that begins at the offset
pub record IsPlace (offset : ℕ) (slices : List Slice) (place : ℕ) : Type 0 where
  pub slice : Slice
  pub found : slice_get slices place ≡ Some slice
  pub begins_here : slice.offset ≡ offset
  pub first : NoneBegins offset (take place slices)

-- the lengths of the slices together
abbrev pub total : List Slice → ℕ
total [] = 0
total (s ∷ rest) = s.length + total rest

-- the first of the slices, joined with the second where both are free
abbrev pub joined_front : List Slice → List Slice
joined_front [] = []
joined_front (s ∷ rest) = joined s rest

-- the slices with the one at a place joined with the next where both are free
abbrev pub joined_at : ℕ → List Slice → List Slice
joined_at place slices = take place slices ++ joined_front (drop place slices)

-- the slices with the one at a place free
abbrev pub freed_at : ℕ → List Slice → List Slice
freed_at place [] = []
freed_at zero (s ∷ rest) = record s { state = Free } ∷ rest
freed_at (suc place) (s ∷ rest) = s ∷ freed_at place rest

-- the lesser of a slice and the least one before it, if there is one
abbrev pub so_far : Option Slice → Slice → Slice
so_far None s = s
so_far (Some t) s = lesser t s

-- two free slices that stand side by side
pub record IsFreePair (slices : List Slice) (place : ℕ) (first second : Slice) : Type 0 where
  pub first_at : slice_get slices place ≡ Some first
  pub second_at : slice_get slices (place + 1) ≡ Some second
  pub first_free : is_free first ≡ true
  pub second_free : is_free second ≡ true

-- the lesser of the least slice so far and the least of others, if there are any
abbrev pub least_of : Option Slice → Option Slice → Option Slice
least_of None t = t
least_of (Some s) t = Some (lesser_of s t)

-- the slice at a place is in use
pub record IsUsedAt (slices : List Slice) (place : ℕ) : Type 0 where
  pub slice : Slice
  pub found : slice_get slices place ≡ Some slice
  pub used : is_free slice ≡ false

-- what a pool keeps of its free slices: they are in the same order, and there is room for as many as it has slices
pub record IsListed (size : ℕ) (slices free : List Slice) (room : ℕ) : Type 0 where
  pub pool : IsPool size slices
  pub listed : free ≡ filter is_free slices
  pub room_for_all : length slices ≤ room
