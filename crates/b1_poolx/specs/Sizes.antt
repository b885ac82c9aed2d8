use Rattle.std.specs.Prelude.{◌≡◌, ℕ, ◌≤◌, Bool, true, false, nat_le, nat_lt, if◌then◌else◌, List, [], ◌∷◌, Option, Some, None, length, filter}
use Rattle.b1_pool.specs.declared.slices.Slice.{Slice}
use Rattle.b1_pool.specs.Slices.{IsPool, is_free, is_before}

-- how many slices are free
abbrev pub free_count : List Slice → ℕ
free_count slices = length (filter is_free slices)

-- a slice put among others that are ordered by length and then by offset
abbrev pub placed : Slice → List Slice → List Slice
placed s [] = s ∷ []
placed s (t ∷ rest) = if is_before t s then t ∷ placed s rest else s ∷ t ∷ rest

-- the slices without the first one that isn't before this one
abbrev pub without : Slice → List Slice → List Slice
without s [] = []
without s (t ∷ rest) = if is_before t s then t ∷ without s rest else rest

-- the free slices, ordered by length and then by offset
abbrev pub by_size : List Slice → List Slice
by_size [] = []
by_size (s ∷ rest) = if is_free s then placed s (by_size rest) else by_size rest

-- none of the slices comes before this one
abbrev pub NoneBefore : Slice → List Slice → Type 0
NoneBefore s [] = Unit {0}
NoneBefore s (t ∷ rest) = (is_before t s ≡ false) × NoneBefore s rest

-- all of the slices come before this one
abbrev pub AllBefore : Slice → List Slice → Type 0
AllBefore s [] = Unit {0}
AllBefore s (t ∷ rest) = (is_before t s ≡ true) × AllBefore s rest

-- the slices are ordered by length and then by offset
abbrev pub IsBySize : List Slice → Type 0
IsBySize [] = Unit {0}
IsBySize (s ∷ rest) = NoneBefore s rest × IsBySize rest

-- the first of the slices that is at least so long
abbrev pub first_long : ℕ → List Slice → Option Slice
first_long len [] = None
first_long len (s ∷ rest) = if nat_le len s.length then Some s else first_long len rest

-- all of the slices are shorter
abbrev pub AllShorter : ℕ → List Slice → Type 0
AllShorter len [] = Unit {0}
AllShorter len (s ∷ rest) = (nat_lt s.length len ≡ true) × AllShorter len rest

-- none of the slices is shorter
abbrev pub NoneShorter : ℕ → List Slice → Type 0
NoneShorter len [] = Unit {0}
NoneShorter len (s ∷ rest) = (nat_lt s.length len ≡ false) × NoneShorter len rest

-- whether there is no slice
abbrev pub is_empty : List Slice → Bool
is_empty [] = true
is_empty (s ∷ rest) = false

-- the length of the last slice, 0 where there is none
abbrev pub last_length : List Slice → ℕ
last_length [] = 0
last_length (s ∷ rest) = if is_empty rest then s.length else last_length rest

-- what a pool keeps of its free slices: they are in order, and there is room for as many as it has slices
pub record IsSized (size : ℕ) (slices free : List Slice) (room : ℕ) : Type 0 where
  pub pool : IsPool size slices
  pub sized : free ≡ by_size slices
  pub room_for_all : length slices ≤ room
