use Rattle.std.specs.Prelude.{◌≡◌, ℕ, ◌+◌, ◌-◌, ◌%◌, ◌<◌, ◌≤◌, Bool, true, false, not, ◌&&◌, ◌||◌, ◌==◌, nat_lt, nat_le, max, if◌then◌else◌, List, [], ◌∷◌, ◌++◌, Option, Some, None, option_map, All, ◌⊎◌}
use Rattle.b1_pool.specs.declared.slices.Slice.{Slice}
use Rattle.b1_pool.specs.declared.slices.SliceState.{SliceState}
use Rattle.b1_pool.specs.declared.slices.SliceState.TheVariants.{Free, Unpublished, Published}

-- the slice is free
abbrev pub is_free : Slice → Bool
is_free s = elim s.state [ Free ↦ true | Unpublished ↦ false | Published ↦ false ]

-- the slice is in use, published or not
abbrev pub is_used : Slice → Bool
is_used s = not (is_free s)

-- the slice is in use and not published yet
abbrev pub is_unpublished : Slice → Bool
is_unpublished s = elim s.state [ Free ↦ false | Unpublished ↦ true | Published ↦ false ]

-- the slice is in use and published
abbrev pub is_published : Slice → Bool
is_published s = elim s.state [ Free ↦ false | Unpublished ↦ false | Published ↦ true ]

-- a length that a slice may have: a multiple of 8, and at least 8
abbrev pub IsLength : ℕ → Type 0
IsLength n = (8 ≤ n) × (n % 8 ≡ 0)

-- the slices stand one after another, without gap or overlap, from one offset to another
abbrev pub Spans : ℕ → ℕ → List Slice → Type 0
Spans start end [] = start ≡ end
Spans start end (s ∷ rest) = (s.offset ≡ start) × (8 ≤ s.length) × (s.length % 8 ≡ 0) × Spans (start + s.length) end rest

-- the slices cover a pool of this size
abbrev pub Covers : ℕ → List Slice → Type 0
Covers size slices = Spans 0 size slices

-- the first of the slices is free
abbrev pub starts_free : List Slice → Bool
starts_free [] = false
starts_free (s ∷ rest) = is_free s

-- no two free slices stand side by side
abbrev pub IsMerged : List Slice → Type 0
IsMerged [] = Unit {0}
IsMerged (s ∷ rest) = ((is_free s && starts_free rest) ≡ false) × IsMerged rest

-- a size that a pool may have: 8 to 4,194,304 bytes, a multiple of 8
pub record IsPoolSize (size : ℕ) : Type 0 where
  pub least : 8 ≤ size
  pub most : size ≤ 4194304
  pub multiple : size % 8 ≡ 0

-- the slices of a pool of this size
pub record IsPool (size : ℕ) (slices : List Slice) : Type 0 where
  pub in_range : IsPoolSize size
  pub covers : Covers size slices
  pub merged : IsMerged slices

-- a pool that is one free slice
abbrev pub one_free : ℕ → List Slice
one_free size = record { offset = 0; length = size; state = Free } ∷ []

-- the slice that begins at an offset
abbrev pub slice_at : ℕ → List Slice → Option Slice
slice_at offset [] = None
slice_at offset (s ∷ rest) = if s.offset == offset then Some s else slice_at offset rest

-- there is a slice, and it passes the test
abbrev pub passes : (Slice → Bool) → Option Slice → Bool
passes p None = false
passes p (Some s) = p s

-- a slice that passes the test begins at the offset
abbrev pub begins : (Slice → Bool) → ℕ → List Slice → Bool
begins p offset slices = passes p (slice_at offset slices)

-- a slice, if it is in use
abbrev pub used_of : Option Slice → Option Slice
used_of None = None
used_of (Some s) = if is_used s then Some s else None

-- the slice in use that begins at an offset
abbrev pub used_at : ℕ → List Slice → Option Slice
used_at offset slices = used_of (slice_at offset slices)

-- the length of a slice, 0 for none
abbrev pub length_of : Option Slice → ℕ
length_of None = 0
length_of (Some s) = s.length

-- the length of the slice that begins at an offset
abbrev pub length_at : ℕ → List Slice → ℕ
length_at offset slices = length_of (slice_at offset slices)

-- the greatest length of a free slice, 0 where none is free
abbrev pub largest_free : List Slice → ℕ
largest_free [] = 0
largest_free (s ∷ rest) = if is_free s then max s.length (largest_free rest) else largest_free rest

-- the slice is free and at least so long
abbrev pub is_fit : ℕ → Slice → Bool
is_fit len s = is_free s && nat_le len s.length

-- some free slice is at least so long
abbrev pub has_fit : ℕ → List Slice → Bool
has_fit len [] = false
has_fit len (s ∷ rest) = is_fit len s || has_fit len rest

-- the first slice is shorter than the second, or as long and at a lower offset
abbrev pub is_before : Slice → Slice → Bool
is_before s t = nat_lt s.length t.length || ((s.length == t.length) && nat_lt s.offset t.offset)

-- the lesser of two slices
abbrev pub lesser : Slice → Slice → Slice
lesser s t = if is_before t s then t else s

-- the lesser of a slice and another one, if there is one
abbrev pub lesser_of : Slice → Option Slice → Slice
lesser_of s None = s
lesser_of s (Some t) = lesser s t

-- the least free slice that is at least so long, the one at the lowest offset among equals
abbrev pub least_fit : ℕ → List Slice → Option Slice
least_fit len [] = None
least_fit len (s ∷ rest) = if is_fit len s then Some (lesser_of s (least_fit len rest)) else least_fit len rest

-- the offset of the least free slice that is at least so long
abbrev pub best_fit : ℕ → List Slice → Option ℕ
best_fit len slices = option_map (λ s. s.offset) (least_fit len slices)

-- the first slice comes no later than the second by length and then by offset
abbrev pub IsNotAfter : Slice → Slice → Type 0
IsNotAfter s t = (s.length < t.length) ⊎ ((s.length ≡ t.length) × (s.offset ≤ t.offset))

-- the slice that begins at the offset is free and long enough, and no other such slice comes before it
pub record IsBestFit (len : ℕ) (slices : List Slice) (offset : ℕ) : Type 0 where
  pub slice : Slice
  pub begins_here : slice_at offset slices ≡ Some slice
  pub fit : is_fit len slice ≡ true
  pub least : All (λ other. is_fit len other ≡ true → IsNotAfter slice other) slices

-- the slices with other slices in place of the one that begins at the offset
abbrev pub replaced_at : ℕ → (Slice → List Slice) → List Slice → List Slice
replaced_at offset f [] = []
replaced_at offset f (s ∷ rest) = if s.offset == offset then f s ++ rest else s ∷ replaced_at offset f rest

-- what is left of a slice behind its first bytes
abbrev pub rest_of : ℕ → Slice → List Slice
rest_of len s = if nat_lt len s.length then record { offset = s.offset + len; length = s.length - len; state = Free } ∷ [] else []

-- the front of a slice, unpublished, and what is left of it, free
abbrev pub divided : ℕ → Slice → List Slice
divided len s = record { offset = s.offset; length = len; state = Unpublished } ∷ rest_of len s

-- the slices once the front of the one at the offset was taken
abbrev pub with_alloc : ℕ → ℕ → List Slice → List Slice
with_alloc offset len slices = replaced_at offset (divided len) slices

-- a slice in another state
abbrev pub in_state : SliceState → Slice → List Slice
in_state state s = record s { state = state } ∷ []

-- the slices once the one at the offset was published
abbrev pub published : ℕ → List Slice → List Slice
published offset slices = replaced_at offset (in_state Published) slices

-- one slice in place of two that stand side by side
abbrev pub whole : Slice → Slice → Slice
whole s t = record s { length = s.length + t.length }

-- a slice before others, and joined with the first of them where both are free
abbrev pub joined : Slice → List Slice → List Slice
joined s [] = s ∷ []
joined s (t ∷ rest) = if is_free s && is_free t then whole s t ∷ rest else s ∷ t ∷ rest

-- the slices with all free ones that stand side by side joined
abbrev pub merged : List Slice → List Slice
merged [] = []
merged (s ∷ rest) = joined s (merged rest)

-- the slices once the one at the offset was given back: it is free, and joined with its free neighbours
abbrev pub given_back : ℕ → List Slice → List Slice
given_back offset slices = merged (replaced_at offset (in_state Free) slices)
