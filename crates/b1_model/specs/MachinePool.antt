-- The pool of a peer's part: which slice a message gets, and what giving it back leaves.
use Rattle.std.specs.Prelude.{ℕ, ◌+◌, ◌*◌, ◌-◌, ◌/◌, ◌==◌, max, Bool, true, false, ◌&&◌, ◌||◌, nat_lt, nat_le, if◌then◌else◌, List, [], ◌∷◌, ◌++◌, Option, Some, None, find}
use Rattle.b1_model.specs.declared.tables.Usage.{Usage}
use Rattle.b1_model.specs.declared.tables.Usage.TheVariants.{Free, Unpublished, Published}
use Rattle.b1_model.specs.MachineParts.{Slice}

-- a slice's length: the payload rounded up to a multiple of 8, 8 for each handle, and at least 8
abbrev pub slice_len : ℕ → ℕ → ℕ
slice_len payload handles = max 8 ((payload + 7) / 8 * 8 + 8 * handles)

-- used for nothing
abbrev pub is_free : Slice → Bool
is_free s = elim s.usage [ Free ↦ true | Unpublished ↦ false | Published ↦ false ]

-- used for a received message
abbrev pub is_published : Slice → Bool
is_published s = elim s.usage [ Free ↦ false | Unpublished ↦ false | Published ↦ true ]

-- the greatest free length, 0 where nothing is free
abbrev pub largest_free : List Slice → ℕ
largest_free [] = 0
largest_free (s ∷ rest) = if is_free s then max s.len (largest_free rest) else largest_free rest

-- a free slice that is at least so long
abbrev pub is_fit : ℕ → Slice → Bool
is_fit len s = is_free s && nat_le len s.len

-- the first slice is shorter than the second, or as long and at a lower offset
abbrev pub slice_before : Slice → Slice → Bool
slice_before s t = nat_lt s.len t.len || ((s.len == t.len) && nat_lt s.offset t.offset)

-- the lesser of a slice and another one, if there is one
abbrev pub lesser_of : Slice → Option Slice → Slice
lesser_of s None = s
lesser_of s (Some t) = if slice_before t s then t else s

-- the least free slice that is at least so long, the one at the lowest offset among equals
abbrev pub least_fit : ℕ → List Slice → Option Slice
least_fit len [] = None
least_fit len (s ∷ rest) = if is_fit len s then Some (lesser_of s (least_fit len rest)) else least_fit len rest

-- the slice that begins at an offset
abbrev pub slice_at : ℕ → List Slice → Option Slice
slice_at offset slices = find (λ s. s.offset == offset) slices

-- the slices with others in place of the one that begins at an offset
abbrev pub replaced_at : ℕ → (Slice → List Slice) → List Slice → List Slice
replaced_at offset f [] = []
replaced_at offset f (s ∷ rest) = if s.offset == offset then f s ++ rest else s ∷ replaced_at offset f rest

-- what is left of a slice behind its front part
abbrev pub rest_of : ℕ → Slice → List Slice
rest_of len s = if nat_lt len s.len then record { offset = s.offset + len; len = s.len - len; usage = Free } ∷ [] else []

-- the front part of a slice is used, and what is left stays free
abbrev pub divided : ℕ → Slice → List Slice
divided len s = record { offset = s.offset; len = len; usage = Unpublished } ∷ rest_of len s

-- where the slice begins that a message of this length gets
abbrev pub taken_offset : ℕ → List Slice → ℕ
taken_offset len slices = elim (least_fit len slices) [ None ↦ 0 | Some s ↦ s.offset ]

-- the slices after a message of this length got its own
abbrev pub taken : ℕ → List Slice → List Slice
taken len slices = elim (least_fit len slices) [ None ↦ slices | Some s ↦ replaced_at s.offset (divided len) slices ]

-- a slice in another use
abbrev pub used_as : Usage → Slice → List Slice
used_as usage s = record s { usage = usage } ∷ []

-- a slice in front of others: two free ones become one
abbrev pub joined : Slice → List Slice → List Slice
joined s [] = s ∷ []
joined s (t ∷ rest) = if is_free s && is_free t then record s { len = s.len + t.len } ∷ rest else s ∷ t ∷ rest

-- no two free slices stand side by side
abbrev pub merged : List Slice → List Slice
merged [] = []
merged (s ∷ rest) = joined s (merged rest)

-- the slice at an offset is given back, and merges with free neighbours
abbrev pub given_back : ℕ → List Slice → List Slice
given_back offset slices = merged (replaced_at offset (used_as Free) slices)

-- the slice at an offset is the receiver's now
abbrev pub published : ℕ → List Slice → List Slice
published offset slices = replaced_at offset (used_as Published) slices

-- whether a received slice begins at an offset
abbrev pub is_received : ℕ → List Slice → Bool
is_received offset slices = elim (slice_at offset slices) [ None ↦ false | Some s ↦ is_published s ]

-- a whole pool that is free
abbrev pub whole_pool : ℕ → List Slice
whole_pool size = record { offset = 0; len = size; usage = Free } ∷ []
