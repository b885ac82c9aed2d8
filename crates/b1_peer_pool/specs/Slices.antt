-- Slices that cover a pool, and those of them that are in use, in the machine's words.
use Rattle.std.specs.Prelude.{◌≡◌, ℕ, ◌+◌, ◌%◌, ◌≤◌, Bool, true, false, not, ◌&&◌, if◌then◌else◌, List, [], ◌∷◌, Option, Some, None}
use Rattle.b1_model.specs.declared.tables.Usage.TheVariants.{Free, Unpublished, Published}
use Rattle.b1_model.specs.MachineParts.{Slice}
use Rattle.b1_model.specs.MachinePool.{is_free, slice_at}
use Rattle.b1_pool.specs.Slices.{IsPoolSize}

-- used for a queued or a received message
abbrev pub is_used : Slice → Bool
is_used s = not (is_free s)

-- used for a queued message
abbrev pub is_unpublished : Slice → Bool
is_unpublished s = elim s.usage [ Free ↦ false | Unpublished ↦ true | Published ↦ false ]

-- whether the slice of a queued message begins at an offset
abbrev pub is_queued : ℕ → List Slice → Bool
is_queued offset slices = elim (slice_at offset slices) [ None ↦ false | Some s ↦ is_unpublished s ]

-- a slice, if it is in use
abbrev pub used_of : Option Slice → Option Slice
used_of None = None
used_of (Some s) = if is_used s then Some s else None

-- the slice in use that begins at an offset
abbrev pub used_at : ℕ → List Slice → Option Slice
used_at offset slices = used_of (slice_at offset slices)

-- the length of the slice that begins at an offset, 0 where none does
abbrev pub len_at : ℕ → List Slice → ℕ
len_at offset slices = elim (slice_at offset slices) [ None ↦ 0 | Some s ↦ s.len ]

-- the slices stand one after another, without gap or overlap, from one offset to another
abbrev pub Spans : ℕ → ℕ → List Slice → Type 0
Spans start end [] = start ≡ end
Spans start end (s ∷ rest) = (s.offset ≡ start) × (8 ≤ s.len) × (s.len % 8 ≡ 0) × Spans (start + s.len) end rest

-- the first of the slices is free
abbrev pub starts_free : List Slice → Bool
starts_free [] = false
starts_free (s ∷ rest) = is_free s

-- no two free slices stand side by side
abbrev pub IsMerged : List Slice → Type 0
IsMerged [] = Unit {0}
IsMerged (s ∷ rest) = ((is_free s && starts_free rest) ≡ false) × IsMerged rest

-- the slices of a pool of this size: they cover it, and no two free ones stand side by side
pub record IsPool (size : ℕ) (slices : List Slice) : Type 0 where
  pub in_range : IsPoolSize size
  pub covers : Spans 0 size slices
  pub merged : IsMerged slices
