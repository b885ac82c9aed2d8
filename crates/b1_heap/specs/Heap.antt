-- A binary heap of cells, each a key with its item, and the place of each item's cell.
use Rattle.std.specs.Prelude.{◌≡◌, ◌≢◌, ℕ, ◌-◌, ◌/◌, ◌<◌, List, [], ◌∷◌, length, slice_index, slice_index_or, AllPairs}
use Rattle.std.specs.declared.cmp.Ordering.TheVariants.{Less}
use Rattle.b1_model.specs.Keys.{compare_keys}
use Rattle.b1_model.specs.declared.naming.Key.{Key}
use Rattle.b1_queue.specs.Queue.{with_entry}

-- the place above a place other than 0
abbrev pub parent : ℕ → ℕ
parent place = (place - 1) / 2

-- the cells in the order of their keys
abbrev pub in_key_order : List (Key × ℕ) → List (Key × ℕ)
in_key_order [] = []
in_key_order (cell ∷ cells) = with_entry cell.0 cell.1 (in_key_order cells)

-- no two cells have one key
abbrev pub AreApart : List (Key × ℕ) → Type 0
AreApart cells = AllPairs (λ a b. a.0 ≢ b.0) cells

-- each key stands after its parent's
abbrev pub IsHeap : List (Key × ℕ) → Type 0
IsHeap cells =
    (place : ℕ) (d : Key × ℕ) → 0 < place → place < length cells → compare_keys (slice_index_or cells (parent place) d).0 (slice_index_or cells place d).0 ≡ Less

-- the place of each cell is found under its item
abbrev pub IsIndexed : List (Key × ℕ) → List ℕ → Type 0
IsIndexed cells places =
    (place : ℕ) (d : Key × ℕ) → place < length cells → ((slice_index_or cells place d).1 < length places) × (slice_index places (slice_index_or cells place d).1 ≡ place)

-- what is true of every heap
pub record IsIndexedHeap (cells : List (Key × ℕ)) (places : List ℕ) : Type 0 where
  pub heap : IsHeap cells
  pub apart : AreApart cells
  pub indexed : IsIndexed cells places
