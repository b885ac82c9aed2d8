-- Heaps of which one cell may stand at a wrong place. key gives the key at each place below n.
use Rattle.std.specs.Prelude.{◌≡◌, ◌≢◌, ℕ, ◌<◌, List, length, slice_index_or}
use Rattle.std.specs.declared.cmp.Ordering.TheVariants.{Less}
use Rattle.b1_model.specs.Keys.{compare_keys}
use Rattle.b1_model.specs.declared.naming.Key.{Key}
use Rattle.b1_heap.specs.Heap.{parent}

-- the keys of cells by their places
abbrev pub keys_of : List (Key × ℕ) → (Key × ℕ) → ℕ → Key
keys_of cells d place = (slice_index_or cells place d).0

-- each key stands after its parent's
abbrev pub InHeap : (ℕ → Key) → ℕ → Type 0
InHeap key n = (place : ℕ) → 0 < place → place < n → compare_keys (key (parent place)) (key place) ≡ Less

-- the children of a place stand after the place's parent
abbrev pub IsOver : (ℕ → Key) → ℕ → ℕ → Type 0
IsOver key n at =
    (child : ℕ) → 0 < at → 0 < child → child < n → parent child ≡ at → compare_keys (key (parent at)) (key child) ≡ Less

-- a heap, but that the key at a place may have to go up
pub record Rises (key : ℕ → Key) (n at : ℕ) : Type 0 where
  pub others : (place : ℕ) → 0 < place → place < n → place ≢ at → compare_keys (key (parent place)) (key place) ≡ Less
  pub over : IsOver key n at

-- a heap, but that the key at a place may have to go down
pub record Sinks (key : ℕ → Key) (n at : ℕ) : Type 0 where
  pub others : (place : ℕ) → 0 < place → place < n → parent place ≢ at → compare_keys (key (parent place)) (key place) ≡ Less
  pub over : IsOver key n at

-- a heap, but that the key at a place may have to go either way
pub record Moves (key : ℕ → Key) (n at : ℕ) : Type 0 where
  pub others : (place : ℕ) → 0 < place → place < n → place ≢ at → parent place ≢ at → compare_keys (key (parent place)) (key place) ≡ Less
  pub over : IsOver key n at

-- the same of cells
abbrev pub RisesAt : List (Key × ℕ) → ℕ → Type 0
RisesAt cells at = (d : Key × ℕ) → Rises (keys_of cells d) (length cells) at

abbrev pub SinksAt : List (Key × ℕ) → ℕ → Type 0
SinksAt cells at = (d : Key × ℕ) → Sinks (keys_of cells d) (length cells) at

abbrev pub MovesAt : List (Key × ℕ) → ℕ → Type 0
MovesAt cells at = (d : Key × ℕ) → Moves (keys_of cells d) (length cells) at

-- child is a place's child with the least key
pub record IsLeastChild (cells : List (Key × ℕ)) (at child : ℕ) : Type 0 where
  pub positive : 0 < child
  pub within : child < length cells
  pub below : parent child ≡ at
  pub least : (other : ℕ) (d : Key × ℕ) → 0 < other → other < length cells → parent other ≡ at → other ≢ child → compare_keys (keys_of cells d child) (keys_of cells d other) ≡ Less
