-- What contracts see of a table of entries.
use Rattle.std.specs.Prelude.{ℕ, List, Option, None, slice_index_or}
use Rattle.b1_model.specs.declared.entries.Entry.{Entry}

-- what stands at each place from 0 on, how many more entries fit with no memory, and a number above each place in use
pub record Table : Type 0 where
  pub slots : List (Option Entry)
  pub spare : ℕ
  pub room : ℕ

-- the entry at a place, if there is one
abbrev pub entry_at : List (Option Entry) → ℕ → Option Entry
entry_at slots place = slice_index_or slots place None
