-- The vacant places of a table.
use Rattle.std.specs.Prelude.{◌≡◌, ◌≢◌, ℕ, ◌+◌, ◌<◌, ◌≤◌, List, length, Option, None, is_some, count_by, All, AllPairs}
use Rattle.b1_model.specs.declared.entries.Entry.{Entry}
use Rattle.b1_entry.specs.Table.{entry_at}

-- these are places with no entry, each once, and all of them; and their list has room for every place
pub record AreVacant (slots : List (Option Entry)) (vacant : List ℕ) (capacity : ℕ) : Type 0 where
  pub fits : length slots ≤ capacity
  pub within : All (λ place. place < length slots) vacant
  pub empty : All (λ place. entry_at slots place ≡ None) vacant
  pub distinct : AllPairs ◌≢◌ vacant
  pub all : count_by is_some slots + length vacant ≡ length slots
