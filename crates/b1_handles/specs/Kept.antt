-- What is always so of a table of handle records.
use Rattle.std.specs.Prelude.{◌≡◌, ℕ, ◌+◌, ◌≤◌, List, [], ◌∷◌, All, Option, is_some, length, nat_lt}
use Rattle.b1_model.specs.declared.naming.NodeRef.{NodeRef}
use Rattle.b1_model.specs.MachineParts.{HandleRecord}
use Rattle.b1_model.specs.MachineTables.{held_node, next_number}
use Rattle.b1_handles.specs.Handles.{IsSound}
use Rattle.b1_handles.specs.Numbers.{name_at}

-- how many queued slots carry nodes
abbrev pub flights_of : List HandleRecord → ℕ
flights_of [] = 0
flights_of (h ∷ rest) = h.flight + flights_of rest

-- each number names the node of the record that has it
abbrev pub IsNamed : List (Option NodeRef) → List HandleRecord → Type 0
IsNamed names records = (k : ℕ) → name_at names k ≡ held_node (next_number k) records

-- the records are sound, a node has a number while it is held, and there is room for a number for each slot that carries a node
pub record IsKept (records : List HandleRecord) (names : List (Option NodeRef)) (flights spare : ℕ) : Type 0 where
  pub sound : IsSound (length names) records
  pub held : All (λ h. is_some h.number ≡ nat_lt 0 h.held) records
  pub named : IsNamed names records
  pub counted : flights ≡ flights_of records
  pub room : flights ≤ spare
