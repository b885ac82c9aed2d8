-- What contracts see of a peer's handle records, and what is always so of them.
use Rattle.std.specs.Prelude.{◌≡◌, ◌≢◌, ℕ, ◌+◌, ◌<◌, ◌%◌, ◌==◌, Bool, true, false, not, if◌then◌else◌, List, [], ◌∷◌, All, AllPairs, filter, Option, Some, None, unwrap_or}
use Rattle.std.specs.Option.{IfSome}
use Rattle.b1_model.specs.declared.naming.NodeRef.{NodeRef}
use Rattle.b1_model.specs.MachineParts.{HandleRecord, record_of, record_or_none, same_ref, ref_before}
use Rattle.b1_model.specs.MachineTables.{changed, changed_or_made, less_flight, more_held, next_number}

-- a table of handle records: the records in the order of their nodes, and how many numbers were given
pub record Handles : Type 0 where
  pub records : List HandleRecord
  pub given : ℕ

-- a number that was given: 2 and a multiple of 4, below the next one
pub record IsGivenNumber (given n : ℕ) : Type 0 where
  pub form : n % 4 ≡ 2
  pub low : n < next_number given

-- the records stand in the order of their nodes, each number was given, and no two records have the same
pub record IsSound (given : ℕ) (records : List HandleRecord) : Type 0 where
  pub ordered : AllPairs (λ a b. ref_before a.node b.node ≡ true) records
  pub numbered : All (λ h. IfSome h.number (IsGivenNumber given)) records
  pub distinct : AllPairs (λ a b. IfSome a.number (λ n. b.number ≢ Some n)) records

-- a node's own number while it is held, and else the next one
abbrev pub number_for : NodeRef → Handles → ℕ
number_for node t = unwrap_or (record_or_none node t.records).number (next_number t.given)

-- how many numbers were given once a node is held once more: one more where it wasn't held
abbrev pub given_for : NodeRef → Handles → ℕ
given_for node t = if (record_or_none node t.records).held == 0 then t.given + 1 else t.given

-- a carried node arrives: one slot fewer carries it, and it is held once more
abbrev pub gained : NodeRef → Handles → Handles
gained node t = record { records = changed node (λ h. more_held (next_number t.given) (less_flight h)) t.records; given = given_for node t }

-- a node that wasn't carried is held once more
abbrev pub wired : NodeRef → Handles → Handles
wired node t = record { records = changed_or_made node (more_held (next_number t.given)) t.records; given = given_for node t }

-- whether a node has a record with no notice queued
abbrev pub needs_notice : NodeRef → List HandleRecord → Bool
needs_notice node records = elim (record_of node records) [ None ↦ false | Some h ↦ not h.notice ]

-- the records of other nodes
abbrev pub without_node : NodeRef → List HandleRecord → List HandleRecord
without_node node records = filter (λ h. not (same_ref h.node node)) records

-- the item that a flush gives, or none
abbrev pub flushed_item : Option (NodeRef × ℕ) → List (List (NodeRef × ℕ))
flushed_item None = []
flushed_item (Some r) = (r ∷ []) ∷ []
