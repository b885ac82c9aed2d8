-- Where records stand in the list of them.
use Rattle.std.specs.Prelude.{◌≡◌, ℕ, ◌<◌, ◌≤◌, Bool, true, false, ◌||◌, if◌then◌else◌, List, get_or, length, remove}
use Rattle.std.specs.List.{AllWithin, HoldsAt}
use Rattle.b1_model.specs.declared.naming.NodeRef.{NodeRef}
use Rattle.b1_model.specs.MachineParts.{HandleRecord, no_record, same_ref, ref_before}
use Rattle.b1_model.specs.MachineTables.{is_needed}

-- whether a record is the node's or stands behind it
abbrev pub is_from : NodeRef → HandleRecord → Bool
is_from node h = same_ref h.node node || ref_before node h.node

-- how many records stand before a node's own, or before its place
pub record IsPlaceFor (node : NodeRef) (records : List HandleRecord) (place : ℕ) : Type 0 where
  pub within : place ≤ length records
  pub before : AllWithin (λ h. is_from node h ≡ false) records 0 place
  pub here : place < length records → HoldsAt (λ h. is_from node h ≡ true) records place

-- the record at a place goes where it isn't needed any more
abbrev pub settled : ℕ → List HandleRecord → List HandleRecord
settled place records = if is_needed (get_or records place (no_record (record { owner = 0; serial = 0 }))) then records else remove records place
