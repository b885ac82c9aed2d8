-- The records under their nodes, as a map has them.
use Rattle.std.specs.Prelude.{◌≡◌, ℕ, Bool, List, None, Some, if◌then◌else◌, map}
use Rattle.std.specs.declared.cmp.Ordering.{Ordering}
use Rattle.std.specs.Ordering.{nat_cmp, ordering_then}
use Rattle.std.specs.BTreeMap.{is_at}
use Rattle.std.specs.Map.{lookup, remove_entry, values_of}
use Rattle.b1_model.specs.declared.naming.NodeRef.{NodeRef}
use Rattle.b1_model.specs.MachineParts.{HandleRecord}
use Rattle.b1_model.specs.MachineTables.{is_needed}

-- a node's owner and serial
abbrev pub key_of : NodeRef → ℕ × ℕ
key_of node = (node.owner, node.serial)

-- each record under its node
abbrev pub keyed : List HandleRecord → List ((ℕ × ℕ) × HandleRecord)
keyed records = map {A = HandleRecord} {B = (ℕ × ℕ) × HandleRecord} (λ h. (key_of h.node, h)) records

-- each entry stands under its record's node
abbrev pub IsKeyed : List ((ℕ × ℕ) × HandleRecord) → Type 0
IsKeyed entries = entries ≡ keyed (values_of entries)

-- the order of the nodes
abbrev pub key_cmp : ℕ × ℕ → ℕ × ℕ → Ordering
key_cmp x y = ordering_then (nat_cmp x.0 y.0) (nat_cmp x.1 y.1)

-- whether a key is the node's
abbrev pub is_key : NodeRef → ℕ × ℕ → Bool
is_key node = is_at (key_cmp (key_of node))

-- the node's record goes where it isn't needed any more
abbrev pub settled : NodeRef → List ((ℕ × ℕ) × HandleRecord) → List ((ℕ × ℕ) × HandleRecord)
settled node entries = elim (lookup (is_key node) entries) [ None ↦ entries | Some h ↦ if is_needed h then entries else remove_entry (is_key node) entries ]
