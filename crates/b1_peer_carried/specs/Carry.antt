-- Nodes that queued messages carry to a peer, and the tables of a peer's part that they change.
use Rattle.std.specs.Prelude.{◌≡◌, ℕ, ◌==◌, ◌≤◌, Bool, true, ◌&&◌, not, nat_lt, List, All, count_by}
use Rattle.b1_model.specs.declared.naming.NodeRef.{NodeRef}
use Rattle.b1_model.specs.declared.parts.Slot.{Slot}
use Rattle.b1_model.specs.declared.parts.Slot.TheVariants as slot
use Rattle.b1_model.specs.MachineParts.{PeerPart, NodePart, HandleRecord, record_or_none, same_ref}
use Rattle.b1_model.specs.MachineTables.{is_needed}
use Rattle.b1_model.specs.MachineReceive.{Arriving}
use Rattle.b1_handles.specs.Handles.{Handles}

-- how often a node stands in a list
abbrev pub times : NodeRef → List NodeRef → ℕ
times node nodes = count_by (λ n. same_ref n node) nodes

-- at least as many queued slots carry each node as it stands in a list
abbrev pub AreCarried : List NodeRef → List HandleRecord → Type 0
AreCarried nodes records = (node : NodeRef) → times node nodes ≤ (record_or_none node records).flight

-- every record is needed
abbrev pub AreNeeded : List HandleRecord → Type 0
AreNeeded records = All (λ h. is_needed h ≡ true) records

-- a slot that may arrive at a peer that made so many nodes: an own one is of a node that the peer made, an attached one of another peer's
abbrev pub may_arrive : ℕ → ℕ → NodeRef × Slot → Bool
may_arrive me made (node, slot.Unattached) = true
may_arrive me made (node, slot.Attached) = not (node.owner == me)
may_arrive me made (node, slot.Own) = (node.owner == me) && nat_lt node.serial made
may_arrive me made (node, slot.Void) = true

-- a peer's part that has these tables
pub record HasTables (peer : ℕ) (own : List NodePart) (table : Handles) (x : PeerPart) : Type 0 where
  pub me : x.me ≡ peer
  pub nodes : x.nodes ≡ own
  pub records : x.handles ≡ table.records
  pub given : x.given ≡ table.given

-- a peer's part with other handle records, and what has arrived
abbrev pub arriving : PeerPart → Handles → List ℕ → List (NodeRef × ℕ) → Arriving
arriving x table numbers refs = record { part = record x { handles = table.records; given = table.given }; numbers = numbers; refs = refs }
