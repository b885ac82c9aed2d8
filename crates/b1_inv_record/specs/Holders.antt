-- Holders: who holds a node that ends has its notice or is still to be visited, and what holders took travels to the owner's clock.
use Rattle.std.specs.Prelude.{◌≡◌, ◌≤◌, ◌<◌, ◌⊎◌, ℕ, suc, true, false, if◌then◌else◌, List, [], slice_get, Some, None}
use Rattle.b1_model.specs.declared.naming.Key.{Key}
use Rattle.b1_model.specs.declared.naming.NodeRef.{NodeRef}
use Rattle.b1_model.specs.declared.naming.Opening.{Opening}
use Rattle.b1_model.specs.declared.parts.NodeState.TheVariants.{Destroyed}
use Rattle.b1_model.specs.declared.parts.Slot.{Slot}
use Rattle.b1_model.specs.declared.parts.Slot.TheVariants as slot
use Rattle.b1_model.specs.declared.entries.Entry.{Entry}
use Rattle.b1_model.specs.declared.records.Call.{Call}
use Rattle.b1_model.specs.declared.events.Doing.{Doing}
use Rattle.b1_model.specs.declared.events.OwedDrop.{OwedDrop}
use Rattle.b1_model.specs.declared.events.Phase.{Phase}
use Rattle.b1_model.specs.declared.events.Phase.TheVariants.{Visiting}
use Rattle.b1_model.specs.Names.{Node, calls_of}
use Rattle.b1_model.specs.Ledger.{Line, table, got_key}
use Rattle.b1_model.specs.MachineParts.{PeerPart, DriverPart, HandleRecord, State, same_ref, is_staged, is_live, is_dying, is_destroyed, carried, slots_of, node_at, record_or_none}
use Rattle.b1_model.specs.MachineEvents.{begun_of, slots_at, collected_of}
use Rattle.b1_model.specs.MachineCounts.{dead_amount}
use Rattle.b1_model.specs.MachineStep.{record_of_state}
use Rattle.b1_step.specs.Rights.{Has}
use Rattle.b1_inv.specs.Words.{IsPeer, IsDriver}
use Rattle.b1_inv_record.specs.Epochs.{first_done, ref_of}

-- the peers that an open destruction is still to visit
abbrev pub left_of : Phase → List ℕ
left_of (Visiting destruction left) = left
left_of phase = []

abbrev pub to_visit : DriverPart → List ℕ
to_visit d = elim d.doing [ None ↦ [] | Some doing ↦ left_of doing.phase ]

-- the clock that a driver's open command has collected
abbrev pub collected_now : DriverPart → ℕ
collected_now d = elim d.doing [ None ↦ 0 | Some doing ↦ collected_of doing.phase ]

-- a peer is still to be visited for a node, by the parts of its owner and its owner's driver: it is left, or it came late
abbrev pub IsDue : ℕ → PeerPart → DriverPart → Type 0
IsDue q y e = Has (to_visit e) q ⊎ Has y.late q

-- a holder's record of a node that isn't live: its notice is queued, or has left the queue, or the node is dying and the holder is still to be visited
abbrev pub IsCovered : ℕ → HandleRecord → PeerPart → DriverPart → Type 0
IsCovered q h y e = ((h.notice ≡ true) ⊎ (h.dead ≡ true)) ⊎ ((is_dying (node_at y h.node.serial).state ≡ true) × IsDue q y e)

-- the slots of an entry: its own once it is committed, those of its driver before
abbrev pub slots_now : State → Key × Entry → List Slot
slots_now s f = if is_staged f then elim (slice_get s.drivers f.0.origin) [ None ↦ [] | Some d ↦ elim d.doing [ None ↦ [] | Some doing ↦ slots_at doing.phase f.0.index ] ] else slots_of f.1

-- whoever holds a node that isn't live, or has an entry with a counted reference to it, is covered
pub record HolderCovered (s : State) : Type 0 where
  pub held : (q : ℕ) (x : PeerPart) (h : HandleRecord) (y : PeerPart) (e : DriverPart) → IsPeer s q x → Has x.handles h → 1 ≤ h.held → IsPeer s h.node.owner y → IsDriver s h.node.owner e
      → is_live (node_at y h.node.serial).state ≡ false → IsCovered q h y e
  pub carried : (q j : ℕ) (x : PeerPart) (f : Key × Entry) (node : NodeRef) (y : PeerPart) (e : DriverPart) → IsPeer s q x → Has x.queue f → slice_get (carried f.1) j ≡ Some node → slice_get (slots_now s f) j ≡ Some slot.Attached
      → IsPeer s node.owner y → IsDriver s node.owner e → is_live (node_at y node.serial).state ≡ false → IsCovered q (record_or_none node x.handles) y e

-- a node stands in q's table before its call k or behind it
abbrev pub IsSeen : Opening → State → ℕ → ℕ → Node → Type 0
IsSeen o s q k x = (l : Line) × (Has (table o.wires (record_of_state s) q k).lines l ⊎ Has (table o.wires (record_of_state s) q (suc k)).lines l) × (l.node ≡ Some x)

-- what a peer took comes to a node's owner: it is at most the owner's clock; or the peer still holds the node, or is to give references up; or its driver owes a drop with a clock as high
abbrev pub Travels : ℕ → ℕ → PeerPart → DriverPart → PeerPart → NodeRef → Type 0
Travels stamp q x d y node = ((stamp ≤ y.clock) ⊎ (1 ≤ (record_or_none node x.handles).held)) ⊎ ((1 ≤ dead_amount node x.dead) ⊎ ((one : OwedDrop) × Has d.owed one × (same_ref one.node node ≡ true) × (one.holder ≡ q) × (stamp ≤ one.clock)))

-- what a peer took while a node stood in its table comes to the node's owner, unless the node is destroyed
pub record SeenTravels (o : Opening) (s : State) : Type 0 where
  pub travels : (q k : ℕ) (x : PeerPart) (d : DriverPart) (c : Call) (key : Key) (n : Node) (y : PeerPart) → IsPeer s q x → IsDriver s q d → slice_get (calls_of (record_of_state s) q) k ≡ Some c → got_key c.answer ≡ Some key
      → IsSeen o s q k n → IsPeer s n.owner y → is_destroyed (node_at y n.serial).state ≡ false → Travels key.stamp q x d y (ref_of n)

-- and where the node is dying: it is at most the owner's clock or what the destruction has collected, or the peer is still to be visited
pub record SeenCollected (o : Opening) (s : State) : Type 0 where
  pub collected : (q k : ℕ) (x : PeerPart) (c : Call) (key : Key) (n : Node) (y : PeerPart) (e : DriverPart) → IsPeer s q x → slice_get (calls_of (record_of_state s) q) k ≡ Some c → got_key c.answer ≡ Some key
      → IsSeen o s q k n → IsPeer s n.owner y → IsDriver s n.owner e → is_dying (node_at y n.serial).state ≡ true → ((key.stamp ≤ y.clock) ⊎ (key.stamp ≤ collected_now e)) ⊎ IsDue q y e

-- a void slot is of a destroyed node: the open SEND has collected its stamp, and a committed message has a later one
pub record VoidRight (s : State) : Type 0 where
  pub kept : (p at j : ℕ) (d : DriverPart) (doing : Doing) (to node : NodeRef) (y : PeerPart) → IsDriver s p d → d.doing ≡ Some doing → slice_get (begun_of doing.phase).to at ≡ Some to → slice_get (begun_of doing.phase).with j ≡ Some node → slice_get (slots_at doing.phase at) j ≡ Some slot.Void
      → IsPeer s node.owner y → (stamp : ℕ) × ((node_at y node.serial).state ≡ Destroyed stamp) × (stamp ≤ collected_of doing.phase)
  pub queued : (q j : ℕ) (x : PeerPart) (f : Key × Entry) (node : NodeRef) (y : PeerPart) → IsPeer s q x → Has x.queue f → slice_get (carried f.1) j ≡ Some node → slice_get (slots_of f.1) j ≡ Some slot.Void
      → IsPeer s node.owner y → (stamp : ℕ) × ((node_at y node.serial).state ≡ Destroyed stamp) × (stamp < f.0.stamp)

-- an own slot is of a node of the epoch of the part in whose queue its message stands
pub record OwnSlotsPresent (o : Opening) (s : State) : Type 0 where
  pub present : (q j : ℕ) (x : PeerPart) (f : Key × Entry) (node : NodeRef) → IsPeer s q x → Has x.queue f
      → slice_get (carried f.1) j ≡ Some node → slice_get (slots_now s f) j ≡ Some slot.Own → first_done o s q ≤ node.serial
