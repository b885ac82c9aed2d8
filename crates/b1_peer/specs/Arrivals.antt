-- A message arrives: what it needs, and what there is then.
use Rattle.std.specs.Prelude.{◌≡◌, ℕ, ◌+◌, ◌*◌, ◌≤◌, true, List, length, zip, All, IsTrue}
use Rattle.b1_model.specs.declared.limits.TheConstants.{MOST_HANDLES, MOST_PAYLOAD}
use Rattle.b1_model.specs.declared.naming.Key.{Key}
use Rattle.b1_model.specs.declared.naming.NodeRef.{NodeRef}
use Rattle.b1_model.specs.declared.parts.Slot.{Slot}
use Rattle.b1_model.specs.declared.answers.Receipt.{Receipt}
use Rattle.b1_model.specs.declared.answers.Receipt.TheVariants as receipt
use Rattle.b1_model.specs.MachineParts.{PeerPart}
use Rattle.b1_model.specs.MachineReceive.{with_item, slots_arrived}
use Rattle.b1_model.specs.MachineTables.{foreign}
use Rattle.b1_handles.specs.Handles.{Handles}
use Rattle.b1_nodes.specs.Nodes.{Nodes}
use Rattle.b1_peer_pool.specs.Content.{Holds, padded, padded_len}
use Rattle.b1_peer_pool.specs.Slices.{is_queued, len_at}
use Rattle.b1_peer_pool.specs.Stored.{Stored, IsStored}
use Rattle.b1_peer_dead.specs.Buffers.{count_at}
use Rattle.b1_peer_dead.specs.Dead.{DeadSeen}
use Rattle.b1_peer_carried.specs.Carry.{AreCarried, HasTables, may_arrive}
use Rattle.b1_peer.specs.declared.receive.Delivery.{Delivery}

-- its receipt has the numbers of its slots, the records are those after its slots, and the references that were given up at once are on the dead list
pub record HasArrived (x : PeerPart) (key : Key) (number offset : ℕ) (nodes : List NodeRef) (slots : List Slot) (payload : List ℕ) (answer : Receipt) (table : Handles) (old_dead new_dead : List (List (NodeRef × ℕ))) : Type 0 where
  pub receipt_is : answer ≡ receipt.Message key number offset (slots_arrived x nodes slots).numbers payload
  pub part_is : (slots_arrived x nodes slots).part ≡ record x { handles = table.records; given = table.given }
  pub dead_is : new_dead ≡ with_item (slots_arrived x nodes slots).refs old_dead

-- a message may arrive: its slice is long enough for the numbers of its handles and begins with its payload, neither payload nor nodes are too many, its slots may come in, and there is room for its references, and its buffers are there
pub record CanArrive (me : ℕ) (nodes : Nodes) (store : Stored) (table : Handles) (dead : DeadSeen) (m : Delivery) : Type 0 where
  pub stored : IsStored store
  pub queued : IsTrue (is_queued m.offset store.slices)
  pub within : padded_len (length m.payload) + 8 * length m.with.now ≤ len_at m.offset store.slices
  pub holds : Holds m.offset store.bytes (padded m.payload)
  pub short : length m.payload ≤ MOST_PAYLOAD
  pub few : length m.with.now ≤ MOST_HANDLES
  pub may : All (λ one. may_arrive me (length nodes.nodes) one ≡ true) (zip m.with.now m.slots.now)
  pub carried : AreCarried (foreign me m.with.now) table.records
  pub room : 1 ≤ dead.room
  pub set : 1 ≤ count_at dead.stacks (length m.with.now)

-- it has arrived at every part that has these tables
abbrev pub Arrives : ℕ → Nodes → Handles → DeadSeen → Delivery → Receipt → Handles → DeadSeen → Type 0
Arrives me nodes table dead m answer new_table new_dead = (x : PeerPart) → HasTables me nodes.nodes table x → HasArrived x m.key m.number m.offset m.with.now m.slots.now m.payload answer new_table dead.items new_dead.items
