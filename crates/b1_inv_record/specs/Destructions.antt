-- Destructions: nodes against the record's destructions, and which notices stand in the queues or were taken.
use Rattle.std.specs.Prelude.{◌≡◌, ◌≤◌, ◌⊎◌, ◌&&◌, ℕ, Bool, true, false, slice_get, Option, Some, option_map}
use Rattle.b1_model.specs.declared.naming.Key.{Key}
use Rattle.b1_model.specs.declared.naming.NodeRef.{NodeRef}
use Rattle.b1_model.specs.declared.naming.Opening.{Opening}
use Rattle.b1_model.specs.declared.parts.NodeState.TheVariants.{Destroyed}
use Rattle.b1_model.specs.declared.entries.Entry.TheVariants.{OwnNotice, ForeignNotice}
use Rattle.b1_model.specs.Names.{Node}
use Rattle.b1_model.specs.Ledger.{doomed_at}
use Rattle.b1_model.specs.MachineParts.{PeerPart, DriverPart, NodePart, HandleRecord, State, is_staged, is_destroyed, node_at}
use Rattle.b1_model.specs.MachineStep.{record_of_state}
use Rattle.b1_step.specs.Rights.{Has}
use Rattle.b1_inv.specs.Words.{IsPeer, IsDriver, fixed_stamp, is_uncommitted, is_among}
use Rattle.b1_inv.specs.Notices.{doomed_now}
use Rattle.b1_inv_record.specs.Epochs.{first_now, first_done, ref_of, doom_key, WasReceivedIn}

-- a node of peer p
abbrev pub own_ref : ℕ → ℕ → NodeRef
own_ref p serial = record { owner = p; serial = serial }

-- the key of the notice of a node's destruction, by the record of a state
abbrev pub doomed_key : Opening → State → NodeRef → Option Key
doomed_key o s node = doom_key o.wires (record_of_state s) node

-- an open destruction of a driver dooms its node, and hasn't committed at the driver's own peer
abbrev pub awaits_commit : DriverPart → ℕ → Bool
awaits_commit d serial = is_uncommitted d d.me && is_among serial (doomed_now d)

-- a node's key and the node of a key are inverse: each node is destroyed once
pub record DoomKeysRight (o : Opening) (s : State) : Type 0 where
  pub node : (p serial : ℕ) (x : PeerPart) (n : NodePart) (key : Key) → IsPeer s p x → slice_get x.nodes serial ≡ Some n → doomed_key o s (own_ref p serial) ≡ Some key
      → option_map ref_of (doomed_at o.wires (record_of_state s) key) ≡ Some (own_ref p serial)
  pub key : (key : Key) (x : Node) → doomed_at o.wires (record_of_state s) key ≡ Some x → doomed_key o s (ref_of x) ≡ Some key

-- a node is destroyed exactly where the record has its destruction, with that stamp; an open destruction dooms nodes of the part's epoch, and once it has a stamp the record has it
pub record DyingIsDoomed (o : Opening) (s : State) : Type 0 where
  pub destroyed : (p serial stamp : ℕ) (x : PeerPart) (n : NodePart) → IsPeer s p x → slice_get x.nodes serial ≡ Some n → n.state ≡ Destroyed stamp → (key : Key) × (doomed_key o s (own_ref p serial) ≡ Some key) × (key.stamp ≡ stamp)
  pub recorded : (p serial : ℕ) (x : PeerPart) (n : NodePart) (key : Key) → IsPeer s p x → slice_get x.nodes serial ≡ Some n → doomed_key o s (own_ref p serial) ≡ Some key → n.state ≡ Destroyed key.stamp
  pub present : (p serial : ℕ) (d : DriverPart) → IsDriver s p d → Has (doomed_now d) serial → first_done o s p ≤ serial
  pub placed : (p i serial stamp : ℕ) (d : DriverPart) → IsDriver s p d → fixed_stamp d ≡ Some stamp → slice_get (doomed_now d) i ≡ Some serial
      → doomed_key o s (own_ref p serial) ≡ Some (record { stamp = stamp; origin = p; index = i })

-- a node's own notice: staged at its place until the commit at its own peer; from then on under the destruction's key, until it is taken or flushed; one at most, of a node of the part's epoch
pub record OwnNoticeRight (o : Opening) (s : State) : Type 0 where
  pub staged : (p i serial : ℕ) (d : DriverPart) (x : PeerPart) → IsDriver s p d → IsPeer s p x → slice_get (doomed_now d) i ≡ Some serial → is_uncommitted d p ≡ true
      → (k : Key) × Has x.queue (k, OwnNotice serial i) × (is_staged (k, OwnNotice serial i) ≡ true)
  pub ended : (p serial : ℕ) (d : DriverPart) (x : PeerPart) (n : NodePart) (key : Key) → IsDriver s p d → IsPeer s p x → slice_get x.nodes serial ≡ Some n → first_now o s p ≤ serial
      → doomed_key o s (own_ref p serial) ≡ Some key → awaits_commit d serial ≡ false → (n.taken ≡ true) ⊎ Has x.queue (key, OwnNotice serial key.index)
  pub queued : (p i serial : ℕ) (x : PeerPart) (k : Key) → IsPeer s p x → Has x.queue (k, OwnNotice serial i) → is_staged (k, OwnNotice serial i) ≡ false → doomed_key o s (own_ref p serial) ≡ Some k
  pub present : (p i serial : ℕ) (x : PeerPart) (k : Key) → IsPeer s p x → Has x.queue (k, OwnNotice serial i) → first_done o s p ≤ serial
  pub once : (p i j serial : ℕ) (x : PeerPart) (k l : Key) → IsPeer s p x → Has x.queue (k, OwnNotice serial i) → Has x.queue (l, OwnNotice serial j) → k ≡ l
  pub untaken : (p i serial : ℕ) (x : PeerPart) (k : Key) → IsPeer s p x → Has x.queue (k, OwnNotice serial i) → (node_at x serial).taken ≡ false
  pub taken : (p serial : ℕ) (x : PeerPart) (n : NodePart) → IsPeer s p x → slice_get x.nodes serial ≡ Some n → n.taken ≡ true → is_destroyed n.state ≡ true

-- a foreign node's notice, once committed, has the key of the record's destruction; a dead record is of a destroyed node and has no notice queued
pub record ForeignNoticeRight (o : Opening) (s : State) : Type 0 where
  pub queued : (q i : ℕ) (x : PeerPart) (k : Key) (node : NodeRef) → IsPeer s q x → Has x.queue (k, ForeignNotice node i) → is_staged (k, ForeignNotice node i) ≡ false → doomed_key o s node ≡ Some k
  pub dead : (q : ℕ) (x : PeerPart) (h : HandleRecord) → IsPeer s q x → Has x.handles h → h.dead ≡ true → (key : Key) × (doomed_key o s h.node ≡ Some key)
  pub apart : (q : ℕ) (x : PeerPart) (h : HandleRecord) → IsPeer s q x → Has x.handles h → h.dead ≡ true → h.notice ≡ false

-- a notice that was taken stands among the receipts of the epoch of the peer's part: an own one of a node of that epoch, and one of a record that is dead and held
pub record TakenHasReceipt (o : Opening) (s : State) : Type 0 where
  pub own : (p serial : ℕ) (x : PeerPart) (n : NodePart) (key : Key) → IsPeer s p x → slice_get x.nodes serial ≡ Some n → n.taken ≡ true → first_done o s p ≤ serial
      → doomed_key o s (own_ref p serial) ≡ Some key → WasReceivedIn s p x.epoch key
  pub held : (p : ℕ) (x : PeerPart) (h : HandleRecord) (key : Key) → IsPeer s p x → Has x.handles h → h.dead ≡ true → 1 ≤ h.held
      → doomed_key o s h.node ≡ Some key → WasReceivedIn s p x.epoch key
