-- Entries: each accepted place of a send is somewhere, and what a peer has taken is below all that is still to come.
use Rattle.std.specs.Prelude.{◌≡◌, ◌≤◌, ◌<◌, ◌⊎◌, ⊤, ℕ, true, false, map, slice_get, Some, None, option_map}
use Rattle.std.specs.List.{All}
use Rattle.b1_model.specs.declared.naming.Key.{Key}
use Rattle.b1_model.specs.declared.naming.NodeRef.{NodeRef}
use Rattle.b1_model.specs.declared.naming.Opening.{Opening}
use Rattle.b1_model.specs.declared.answers.Sent.{Sent}
use Rattle.b1_model.specs.declared.answers.Answer.TheVariants as ans
use Rattle.b1_model.specs.declared.entries.Entry.{Entry}
use Rattle.b1_model.specs.declared.entries.Entry.TheVariants as entry
use Rattle.b1_model.specs.declared.records.Call.{Call}
use Rattle.b1_model.specs.declared.events.Doing.{Doing}
use Rattle.b1_model.specs.Names.{Node, calls_of, epoch_at}
use Rattle.b1_model.specs.Ledger.{got_key, Message, message, to_at, is_accepted, is_late}
use Rattle.b1_model.specs.MachineParts.{PeerPart, DriverPart, NodePart, HandleRecord, State, is_staged, is_data, key_before, node_at}
use Rattle.b1_model.specs.MachineTables.{is_stage}
use Rattle.b1_model.specs.MachineEvents.{begun_of, collected_of}
use Rattle.b1_model.specs.MachineStep.{record_of_state}
use Rattle.b1_step.specs.Rights.{Has}
use Rattle.b1_inv.specs.Words.{IsPeer, IsDriver, fixed_stamp, waits_at, is_pending}
use Rattle.b1_inv_record.specs.Clocks.{is_own_notice}
use Rattle.b1_inv_record.specs.Epochs.{first_now, first_done, epoch_now, epoch_of_node, ref_of, doom_key, is_unstaging, WasReceived}

-- an accepted place of a SEND that still waits at a node of the present epoch has its staged message there
pub record PendingIsStaged (o : Opening) (s : State) : Type 0 where
  pub staged : (p at : ℕ) (d : DriverPart) (doing : Doing) (node : NodeRef) (x : PeerPart) → IsDriver s p d → d.doing ≡ Some doing → slice_get (begun_of doing.phase).to at ≡ Some node → waits_at doing.phase at ≡ true
      → IsPeer s node.owner x → first_now o s node.owner ≤ node.serial → (f : Key × Entry) × Has x.queue f × (is_stage p at f ≡ true)

-- every queued message is for a node of the part's epoch
abbrev pub IsPresent : ℕ → Entry → Type 0
IsPresent first (entry.Message origin user index serial offset len nodes slots handles payload) = first ≤ serial
IsPresent first e = ⊤

pub record QueuedIsPresent (o : Opening) (s : State) : Type 0 where
  pub present : (q : ℕ) (x : PeerPart) (f : Key × Entry) → IsPeer s q x → Has x.queue f → IsPresent (first_done o s q) f.1

-- a message of the record is this entry of peer q: its place is accepted and goes to the entry's node, with the same carried nodes and payload
abbrev pub IsCallOf : ℕ → Key → Entry → Message → Type 0
IsCallOf q k (entry.Message origin user index serial offset len nodes slots handles payload) m =
    (is_accepted (slice_get m.places k.index) ≡ true) × (option_map ref_of (to_at m k.index) ≡ Some (record { owner = q; serial = serial }))
    × (map (option_map ref_of) m.carried ≡ map Some nodes) × (m.payload ≡ payload)
IsCallOf q k e m = ⊥

-- each committed message is an entry of a stamped send of the record
pub record CommittedHasCall (o : Opening) (s : State) : Type 0 where
  pub sent : (q : ℕ) (x : PeerPart) (f : Key × Entry) → IsPeer s q x → Has x.queue f → is_data f.1 ≡ true → is_staged f ≡ false
      → (m : Message) × (message o.wires (record_of_state s) f.0.stamp f.0.origin ≡ Some m) × IsCallOf q f.0 f.1 m

-- the message with a key is queued; or the SEND still waits to commit it; or its peer received it in the present epoch; or its node was destroyed before the send and its notice taken
abbrev pub IsQueued : PeerPart → Key → Type 0
IsQueued y key = (f : Key × Entry) × Has y.queue f × (f.0 ≡ key) × (is_data f.1 ≡ true)

abbrev pub IsWaiting : DriverPart → Key → Type 0
IsWaiting d key = (fixed_stamp d ≡ Some key.stamp) × (is_pending d key.index ≡ true)

abbrev pub WasCutOff : Opening → State → PeerPart → Node → Key → Type 0
WasCutOff o s y x key = (is_late o.wires (record_of_state s) x key ≡ true) × ((node_at y x.serial).taken ≡ true)

abbrev pub IsSomewhere : Opening → State → DriverPart → PeerPart → Node → Key → Type 0
IsSomewhere o s d y x key = (IsQueued y key ⊎ IsWaiting d key) ⊎ (WasReceived s x.owner key ⊎ WasCutOff o s y x key)

-- each accepted place of a send names a node, and where that is of the present epoch, its message is somewhere
pub record EntryIsSomewhere (o : Opening) (s : State) : Type 0 where
  pub named : (p k i : ℕ) (d : DriverPart) (c : Call) (b : Sent) → IsDriver s p d → slice_get (calls_of (record_of_state s) p) k ≡ Some c → c.answer ≡ ans.Sent b → slice_get b.places i ≡ Some None
      → (m : Message) × (x : Node) × (message o.wires (record_of_state s) b.stamp p ≡ Some m) × (to_at m i ≡ Some x)
  pub somewhere : (p k i : ℕ) (d : DriverPart) (c : Call) (b : Sent) (m : Message) (x : Node) (y : PeerPart) → IsDriver s p d → slice_get (calls_of (record_of_state s) p) k ≡ Some c → c.answer ≡ ans.Sent b → slice_get b.places i ≡ Some None
      → message o.wires (record_of_state s) b.stamp p ≡ Some m → to_at m i ≡ Some x → x.epoch ≡ epoch_now s x.owner → IsPeer s x.owner y → IsSomewhere o s d y x (record { stamp = b.stamp; origin = p; index = i })

-- a key that has left a peer's queue: not above its clock, and before all that is queued
abbrev pub IsBehind : Key → PeerPart → Type 0
IsBehind key x = (key.stamp ≤ x.clock) × All (λ f. key_before key f.0 ≡ true) x.queue

-- what has left a queue at a RECV, of any epoch: receipts, the notices of dead records, the own notices taken
pub record GoneBelowQueue (o : Opening) (s : State) : Type 0 where
  pub received : (q : ℕ) (x : PeerPart) (c : Call) (key : Key) → IsPeer s q x → Has (calls_of (record_of_state s) q) c → got_key c.answer ≡ Some key → IsBehind key x
  pub dead : (q : ℕ) (x : PeerPart) (h : HandleRecord) (key : Key) → IsPeer s q x → Has x.handles h → h.dead ≡ true → doom_key o.wires (record_of_state s) h.node ≡ Some key → IsBehind key x
  pub taken : (q serial : ℕ) (x : PeerPart) (n : NodePart) (key : Key) → IsPeer s q x → slice_get x.nodes serial ≡ Some n → n.taken ≡ true → doom_key o.wires (record_of_state s) (record { owner = q; serial = serial }) ≡ Some key → IsBehind key x

-- while a place of a SEND waits, what its peer took in the node's epoch is not above what the SEND has collected
pub record PendingAboveTaken (o : Opening) (s : State) : Type 0 where
  pub above : (p at k : ℕ) (d : DriverPart) (doing : Doing) (node : NodeRef) (c : Call) (key : Key) → IsDriver s p d → d.doing ≡ Some doing → slice_get (begun_of doing.phase).to at ≡ Some node → waits_at doing.phase at ≡ true → is_unstaging doing.phase ≡ false
      → slice_get (calls_of (record_of_state s) node.owner) k ≡ Some c → got_key c.answer ≡ Some key → epoch_at (record_of_state s) node.owner k ≡ epoch_of_node o s node → key.stamp ≤ collected_of doing.phase

-- an own notice that is still staged when its destruction has a stamp is staged below it
pub record NoticesBelowStamp (s : State) : Type 0 where
  pub below : (p stamp : ℕ) (d : DriverPart) (x : PeerPart) (f : Key × Entry) → IsDriver s p d → IsPeer s p x
      → fixed_stamp d ≡ Some stamp → Has x.queue f → is_staged f ≡ true → is_own_notice f.1 ≡ true → f.0.stamp < stamp
