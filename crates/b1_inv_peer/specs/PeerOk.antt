-- What is always so of a peer's part by itself, and how much room it needs that events take no memory.
use Rattle.std.specs.Prelude.{◌≡◌, ◌≢◌, ℕ, zero, suc, ◌+◌, ◌<◌, ◌≤◌, ◌==◌, Bool, true, false, ◌&&◌, if◌then◌else◌, List, get_or, length, sum_by, Some}
use Rattle.b1_model.specs.declared.limits.TheConstants.{MOST_HANDLES, MOST_PAYLOAD}
use Rattle.b1_model.specs.declared.naming.Key.{Key}
use Rattle.b1_model.specs.declared.naming.NodeRef.{NodeRef}
use Rattle.b1_model.specs.declared.parts.Slot.{Slot}
use Rattle.b1_model.specs.declared.tables.Usage.TheVariants.{Unpublished}
use Rattle.b1_model.specs.declared.entries.Entry.{Entry}
use Rattle.b1_model.specs.declared.entries.Entry.TheVariants.{Message, OwnNotice, ForeignNotice, ReleaseNotice}
use Rattle.b1_model.specs.MachineParts.{PeerPart, NodePart, HandleRecord, Slice, same_ref, is_data, is_staged, is_live, no_node, carried, record_or_none}
use Rattle.b1_model.specs.MachinePool.{slice_len, slice_at}
use Rattle.b1_model.specs.MachineTables.{is_needed, is_stage, is_unheld}
use Rattle.b1_model.specs.MachineSend.{offset_of}
use Rattle.b1_step.specs.Rights.{Has}
use Rattle.b1_step.specs.Ordered.{Rising}
use Rattle.b1_inv_peer.specs.Needs.{AreSlots}

-- ---- tests and counts

-- how many entries pass
abbrev pub count : (Key × Entry → Bool) → List (Key × Entry) → ℕ
count test queue = sum_by (λ f. if test f then 1 else 0) queue

-- a message
abbrev pub is_message : Key × Entry → Bool
is_message f = is_data f.1

-- a message that carries so many nodes
abbrev pub carries : ℕ → Key × Entry → Bool
carries n f = is_data f.1 && (length (carried f.1) == n)

-- a message whose slice begins at an offset
abbrev pub begins_at : ℕ → Key × Entry → Bool
begins_at offset f = is_data f.1 && (offset_of f.1 == offset)

-- how often a node stands in a list
abbrev pub times : NodeRef → List NodeRef → ℕ
times node nodes = sum_by (λ n. if same_ref n node then 1 else 0) nodes

-- how often queued messages carry a node
abbrev pub flight_in : NodeRef → List (Key × Entry) → ℕ
flight_in node queue = sum_by (λ f. times node (carried f.1)) queue

-- the destroy notice of a foreign node
abbrev pub is_notice_for : NodeRef → Key × Entry → Bool
is_notice_for node (k, Message origin user index serial offset len nodes slots handles payload) = false
is_notice_for node (k, OwnNotice serial index) = false
is_notice_for node (k, ForeignNotice other index) = same_ref other node
is_notice_for node (k, ReleaseNotice serial) = false

-- the destroy notice or the release notice of an own node
abbrev pub is_notice_of : ℕ → Key × Entry → Bool
is_notice_of serial (k, Message origin user index dest offset len nodes slots handles payload) = false
is_notice_of serial (k, OwnNotice mine index) = mine == serial
is_notice_of serial (k, ForeignNotice node index) = false
is_notice_of serial (k, ReleaseNotice mine) = mine == serial

-- ---- one entry

-- a message is for a node that was made, it is as long as its payload and not too long, it doesn't carry too many nodes, and its slots are known once it is committed
pub record IsMessage (me made : ℕ) (staged : Bool) (serial len : ℕ) (nodes : List NodeRef) (slots : List Slot) (payload : List ℕ) : Type 0 where
  pub there : serial < made
  pub as_long : len ≡ length payload
  pub short : len ≤ MOST_PAYLOAD
  pub few : length nodes ≤ MOST_HANDLES
  pub as_many : length slots ≡ length nodes
  pub known : staged ≡ false → AreSlots me made nodes slots

-- the same of an entry, of which only messages are asked
abbrev pub MessageOk : ℕ → ℕ → Key × Entry → Type 0
MessageOk me made (k, Message origin user index serial offset len nodes slots handles payload) = IsMessage me made (is_staged (k, Message origin user index serial offset len nodes slots handles payload)) serial len nodes slots payload
MessageOk me made (k, OwnNotice serial index) = Unit {0}
MessageOk me made (k, ForeignNotice node index) = Unit {0}
MessageOk me made (k, ReleaseNotice serial) = Unit {0}

-- a node's notices: of a destroy notice it isn't live, of a release notice it is live and nobody has a reference
abbrev pub NoticeOk : List NodePart → Key × Entry → Type 0
NoticeOk nodes (k, Message origin user index serial offset len carried slots handles payload) = Unit {0}
NoticeOk nodes (k, OwnNotice serial index) = (serial < length nodes) × (is_live (get_or nodes serial no_node).state ≡ false)
NoticeOk nodes (k, ForeignNotice node index) = Unit {0}
NoticeOk nodes (k, ReleaseNotice serial) = (serial < length nodes) × (is_live (get_or nodes serial no_node).state ≡ true) × (is_unheld (get_or nodes serial no_node) ≡ true)

-- a message's slice begins at its offset, is as long as the message needs, and isn't published yet
abbrev pub SliceOk : List Slice → Key × Entry → Type 0
SliceOk slices (k, Message origin user index serial offset len nodes slots handles payload) = slice_at offset slices ≡ Some (record { offset = offset; len = slice_len len (length nodes); usage = Unpublished })
SliceOk slices (k, OwnNotice serial index) = Unit {0}
SliceOk slices (k, ForeignNotice node index) = Unit {0}
SliceOk slices (k, ReleaseNotice serial) = Unit {0}

-- ---- a whole part

-- each record is needed, and they stand in the order of their nodes; each entry is right; no two messages have one slice, and none is staged twice; a foreign node's record counts the slots that carry it, and tells whether its notice is queued
pub record AreOk (me : ℕ) (nodes : List NodePart) (slices : List Slice) (queue : List (Key × Entry)) (handles : List HandleRecord) : Type 0 where
  pub rising : Rising handles
  pub needed : (h : HandleRecord) → Has handles h → is_needed h ≡ true
  pub messages : (f : Key × Entry) → Has queue f → MessageOk me (length nodes) f
  pub notices : (f : Key × Entry) → Has queue f → NoticeOk nodes f
  pub sliced : (f : Key × Entry) → Has queue f → SliceOk slices f
  pub apart : (offset : ℕ) → count (begins_at offset) queue ≤ 1
  pub stages : (origin index : ℕ) → count (is_stage origin index) queue ≤ 1
  pub flight : (node : NodeRef) → node.owner ≢ me → (record_or_none node handles).flight ≡ flight_in node queue
  pub noticed : (node : NodeRef) → count (is_notice_for node) queue ≤ (if (record_or_none node handles).notice then 1 else 0)

-- the same of a peer's part
abbrev pub PeerOk : PeerPart → Type 0
PeerOk x = AreOk x.me x.nodes x.slices x.queue x.handles

-- ---- room

-- the sum over the first numbers
abbrev pub total : (ℕ → ℕ) → ℕ → ℕ
total f zero = 0
total f (suc n) = total f n + f n

-- the place of a node's notice while none is queued
abbrev pub place_of : List (Key × Entry) → ℕ → ℕ
place_of queue serial = if count (is_notice_of serial) queue == 0 then 1 else 0

-- how many of so many nodes have no notice in a queue
abbrev pub places : List (Key × Entry) → ℕ → ℕ
places queue made = total (place_of queue) made

-- how many records have no notice in the queue
abbrev pub unnoticed : List HandleRecord → ℕ
unnoticed handles = sum_by (λ h. if h.notice then 0 else 1) handles

-- places in the queue for the notices of nodes and records, items of the dead list for messages and records, a buffer for one reference for each record, and buffers for each message's nodes
pub record IsRoom (queue : List (Key × Entry)) (made : ℕ) (handles : List HandleRecord) (spare items singles : ℕ) (sets : ℕ → ℕ) : Type 0 where
  pub notices : places queue made + unnoticed handles ≤ spare
  pub dead : count is_message queue + length handles ≤ items
  pub records : length handles ≤ singles
  pub messages : (n : ℕ) → count (carries n) queue ≤ sets n

-- the same of a peer's part
abbrev pub HasRoom : PeerPart → ℕ → ℕ → ℕ → (ℕ → ℕ) → Type 0
HasRoom x spare items singles sets = IsRoom x.queue (length x.nodes) x.handles spare items singles sets
