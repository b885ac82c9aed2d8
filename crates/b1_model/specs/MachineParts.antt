-- A peer's part and a driver's part of a state, and the small tests on what stands in them.
use Rattle.std.specs.Prelude.{ℕ, ◌%◌, ◌==◌, Bool, true, false, ◌&&◌, ◌||◌, nat_lt, List, [], Option, Some, None, get_or, find}
use Rattle.std.specs.Ordering.{is_lt}
use Rattle.b1_model.specs.Keys.{compare_keys}
use Rattle.b1_model.specs.declared.limits.TheConstants.{CLOCK_LIMIT, NO_ORIGIN}
use Rattle.b1_model.specs.Names.{invalid}
use Rattle.b1_model.specs.declared.naming.Key.{Key}
use Rattle.b1_model.specs.declared.naming.NodeRef.{NodeRef}
use Rattle.b1_model.specs.declared.naming.Limits.{Limits}
use Rattle.b1_model.specs.declared.parts.NodeState.{NodeState}
use Rattle.b1_model.specs.declared.parts.NodeState.TheVariants.{Live, Dying, Destroyed}
use Rattle.b1_model.specs.declared.parts.Slot.{Slot}
use Rattle.b1_model.specs.declared.tables.Usage.{Usage}
use Rattle.b1_model.specs.declared.entries.Entry.{Entry}
use Rattle.b1_model.specs.declared.entries.Entry.TheVariants.{Message, OwnNotice, ForeignNotice, ReleaseNotice}
use Rattle.b1_model.specs.declared.answers.Front.{Front}
use Rattle.b1_model.specs.declared.records.Call.{Call}
use Rattle.b1_model.specs.declared.events.Doing.{Doing}
use Rattle.b1_model.specs.declared.events.OwedDrop.{OwedDrop}

-- a piece of a pool: where it begins, how long it is, what it is used for
pub record Slice : Type 0 where
  pub offset : ℕ
  pub len : ℕ
  pub usage : Usage

-- a node at its owner: its own number, its life, each peer's count of references, whether its destroy notice was taken
pub record NodePart : Type 0 where
  pub number : ℕ
  pub state : NodeState
  pub counts : List ℕ
  pub taken : Bool

-- a foreign node at a holder: its given number while it is held, how often it is held, how many slots of queued entries carry it, whether its destroy notice has left the queue, whether one is queued
pub record HandleRecord : Type 0 where
  pub node : NodeRef
  pub number : Option ℕ
  pub held : ℕ
  pub flight : ℕ
  pub dead : Bool
  pub notice : Bool

-- a peer's part of a state: the four facts that never change, then the rest; `given` is how many given numbers were given, the records stand in the order of their nodes, and an item of the dead list is references to be given up
pub record PeerPart : Type 0 where
  pub me : ℕ
  pub peers : ℕ
  pub user : ℕ
  pub pool : ℕ
  pub limits : Limits
  pub epoch : ℕ
  pub clock : ℕ
  pub given : ℕ
  pub slices : List Slice
  pub queue : List (Key × Entry)
  pub nodes : List NodePart
  pub late : List ℕ
  pub handles : List HandleRecord
  pub dead : List (List (NodeRef × ℕ))

-- a driver's part of a state: its number, its calls, whether it is shut, its open command, the drops that it owes, whether its peer's dead list had items when it was last told, what its last attempt at an empty or staged front found and removed, and how many such attempts there were
pub record DriverPart : Type 0 where
  pub me : ℕ
  pub calls : List Call
  pub shut : Bool
  pub doing : Option Doing
  pub owed : List OwedDrop
  pub told : Bool
  pub attempted : Option (Front × ℕ)
  pub attempts : ℕ

-- a state: every peer's part and every driver's part
pub record State : Type 0 where
  pub peers : List PeerPart
  pub drivers : List DriverPart

-- the origin of a release notice
abbrev pub no_origin : ℕ
no_origin = NO_ORIGIN

-- no stamp is begun at a clock from this one on
abbrev pub clock_limit : ℕ
clock_limit = CLOCK_LIMIT

-- a number with bit 0 set
abbrev pub is_odd : ℕ → Bool
is_odd n = n % 2 == 1

-- two references to one node
abbrev pub same_ref : NodeRef → NodeRef → Bool
same_ref a b = a.owner == b.owner && a.serial == b.serial

-- by owner, then by serial
abbrev pub ref_before : NodeRef → NodeRef → Bool
ref_before a b = nat_lt a.owner b.owner || (a.owner == b.owner && nat_lt a.serial b.serial)

-- the first key comes before the second
abbrev pub key_before : Key → Key → Bool
key_before a b = is_lt (compare_keys a b)

-- an entry is staged while its stamp is odd
abbrev pub is_staged : Key × Entry → Bool
is_staged e = is_odd e.0.stamp

-- a message, and no notice
abbrev pub is_data : Entry → Bool
is_data (Message origin user index serial offset len carried slots handles payload) = true
is_data (OwnNotice serial index) = false
is_data (ForeignNotice node index) = false
is_data (ReleaseNotice serial) = false

-- the release notice of an own node
abbrev pub is_release_notice : ℕ → Key × Entry → Bool
is_release_notice serial (k, Message origin user index dest offset len carried slots handles payload) = false
is_release_notice serial (k, OwnNotice doomed index) = false
is_release_notice serial (k, ForeignNotice node index) = false
is_release_notice serial (k, ReleaseNotice mine) = mine == serial

-- the nodes that an entry carries
abbrev pub carried : Entry → List NodeRef
carried (Message origin user index serial offset len nodes slots handles payload) = nodes
carried (OwnNotice serial index) = []
carried (ForeignNotice node index) = []
carried (ReleaseNotice serial) = []

-- what its carried handles are
abbrev pub slots_of : Entry → List Slot
slots_of (Message origin user index serial offset len nodes slots handles payload) = slots
slots_of (OwnNotice serial index) = []
slots_of (ForeignNotice node index) = []
slots_of (ReleaseNotice serial) = []

-- it takes messages
abbrev pub is_live : NodeState → Bool
is_live Live = true
is_live Dying = false
is_live (Destroyed stamp) = false

-- its destruction has begun and has no stamp yet
abbrev pub is_dying : NodeState → Bool
is_dying Live = false
is_dying Dying = true
is_dying (Destroyed stamp) = false

-- its destruction has its stamp
abbrev pub is_destroyed : NodeState → Bool
is_destroyed Live = false
is_destroyed Dying = false
is_destroyed (Destroyed stamp) = true

-- what stands in place of a node that was never made
abbrev pub no_node : NodePart
no_node = record { number = invalid; state = Destroyed 0; counts = []; taken = false }

-- the node with a serial
abbrev pub node_at : PeerPart → ℕ → NodePart
node_at x serial = get_or x.nodes serial no_node

-- the record of a foreign node
abbrev pub record_of : NodeRef → List HandleRecord → Option HandleRecord
record_of node handles = find (λ h. same_ref h.node node) handles

-- what stands in place of a record that isn't there
abbrev pub no_record : NodeRef → HandleRecord
no_record node = record { node = node; number = None; held = 0; flight = 0; dead = false; notice = false }

-- how often a foreign node is held
abbrev pub record_or_none : NodeRef → List HandleRecord → HandleRecord
record_or_none node handles = elim (record_of node handles) [ None ↦ no_record node | Some h ↦ h ]
