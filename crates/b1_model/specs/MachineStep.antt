-- The opening state, one step, every list of steps, and the record of a state.
use Rattle.std.specs.Prelude.{◌≡◌, ℕ, ◌+◌, ◌==◌, Bool, false, if◌then◌else◌, List, [], ◌∷◌, fold, get_or, set, length, slice_get, Option, Some, None, option_map}
use Rattle.b1_model.specs.declared.naming.NodeRef.{NodeRef}
use Rattle.b1_model.specs.declared.naming.PeerSpec.{PeerSpec}
use Rattle.b1_model.specs.declared.naming.Wire.{Wire}
use Rattle.b1_model.specs.declared.naming.Opening.{Opening}
use Rattle.b1_model.specs.declared.commands.Command.{Command}
use Rattle.b1_model.specs.declared.records.PeerCalls.{PeerCalls}
use Rattle.b1_model.specs.declared.records.Record.{Record}
use Rattle.b1_model.specs.declared.events.Action.{Action}
use Rattle.b1_model.specs.declared.events.Doing.{Doing}
use Rattle.b1_model.specs.declared.events.Phase.TheVariants.{Starting}
use Rattle.b1_model.specs.Names.{is_own}
use Rattle.b1_model.specs.MachineParts.{PeerPart, DriverPart, State, record_or_none}
use Rattle.b1_model.specs.MachinePool.{whole_pool}
use Rattle.b1_model.specs.MachineTables.{with_made, with_node, counted, changed_or_made, more_held, next_number, node_named}
use Rattle.b1_model.specs.MachineDriver.{next_action, peer_of}
use Rattle.b1_model.specs.MachineTook.{took, driver_calls}
use Rattle.b1_model.specs.MachineEvents.{happens}

-- ---- the opening state

-- a peer before any wire
abbrev pub peer_before : Opening → ℕ → PeerSpec → PeerPart
peer_before o me spec = record {
  me = me;
  peers = length o.peers;
  user = spec.user;
  pool = spec.pool;
  limits = spec.limits;
  epoch = 0;
  clock = o.first_clock;
  given = 0;
  slices = whole_pool spec.pool;
  queue = [];
  nodes = [];
  late = [];
  handles = [];
  dead = [];
}

-- all peers before any wire, from the number `me` on
abbrev pub peers_before : Opening → ℕ → List PeerSpec → List PeerPart
peers_before o me [] = []
peers_before o me (spec ∷ rest) = peer_before o me spec ∷ peers_before o (me + 1) rest

-- what stands in place of a peer that there isn't
abbrev pub no_peer : PeerPart
no_peer = peer_before (record { first_clock = 0; peers = []; wires = [] }) 0 (record { user = 0; pool = 0; limits = record { entries = 0; bytes = 0; handles = 0 } })

-- a peer's part changes
abbrev pub with_part : ℕ → (PeerPart → PeerPart) → List PeerPart → List PeerPart
with_part q f peers = set peers q (f (get_or peers q no_peer))

-- the giver of a wire makes a node for an own number that isn't known
abbrev pub wire_made : ℕ → PeerPart → PeerPart
wire_made number x = if is_own number then record x { nodes = with_made x.peers number x.nodes } else x

-- the owner counts a reference; the holder holds the node once more
abbrev pub wire_counted : NodeRef → ℕ → PeerPart → PeerPart
wire_counted node dest x = record x { nodes = with_node node.serial (counted dest) x.nodes }

-- the holder holds the node once more, under a new number where it did not
abbrev pub wire_held : NodeRef → PeerPart → PeerPart
wire_held node x = record x {
  handles = changed_or_made node (more_held (next_number x.given)) x.handles;
  given = if (record_or_none node x.handles).held == 0 then x.given + 1 else x.given;
}

-- a wire gives one reference of what its number names at its giver
abbrev pub wired : List PeerPart → Wire → List PeerPart
wired peers w =
    let with_node_made = with_part w.from (wire_made w.number) peers in
    elim (node_named (get_or with_node_made w.from no_peer) w.number) [
      | None ↦ with_node_made
      | Some node ↦ with_part w.to (wire_held node) (with_part node.owner (wire_counted node w.to) with_node_made)
    ]

-- a driver without calls
abbrev pub idle_driver : ℕ → DriverPart
idle_driver me = record { me = me; calls = []; shut = false; doing = None; owed = []; told = false; attempted = None; attempts = 0 }

-- all drivers, from the number `me` on
abbrev pub idle_drivers : ℕ → List PeerSpec → List DriverPart
idle_drivers me [] = []
idle_drivers me (spec ∷ rest) = idle_driver me ∷ idle_drivers (me + 1) rest

-- the state before the first command
abbrev pub opening_state : Opening → State
opening_state o = record { peers = fold wired (peers_before o 0 o.peers) o.wires; drivers = idle_drivers 0 o.peers }

-- ---- one step on two parts

-- a driver's part whose next event is that of the open command, or the first one of the command that begins; nothing where both or neither is there
abbrev pub begun_by : DriverPart → Option Doing → Option Command → Option DriverPart
begun_by d None None = None
begun_by d None (Some c) = Some (record d { doing = Some (record { command = c; phase = Starting }) })
begun_by d (Some doing) None = Some d
begun_by d (Some doing) (Some c) = None

-- the same, by the open command
abbrev pub begun : DriverPart → Option Command → Option DriverPart
begun d command = begun_by d d.doing command

-- which event is next and at which peer, by the driver's part and the beginning command alone
abbrev pub aimed : DriverPart → Action × ℕ
aimed e = (next_action e, peer_of e.me (next_action e))

-- nothing where no event is next
abbrev pub target : DriverPart → Option Command → Option (Action × ℕ)
target d command = option_map aimed (begun d command)

-- an event done by a driver whose command is open: the driver's part and the peer's part after it
abbrev pub done_by : Opening → Bool → DriverPart → Option Doing → PeerPart → DriverPart × PeerPart
done_by o memory e None x = (e, x)
done_by o memory e (Some doing) x = (took e (happens o memory e doing (next_action e) x).0, (happens o memory e doing (next_action e) x).1)

-- what a step makes of the driver's part and of the part of the peer that its event is at; the bit says whether want of memory refuses where nothing else does
abbrev pub effect_by : Opening → Bool → DriverPart → Option DriverPart → PeerPart → DriverPart × PeerPart
effect_by o memory d None x = (d, x)
effect_by o memory d (Some e) x = done_by o memory e e.doing x

-- the same, where a command is open or begins
abbrev pub effect : Opening → Bool → DriverPart → Option Command → PeerPart → DriverPart × PeerPart
effect o memory d command x = effect_by o memory d (begun d command) x

-- two parts become two others by a step
pub record LocalStep (o : Opening) (command : Option Command) (d : DriverPart) (x : PeerPart) (e : DriverPart) (y : PeerPart) : Type 0 where
  pub memory : Bool
  pub after : effect o memory d command x ≡ (e, y)

-- ---- one step of a state

-- driver p does its next event, at the one peer where that event is; the other parts stay
pub record Step (o : Opening) (s : State) (p : ℕ) (command : Option Command) (t : State) : Type 0 where
  pub driver : DriverPart
  pub action : Action
  pub at : ℕ
  pub peer : PeerPart
  pub new_driver : DriverPart
  pub new_peer : PeerPart
  pub is_driver : slice_get s.drivers p ≡ Some driver
  pub is_target : target driver command ≡ Some (action, at)
  pub is_peer : slice_get s.peers at ≡ Some peer
  pub local : LocalStep o command driver peer new_driver new_peer
  pub drivers : t.drivers ≡ set s.drivers p new_driver
  pub peers : t.peers ≡ set s.peers at new_peer

-- a state with two other parts
abbrev pub with_parts : State → ℕ → ℕ → DriverPart × PeerPart → State
with_parts s p at parts = record { peers = set s.peers at parts.1; drivers = set s.drivers p parts.0 }

-- at the peer that the event is at
abbrev pub stepped_at : Opening → Bool → ℕ → Option Command → State → DriverPart → ℕ → Option PeerPart → Option State
stepped_at o memory p command s d at None = None
stepped_at o memory p command s d at (Some x) = Some (with_parts s p at (effect o memory d command x))

-- by the event that is next
abbrev pub stepped_to : Opening → Bool → ℕ → Option Command → State → DriverPart → Option (Action × ℕ) → Option State
stepped_to o memory p command s d None = None
stepped_to o memory p command s d (Some (action, at)) = stepped_at o memory p command s d at (slice_get s.peers at)

-- by the driver's part
abbrev pub stepped_by : Opening → Bool → ℕ → Option Command → State → Option DriverPart → Option State
stepped_by o memory p command s None = None
stepped_by o memory p command s (Some d) = stepped_to o memory p command s d (target d command)

-- a step as a function: nothing where no event is next, or its peer is not there
abbrev pub stepped : Opening → Bool → ℕ → Option Command → State → Option State
stepped o memory p command s = stepped_by o memory p command s (slice_get s.drivers p)

-- ---- lists of steps

-- whose step it is, and which command begins, if one does
pub record Label : Type 0 where
  pub driver : ℕ
  pub command : Option Command

-- the steps lead from one state to another
abbrev pub Leads : Opening → State → List Label → State → Type 0
Leads o s [] t = s ≡ t
Leads o s (l ∷ rest) t = (middle : State) × Step o s l.driver l.command middle × Leads o middle rest t

-- the steps lead from the opening to a state
abbrev pub Run : Opening → List Label → State → Type 0
Run o steps s = Leads o (opening_state o) steps s

-- a state that some steps lead to
pub record Reached (o : Opening) (s : State) : Type 0 where
  pub steps : List Label
  pub run : Run o steps s

-- ---- the record of a state

-- a peer's epoch and clock, and its driver's calls
abbrev pub peer_record : PeerPart → DriverPart → PeerCalls
peer_record x d = record { epoch = x.epoch; clock = x.clock; calls = driver_calls d }

-- of all peers, in the order of their numbers
abbrev pub peer_records : List PeerPart → List DriverPart → List PeerCalls
peer_records [] drivers = []
peer_records (x ∷ xs) [] = []
peer_records (x ∷ xs) (d ∷ ds) = peer_record x d ∷ peer_records xs ds

-- each peer's epoch and clock, and its driver's calls
abbrev pub record_of_state : State → Record
record_of_state s = record { peers = peer_records s.peers s.drivers }
