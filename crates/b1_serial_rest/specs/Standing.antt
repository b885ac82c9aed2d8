-- The peer of the serial bus that a peer's part and a driver's part of the machine stand for.
use Rattle.std.specs.Prelude.{ℕ, nat_lt, if◌then◌else◌, List, [], ◌∷◌, Option, None, Some, map}
use Rattle.b1_model.specs.declared.parts.NodeState.{NodeState}
use Rattle.b1_model.specs.declared.parts.NodeState.TheVariants.{Live, Dying, Destroyed}
use Rattle.b1_model.specs.MachineParts.{NodePart, HandleRecord, PeerPart, DriverPart, State}
use Rattle.b1_serial_bus.specs.Parts.{OwnNode, HeldLine, Part, Bus}

-- the stamp of a node's destruction, if it has one
abbrev pub stamp_of : NodeState → Option ℕ
stamp_of Live = None
stamp_of Dying = None
stamp_of (Destroyed stamp) = Some stamp

-- an own node: its number, and the stamp of its destruction
abbrev pub own_of : NodePart → OwnNode
own_of n = record { number = n.number; destroyed = stamp_of n.state }

-- the line of a node that is held under a number
abbrev pub line_under : ℕ → HandleRecord → HeldLine
line_under number h = record { number = number; node = h.node; held = h.held; dead = h.dead }

-- a line comes in where its number belongs
abbrev pub put_line : HeldLine → List HeldLine → List HeldLine
put_line l [] = l ∷ []
put_line l (m ∷ rest) = if nat_lt m.number l.number then m ∷ put_line l rest else l ∷ m ∷ rest

-- the line of a record comes in, where the record has a given number
abbrev pub with_line : Option ℕ → HandleRecord → List HeldLine → List HeldLine
with_line None h lines = lines
with_line (Some number) h lines = put_line (line_under number h) lines

-- the lines of the records that have given numbers, in the order of these
abbrev pub lines_of : List HandleRecord → List HeldLine
lines_of [] = []
lines_of (h ∷ rest) = with_line h.number h (lines_of rest)

-- a peer's part and a driver's part as a peer of the serial bus
abbrev pub part_of : PeerPart → DriverPart → Part
part_of x d = record {
  me = x.me;
  user = x.user;
  pool = x.pool;
  limits = x.limits;
  clock = x.clock;
  epoch = x.epoch;
  shut = d.shut;
  calls = d.calls;
  nodes = map own_of x.nodes;
  lines = lines_of x.handles;
  given = x.given;
  slices = x.slices;
  box = x.queue;
}

-- all parts, in the order of the peers' numbers
abbrev pub parts_of : List PeerPart → List DriverPart → Bus
parts_of [] drivers = []
parts_of (x ∷ xs) [] = []
parts_of (x ∷ xs) (d ∷ ds) = part_of x d ∷ parts_of xs ds

-- the serial bus that a state stands for
abbrev pub bus_of : State → Bus
bus_of s = parts_of s.peers s.drivers
