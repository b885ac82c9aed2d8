-- The serial bus before the first command.
use Rattle.std.specs.Prelude.{ℕ, ◌+◌, false, List, [], ◌∷◌, None, Some, fold, slice_get}
use Rattle.b1_model.specs.declared.naming.Opening.{Opening}
use Rattle.b1_model.specs.declared.naming.PeerSpec.{PeerSpec}
use Rattle.b1_model.specs.declared.naming.Wire.{Wire}
use Rattle.b1_model.specs.MachinePool.{whole_pool}
use Rattle.b1_serial_bus.specs.Parts.{Part, Bus, at_peer}
use Rattle.b1_serial_bus.specs.Named.{node_named, making}
use Rattle.b1_serial_bus.specs.References.{with_reference}

-- a peer before any wire
abbrev pub peer_opened : Opening → ℕ → PeerSpec → Part
peer_opened o me spec = record {
  me = me;
  user = spec.user;
  pool = spec.pool;
  limits = spec.limits;
  clock = o.first_clock;
  epoch = 0;
  shut = false;
  calls = [];
  nodes = [];
  lines = [];
  given = 0;
  slices = whole_pool spec.pool;
  box = [];
}

-- the peers before any wire, from the number `me` on
abbrev pub peers_opened : Opening → ℕ → List PeerSpec → Bus
peers_opened o me [] = []
peers_opened o me (spec ∷ rest) = peer_opened o me spec ∷ peers_opened o (me + 1) rest

-- a wire gives a reference to what its number names at its giver
abbrev pub wire_given : Wire → Bus → Bus
wire_given w bus = elim (slice_get bus w.from) [
  | None ↦ bus
  | Some x ↦ elim (node_named x w.number) [
    | None ↦ bus
    | Some node ↦ at_peer w.to (with_reference node) bus
  ]
]

-- its giver first makes a node for an own number that names nothing
abbrev pub wired : Bus → Wire → Bus
wired bus w = wire_given w (at_peer w.from (making (w.number ∷ [])) bus)

-- the bus before the first command
abbrev pub opened : Opening → Bus
opened o = fold wired (peers_opened o 0 o.peers) o.wires
