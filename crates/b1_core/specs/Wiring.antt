-- When a wire can be given between the parts of peers.
use Rattle.std.specs.Prelude.{◌≡◌, ◌≢◌, ℕ, ◌-◌, ◌<◌, ◌^◌, true, false, List, [], length, get_or, Some}
use Rattle.b1_model.specs.declared.naming.NodeRef.{NodeRef}
use Rattle.b1_model.specs.declared.naming.Wire.{Wire}
use Rattle.b1_model.specs.MachineParts.{PeerPart, is_live, node_at, record_or_none}
use Rattle.b1_model.specs.MachineTables.{count_of, node_named}
use Rattle.b1_model.specs.MachineStep.{no_peer, with_part, wire_made}

-- the part of peer q
abbrev pub part_of : List PeerPart → ℕ → PeerPart
part_of xs q = get_or xs q no_peer

-- the owner of a live node counts one more reference of another peer
pub record CanCount (x : PeerPart) (node : NodeRef) (dest : ℕ) : Type 0 where
  pub me : x.me ≡ node.owner
  pub made : node.serial < length x.nodes
  pub peer : dest < x.peers
  pub live : is_live (node_at x node.serial).state ≡ true
  pub unused : x.queue ≡ []
  pub fits : count_of (node_at x node.serial) dest < 2 ^ 63

-- a peer holds another peer's node once more
pub record CanHold (x : PeerPart) (node : NodeRef) : Type 0 where
  pub other : node.owner ≢ x.me
  pub few : x.given < 2 ^ 60
  pub not_dead : (record_or_none node x.handles).dead ≡ false
  pub fits : (record_or_none node x.handles).held < 2 ^ 63

-- the node that a wire's number names is given: its owner counts, and the other peer holds
pub record CanPass (xs : List PeerPart) (node : NodeRef) (to : ℕ) : Type 0 where
  pub owner : node.owner < length xs
  pub dest : to < length xs
  pub apart : to ≢ node.owner
  pub counts : CanCount (part_of xs node.owner) node to
  pub holds : CanHold (part_of xs to) node

-- a wire's number is looked up at its giver, where a node may be made, and what it names is given
pub record CanGive (xs : List PeerPart) (w : Wire) : Type 0 where
  pub giver : w.from < length xs
  pub few : length (part_of xs w.from).nodes < 2 ^ 32 - 1
  pub passes : (node : NodeRef) → node_named (part_of (with_part w.from (wire_made w.number) xs) w.from) w.number ≡ Some node → CanPass (with_part w.from (wire_made w.number) xs) node w.to
