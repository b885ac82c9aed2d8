-- What contracts see of a bus on threads, of its drivers, and of a closed bus.
use Rattle.std.specs.Prelude.{◌≡◌, ℕ, ◌+◌, ◌<◌, ◌≤◌, List, [], ◌∷◌, length, map, get_or, None, slice_get, Some}
use Rattle.atomic_table.specs.Seated.{TableId}
use Rattle.b1_model.specs.declared.naming.Opening.{Opening}
use Rattle.b1_model.specs.declared.naming.PeerSpec.{PeerSpec}
use Rattle.b1_model.specs.Opening.{IsOpening}
use Rattle.b1_model.specs.MachineParts.{PeerPart, DriverPart, State}
use Rattle.b1_model.specs.MachineStep.{Reached, no_peer}
use Rattle.b1_peer.specs.Seen.{PeerSeen}
use Rattle.b1_driver.specs.Parts.{Driver}
use Rattle.b1_event.specs.Borne.{AreShort, call_limit}
use Rattle.b1_event.specs.Events.{HasUsers}
use Rattle.b1_rule.specs.Rule.{state_of}

-- a bus: its table, how it was opened, and the state in which it was made
pub record BusFace : Type 0 where
  pub table : TableId
  pub opening : Opening
  pub first : State

-- a driver: the table that it steps on, how its bus was opened, and what it has of its own
pub record DriverFace : Type 0 where
  pub table : TableId
  pub opening : Opening
  pub own : Driver

-- a closed bus: how it was opened, its peers, and its drivers
pub record ClosedFace : Type 0 where
  pub opening : Opening
  pub peers : List PeerSeen
  pub drivers : List Driver

-- ---- which driver of which bus

-- a driver is one of a bus
pub record IsOf (d : DriverFace) (b : BusFace) : Type 0 where
  pub table : d.table ≡ b.table
  pub opening : d.opening ≡ b.opening

-- which driver it is: of which table and opening, and its number
pub record Member : Type 0 where
  pub table : TableId
  pub opening : Opening
  pub number : ℕ

-- of a driver
abbrev pub member : DriverFace → Member
member d = record { table = d.table; opening = d.opening; number = d.own.part.me }

-- of several
abbrev pub members : List DriverFace → List Member
members ds = map member ds

-- one for each peer, from the number `me` on
abbrev pub crew_from : BusFace → ℕ → List PeerSpec → List Member
crew_from b me [] = []
crew_from b me (spec ∷ rest) = record { table = b.table; opening = b.opening; number = me } ∷ crew_from b (me + 1) rest

-- the drivers of a bus, in the order of their peers
abbrev pub crew : BusFace → List Member
crew b = crew_from b 0 b.opening.peers

-- ---- what always holds

-- a driver between two commands: none is open, its list is short with the room that it has, and its room for doomed nodes is here
pub record IsIdle (d : Driver) : Type 0 where
  pub closed : d.part.doing ≡ None
  pub few : length d.part.calls + d.spare < call_limit
  pub here : d.doomed ≤ d.here

-- a driver's part stands in some reached state whose drivers' lists are short
pub record StandsIn (o : Opening) (d : DriverPart) : Type 0 where
  pub state : State
  pub opening : IsOpening o
  pub reached : Reached o state
  pub short : AreShort state
  pub driver : slice_get state.drivers d.me ≡ Some d

-- the peers and drivers of a closed bus: their state is reached, all drivers are between two commands, each has room for all nodes of its peer, and each peer knows who may send
pub record IsClosed (o : Opening) (xs : List PeerSeen) (ds : List Driver) : Type 0 where
  pub opening : IsOpening o
  pub reached : Reached o (state_of xs ds)
  pub idle : (p : ℕ) (d : Driver) → slice_get ds p ≡ Some d → IsIdle d
  pub room : (p : ℕ) (x : PeerSeen) (d : Driver) → slice_get xs p ≡ Some x → slice_get ds p ≡ Some d → length x.part.nodes ≤ d.doomed
  pub users : (p : ℕ) (x : PeerSeen) → slice_get xs p ≡ Some x → HasUsers o x.users

-- the part of peer p
abbrev pub part_at : List PeerSeen → ℕ → PeerPart
part_at xs p = get_or (map (λ x. x.part) xs) p no_peer
