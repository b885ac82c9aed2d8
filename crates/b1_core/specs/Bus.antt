-- The state that peers and drivers stand for, and what always holds of them.
use Rattle.std.specs.Prelude.{◌≡◌, ℕ, ◌+◌, ◌<◌, ◌≤◌, not, List, length, map, Option, Some, is_none, slice_get}
use Rattle.b1_model.specs.declared.naming.Opening.{Opening}
use Rattle.b1_model.specs.declared.commands.Command.{Command}
use Rattle.b1_model.specs.Opening.{IsOpening}
use Rattle.b1_model.specs.MachineParts.{PeerPart, State}
use Rattle.b1_model.specs.MachineStep.{Step, Reached}
use Rattle.b1_peer.specs.Seen.{PeerSeen}
use Rattle.b1_driver.specs.Parts.{Driver}
use Rattle.b1_core.specs.declared.turn.Turn.{Turn}
use Rattle.b1_event.specs.Events.{HasUsers}
use Rattle.b1_event.specs.Borne.{call_limit}
use Rattle.b1_core.specs.Turns.{Stands, driver_at}

-- the state of these peers and drivers
abbrev pub state_of : List PeerSeen → List Driver → State
state_of xs ds = record { peers = map (λ x. x.part) xs; drivers = map (λ d. d.part) ds }

-- what a peer and its driver have beside their parts: the users that may send, room for fewer calls than the limit, and room for as many doomed nodes as were made
pub record IsStocked (o : Opening) (x : PeerSeen) (d : Driver) : Type 0 where
  pub users : HasUsers o x.users
  pub few : length d.part.calls + d.spare < call_limit
  pub doomed : length x.part.nodes ≤ d.doomed
  pub here : d.doomed ≤ d.here

-- the same of all
abbrev pub AreStocked : Opening → List PeerSeen → List Driver → Type 0
AreStocked o xs ds = (p : ℕ) (x : PeerSeen) (d : Driver) → slice_get xs p ≡ Some x → slice_get ds p ≡ Some d → IsStocked o x d

-- a driver without room for calls, and with room for as many doomed nodes as its peer has
pub record IsNew (x : PeerPart) (d : Driver) : Type 0 where
  pub spare : d.spare ≡ 0
  pub doomed : length x.nodes ≤ d.doomed
  pub here : d.doomed ≤ d.here

-- the same of all
abbrev pub AreNew : List PeerPart → List Driver → Type 0
AreNew xs ds = (p : ℕ) (x : PeerPart) (d : Driver) → slice_get xs p ≡ Some x → slice_get ds p ≡ Some d → IsNew x d

-- a bus that steps have led to from an opening with which it can begin, with a list of commands for each peer
pub record IsCore (o : Opening) (lists : List (List Command)) (xs : List PeerSeen) (ds : List Driver) : Type 0 where
  pub opening : IsOpening o
  pub as_many : length lists ≡ length o.peers
  pub reached : Reached o (state_of xs ds)
  pub stocked : AreStocked o xs ds

-- a command begins exactly where none is open
abbrev pub Begins : Option Command → State → ℕ → Type 0
Begins command s p = is_none command ≡ not (is_none (driver_at s p).doing)

-- a step of driver p, with a command that begins if one is given, and where it leaves the driver
pub record IsStep (o : Opening) (s : State) (p : ℕ) (command : Option Command) (turn : Turn) (t : State) : Type 0 where
  pub step : Step o s p command t
  pub stands : Stands step.driver turn step.new_driver
