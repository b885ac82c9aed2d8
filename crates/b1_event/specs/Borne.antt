-- What the next event of a driver finds in a reached state.
use Rattle.std.specs.Prelude.{◌≡◌, ℕ, ◌<◌, ◌≤◌, ◌^◌, length, Option, Some, slice_get}
use Rattle.b1_model.specs.declared.naming.Opening.{Opening}
use Rattle.b1_model.specs.declared.commands.Command.{Command}
use Rattle.b1_model.specs.MachineParts.{PeerPart, DriverPart, State}
use Rattle.b1_model.specs.MachineDriver.{next_action, peer_of}
use Rattle.b1_model.specs.MachineStep.{begun}
use Rattle.b1_inv_peer.specs.PeerOk.{PeerOk}
use Rattle.b1_driver.specs.Parts.{Driver}
use Rattle.b1_event.specs.Events.{Allowed, HasStock}

-- a driver's list has fewer calls than this
abbrev pub call_limit : ℕ
call_limit = 2 ^ 25

-- each driver's list is that short
abbrev pub AreShort : State → Type 0
AreShort s = (p : ℕ) (d : DriverPart) → slice_get s.drivers p ≡ Some d → length d.calls < call_limit

-- what a driver and a peer say of themselves beside their parts: the driver of a peer has room for all nodes that were made there
abbrev pub HasRoomForNodes : PeerPart → Driver → Type 0
HasRoomForNodes x d = x.me ≡ d.part.me → length x.nodes ≤ d.here

-- the next event of driver p, whose part is `e` once its command has begun: it is at a peer of the bus, and has all that it needs of that peer's part and of the two values
pub record IsBorne (o : Opening) (s : State) (p : ℕ) (e : DriverPart) : Type 0 where
  pub number : e.me ≡ p
  pub known : e.me < length o.peers
  pub aims : peer_of p (next_action e) < length s.peers
  pub allowed : (x : PeerPart) → slice_get s.peers (peer_of p (next_action e)) ≡ Some x → PeerOk x → Allowed e (next_action e) x
  pub stock : (x : PeerPart) (d : Driver) → slice_get s.peers (peer_of p (next_action e)) ≡ Some x → d.part ≡ e → HasRoomForNodes x d → HasStock (next_action e) x d

-- the same of every driver, whichever command begins
abbrev pub BearsEvents : Opening → State → Type 0
BearsEvents o s = (p : ℕ) (d e : DriverPart) (command : Option Command) → slice_get s.drivers p ≡ Some d → begun d command ≡ Some e → IsBorne o s p e
