-- What a driver's seat is between events and under a lock, and what one event makes of the driver.
use Rattle.std.specs.Prelude.{◌≡◌, ℕ, ◌+◌, ◌<◌, ◌≤◌, [], ◌∷◌, length, Option, Some, Err}
use Rattle.b1_model.specs.declared.naming.Opening.{Opening}
use Rattle.b1_model.specs.declared.commands.Command.{Command}
use Rattle.b1_model.specs.declared.answers.Answer.TheVariants as answer
use Rattle.b1_model.specs.declared.answers.Reason.{Reason}
use Rattle.b1_model.specs.declared.answers.Refused.{Refused}
use Rattle.b1_model.specs.declared.commands.Command.TheVariants as cmd
use Rattle.b1_model.specs.declared.commands.SendCmd.{SendCmd}
use Rattle.b1_model.specs.declared.events.Outcome.TheVariants as out
use Rattle.b1_model.specs.MachineParts.{PeerPart, DriverPart}
use Rattle.b1_model.specs.MachineTook.{took}
use Rattle.b1_model.specs.MachineDriver.{next_action, peer_of}
use Rattle.b1_model.specs.MachineStep.{begun}
use Rattle.b1_peer.specs.Seen.{PeerSeen}
use Rattle.b1_driver.specs.Parts.{Driver}
use Rattle.b1_event.specs.Borne.{call_limit}
use Rattle.b1_rule.specs.Known.{Holding}
use Rattle.b1_rule.specs.Plays.{Sat, naming, resting, Changes, Took}
use Rattle.b1_edge.specs.Ports.{with_call}
use Rattle.b1_commands.specs.Done.{Moves}
use Rattle.b1_locks.specs.Faces.{StandsIn}

-- a seat has one driver's part and names no peer
pub record Rests (m : Sat) : Type 0 where
  pub before : Holding
  pub me : m ≡ resting m.0.opening before

-- a seat has the lock of peer q, whose state has changed with the driver's part by one step since the seat found it
pub record HasStepped (m : Sat) (q : ℕ) (e : Holding) : Type 0 where
  pub before : Holding
  pub found : PeerPart
  pub seen : PeerSeen
  pub me : m ≡ (naming m.0.opening (before ∷ []) q found, (q, seen) ∷ [])
  pub changes : Changes m.0.opening before q found e seen

-- a driver's list is short with the room that it has, and its room for doomed nodes is here
pub record IsFit (d : Driver) : Type 0 where
  pub few : length d.part.calls + d.spare < call_limit
  pub here : d.doomed ≤ d.here

-- a driver has a command open, or one begins: its part with the command comes from the part that its seat has
pub record HasBegun (o : Opening) (before : Holding) (command : Option Command) (d : Driver) : Type 0 where
  pub stands : StandsIn o before.part
  pub begun : begun before.part command ≡ Some d.part
  pub room : d.doomed ≡ before.room
  pub fit : IsFit d

-- the same, whatever the part and the command are
abbrev pub MayStep : Opening → Sat → Driver → Type 0
MayStep o m d = (before : Holding) × (command : Option Command) × (m ≡ resting o before) × HasBegun o before command d

-- a seat has the lock of the peer that the driver's next event is at
pub record HasLock (o : Opening) (before : Holding) (command : Option Command) (m : Sat) (q : ℕ) (d : Driver) : Type 0 where
  pub begun : HasBegun o before command d
  pub at : q ≡ peer_of before.part.me (next_action d.part)
  pub took : Took (resting o before) q m

-- the same, whatever the part and the command are
abbrev pub MayWork : Opening → Sat → ℕ → Driver → Type 0
MayWork o m q d = (before : Holding) × (command : Option Command) × HasLock o before command m q d

-- an event leaves the driver fit, with as many calls and room in all; its part stands in a reached state, to which a step led from the part before
pub record HasMoved (o : Opening) (before : Holding) (command : Option Command) (d e : Driver) : Type 0 where
  pub stands : StandsIn o e.part
  pub fit : IsFit e
  pub spare : e.spare + length e.part.calls ≡ d.spare + length d.part.calls
  pub moves : Moves o before.part command e.part

-- the begin of a SEND was refused
abbrev pub IsBeginRefused : DriverPart → DriverPart → Type 0
IsBeginRefused d e = (r : Reason) × (e ≡ took d (out.Begin (Err r)))

-- a SEND was refused, and that is one call more
abbrev pub IsSendRefused : DriverPart → SendCmd → DriverPart → Type 0
IsSendRefused d s e = (b : Refused) × (e.calls ≡ with_call (cmd.Send s) (answer.Refused b) d.calls)
