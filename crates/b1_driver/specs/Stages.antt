-- What the stages of an open command stand for, and what holds in them.
use Rattle.std.specs.Prelude.{◌≡◌, ◌≢◌, ℕ, Bool, true, false, ◌+◌, ◌<◌, ◌≤◌, ◌^◌, List, [], map, length, Option, Some, None, vec_capacity, ⊤}
use Rattle.b1_model.specs.declared.answers.Reason.{Reason}
use Rattle.b1_model.specs.declared.parts.Begun.{Begun}
use Rattle.b1_model.specs.declared.parts.Slot.{Slot}
use Rattle.b1_model.specs.declared.parts.Slot.TheVariants.{Unattached}
use Rattle.b1_model.specs.declared.events.Phase.{Phase}
use Rattle.b1_model.specs.declared.events.Phase.TheVariants as phase
use Rattle.b1_model.specs.declared.events.Doing.{Doing}
use Rattle.b1_model.specs.declared.events.Destruction.{Destruction}
use Rattle.b1_model.specs.declared.events.OwedDrop.{OwedDrop}
use Rattle.b1_model.specs.declared.commands.Command.{Command}
use Rattle.b1_model.specs.declared.events.Outcome.{Outcome}
use Rattle.b1_model.specs.declared.records.Call.{Call}
use Rattle.b1_model.specs.MachineDriver.{Turn, Goes, Ends, turn}
use Rattle.b1_model.specs.MachineTook.{call_of}
use Rattle.b1_driver.specs.declared.stage.SendStage.{SendStage}
use Rattle.b1_driver.specs.declared.stage.SendStage.TheVariants.{Staging, Unstaging, Attaching, Stamping, Syncing, Committing}
use Rattle.b1_driver.specs.declared.stage.SendAfter.{SendAfter}
use Rattle.b1_driver.specs.declared.stage.SendAfter.TheVariants as sent
use Rattle.b1_driver.specs.declared.stage.Visits.{Visits}
use Rattle.b1_driver.specs.declared.stage.DestroyStage.{DestroyStage}
use Rattle.b1_driver.specs.declared.stage.DestroyStage.TheVariants.{Visiting, Dooming, SyncingNotices, CommittingOwn, CommittingNotices}
use Rattle.b1_driver.specs.declared.stage.Stage.{Stage}
use Rattle.b1_driver.specs.declared.stage.Stage.TheVariants as stage
use Rattle.b1_driver.specs.declared.stage.Open.{Open}
use Rattle.b1_driver.specs.declared.stage.After.{After}
use Rattle.b1_driver.specs.declared.stage.After.TheVariants as after

-- ---- what they stand for

-- the phase of a SEND
abbrev pub send_phase : SendStage → Phase
send_phase (Staging begun places slots collected) = phase.Staging begun places.items collected
send_phase (Unstaging begun places refused place) = phase.Unstaging begun places refused place
send_phase (Attaching sending place handle) = phase.Attaching sending place handle
send_phase (Stamping sending) = phase.Stamping sending
send_phase (Syncing sending stamp place) = phase.Syncing sending stamp place
send_phase (Committing sending stamp place) = phase.Committing sending stamp place

-- where a SEND stands after an event
abbrev pub send_turn : SendAfter → Turn
send_turn (sent.Goes one) = Goes (send_phase one)
send_turn (sent.Ends answer) = Ends answer

-- a destruction, with its doomed nodes
abbrev pub with_doomed : List ℕ → Visits → Destruction
with_doomed doomed visits = record { doomed = doomed; collected = visits.collected; staged = visits.staged }

-- the phase of a destruction, with its doomed nodes
abbrev pub destroy_phase : List ℕ → DestroyStage → Phase
destroy_phase doomed (Visiting visits left) = phase.Visiting (with_doomed doomed visits) left
destroy_phase doomed (Dooming visits) = phase.Dooming (with_doomed doomed visits)
destroy_phase doomed (SyncingNotices visits stamp place) = phase.SyncingNotices (with_doomed doomed visits) stamp place
destroy_phase doomed (CommittingOwn visits stamp) = phase.CommittingOwn (with_doomed doomed visits) stamp
destroy_phase doomed (CommittingNotices visits stamp place) = phase.CommittingNotices (with_doomed doomed visits) stamp place

-- the phase of a stage, with the doomed nodes of a destruction
abbrev pub phase_of : List ℕ → Stage → Phase
phase_of doomed stage.Starting = phase.Starting
phase_of doomed (stage.Sending one) = send_phase one
phase_of doomed stage.Dropping = phase.Dropping
phase_of doomed (stage.Reaping answer) = phase.Reaping answer
phase_of doomed (stage.Destroying one) = destroy_phase doomed one
phase_of doomed (stage.Flushing stamp) = phase.Flushing stamp

-- where a command stands after an event
abbrev pub turn_of : List ℕ → After → Turn
turn_of doomed (after.Goes one) = Goes (phase_of doomed one)
turn_of doomed (after.Ends answer) = Ends answer

-- ---- what holds in them

-- a SEND's slots before anything is attached
abbrev pub unattached : Begun → List (List Slot)
unattached begun = map (λ to. map (λ node. Unattached) begun.with) begun.to

-- a SEND that stages has room for the next place and for all destinations, its slots, and places that are numbers of 32 bits
pub record IsStaging (begun : Begun) (places : List (Option Reason)) (room : ℕ) (slots : List (List Slot)) : Type 0 where
  pub few_destinations : length begun.to < 2 ^ 32
  pub few_places : length places + 1 < 2 ^ 32
  pub next : length places < room
  pub destinations : length begun.to ≤ room
  pub none_attached : slots ≡ unattached begun

-- places are numbers of 32 bits
abbrev pub IsFew : List (Option Reason) → Type 0
IsFew places = length places < 2 ^ 32

-- what holds of a SEND
abbrev pub IsSend : SendStage → Type 0
IsSend (Staging begun places slots collected) = IsStaging begun places.items (vec_capacity places) slots
IsSend (Unstaging begun places refused place) = IsFew places
IsSend (Attaching sending place handle) = IsFew sending.places × (handle < length sending.begun.with)
IsSend (Stamping sending) = IsFew sending.places
IsSend (Syncing sending stamp place) = IsFew sending.places
IsSend (Committing sending stamp place) = IsFew sending.places

-- what holds of a SEND after an event
abbrev pub IsSendAfter : SendAfter → Type 0
IsSendAfter (sent.Goes one) = IsSend one
IsSendAfter (sent.Ends answer) = ⊤

-- a destruction that visits has a peer left; its place is one of the peers where a notice was staged
abbrev pub IsDestruction : DestroyStage → Type 0
IsDestruction (Visiting visits left) = 0 < length left
IsDestruction (Dooming visits) = ⊤
IsDestruction (SyncingNotices visits stamp place) = place < length visits.staged
IsDestruction (CommittingOwn visits stamp) = ⊤
IsDestruction (CommittingNotices visits stamp place) = place < length visits.staged

-- what holds in a stage
abbrev pub IsStage : Stage → Type 0
IsStage stage.Starting = ⊤
IsStage (stage.Sending one) = IsSend one
IsStage stage.Dropping = ⊤
IsStage (stage.Reaping answer) = ⊤
IsStage (stage.Destroying one) = IsDestruction one
IsStage (stage.Flushing stamp) = ⊤

-- what holds after an event
abbrev pub IsAfter : After → Type 0
IsAfter (after.Goes one) = IsStage one
IsAfter (after.Ends answer) = ⊤

-- ---- how many drops a cancelled place may owe

-- the handles of a SEND that it may yet attach or give up
abbrev pub send_handles : SendStage → ℕ
send_handles (Staging begun places slots collected) = length begun.with
send_handles (Unstaging begun places refused place) = 0
send_handles (Attaching sending place handle) = length sending.begun.with
send_handles (Stamping sending) = length sending.begun.with
send_handles (Syncing sending stamp place) = length sending.begun.with
send_handles (Committing sending stamp place) = length sending.begun.with

-- the same, after an event
abbrev pub send_after_handles : SendAfter → ℕ
send_after_handles (sent.Goes one) = send_handles one
send_after_handles (sent.Ends answer) = 0

-- the same, of any command
abbrev pub handles_in : Stage → ℕ
handles_in stage.Starting = 0
handles_in (stage.Sending one) = send_handles one
handles_in stage.Dropping = 0
handles_in (stage.Reaping answer) = 0
handles_in (stage.Destroying one) = 0
handles_in (stage.Flushing stamp) = 0

-- the same, after an event
abbrev pub handles_after : After → ℕ
handles_after (after.Goes one) = handles_in one
handles_after (after.Ends answer) = 0

-- a command's first event is next
abbrev pub is_starting : Stage → Bool
is_starting stage.Starting = true
is_starting (stage.Sending one) = false
is_starting stage.Dropping = false
is_starting (stage.Reaping answer) = false
is_starting (stage.Destroying one) = false
is_starting (stage.Flushing stamp) = false

-- a release that is done is left with its drop alone
abbrev pub is_dropping : Stage → Bool
is_dropping stage.Starting = false
is_dropping (stage.Sending one) = false
is_dropping stage.Dropping = true
is_dropping (stage.Reaping answer) = false
is_dropping (stage.Destroying one) = false
is_dropping (stage.Flushing stamp) = false

-- the same, after an event
abbrev pub is_dropping_after : After → Bool
is_dropping_after (after.Goes one) = is_dropping one
is_dropping_after (after.Ends answer) = false

-- a release that is done still owes its drop
abbrev pub OwesDrop : List OwedDrop → Option Open → Type 0
OwesDrop owed None = ⊤
OwesDrop owed (Some one) = is_dropping one.stage ≡ true → owed ≢ []

-- what an event's answer makes of a stage, whatever the driver, its command and its doomed nodes
abbrev pub Turns : Stage → Outcome → After → Type 0
Turns one outcome result = (me : ℕ) (command : Command) (doomed : List ℕ) → turn_of doomed result ≡ turn me command (phase_of doomed one) outcome

-- ---- an open command, or none

-- what a driver does, by its open command
abbrev pub doing_of : List ℕ → Option Open → Option Doing
doing_of doomed None = None
doing_of doomed (Some one) = Some (record { command = one.command; phase = phase_of doomed one.stage })

-- what holds of an open command: a call more fits in the list, of so many calls with so much room
abbrev pub IsOpen : ℕ → ℕ → Option Open → Type 0
IsOpen calls room None = ⊤
IsOpen calls room (Some one) = (calls < room) × IsStage one.stage

-- the handles of the open command that it may yet attach or give up
abbrev pub open_handles : Option Open → ℕ
open_handles None = 0
open_handles (Some one) = handles_in one.stage

-- the open command after an event, if it hasn't ended
abbrev pub open_after : Command → After → Option Open
open_after command (after.Goes one) = Some (record { command = command; stage = one })
open_after command (after.Ends answer) = None

-- the calls that an event adds
abbrev pub calls_after : Command → After → List Call
calls_after command (after.Goes one) = []
calls_after command (after.Ends answer) = call_of command answer
