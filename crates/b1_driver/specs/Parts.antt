-- What contracts see of a driver beside its part, and the words of its calls.
use Rattle.std.specs.Prelude.{◌≡◌, ℕ, ◌≤◌, ◌<◌, ◌^◌, ◌+◌, ◌-◌, max, min, Bool, true, false, if◌then◌else◌, List, length, Option, Some, None, Ok, Err, Result, ⊤}
use Rattle.b1_model.specs.declared.commands.Command.{Command}
use Rattle.b1_model.specs.declared.parts.Begun.{Begun}
use Rattle.b1_model.specs.declared.answers.Reason.{Reason}
use Rattle.b1_model.specs.declared.answers.Front.{Front}
use Rattle.b1_model.specs.declared.parts.Received.{Received}
use Rattle.b1_model.specs.declared.events.Action.{Action}
use Rattle.b1_model.specs.declared.events.Action.TheVariants as act
use Rattle.b1_model.specs.declared.events.Outcome.{Outcome}
use Rattle.b1_model.specs.declared.events.Outcome.TheVariants as out
use Rattle.b1_model.specs.declared.events.OwedDrop.{OwedDrop}
use Rattle.b1_model.specs.declared.records.Call.{Call}
use Rattle.b1_model.specs.declared.events.Doing.{Doing}
use Rattle.b1_model.specs.declared.events.Phase.{Phase}
use Rattle.b1_model.specs.MachineParts.{DriverPart}
use Rattle.b1_model.specs.declared.commands.SendCmd.{SendCmd}
use Rattle.b1_model.specs.MachineDriver.{Turn, Goes, Ends, no_send, send_of}
use Rattle.b1_driver.specs.declared.facts.Facts.{Facts}
use Rattle.b1_model.specs.MachineTook.{is_done, answer_of, ended}

-- the drops that are owed, and for how many there is room where none is owed
pub record Owed : Type 0 where
  pub drops : List OwedDrop
  pub room : ℕ

-- for how many places there is room, how many lists of slots stand ready, and how many slots are in each
pub record Room : Type 0 where
  pub places : ℕ
  pub lists : ℕ
  pub handles : ℕ

-- a driver: its part, how many more calls fit, the room of a SEND, for how many drops there is room, for how many doomed nodes room was taken, and how many fit in the list that is here
pub record Driver : Type 0 where
  pub part : DriverPart
  pub spare : ℕ
  pub room : Room
  pub drops : ℕ
  pub doomed : ℕ
  pub here : ℕ

-- a room is that of a SEND to so many destinations with so many handles
pub record HasRoom (room : Room) (destinations handles : ℕ) : Type 0 where
  pub few : destinations < 2 ^ 32
  pub for_places : max 1 destinations ≤ room.places
  pub for_slots : room.lists ≡ destinations
  pub in_each : room.handles ≡ handles

-- a SEND that begins has the room for the nodes that were found
abbrev pub HasRoomFor : Room → Result Begun Reason → Type 0
HasRoomFor room (Ok begun) = HasRoom room (length begun.to) (length begun.with)
HasRoomFor room (Err r) = ⊤

-- the same, of any outcome
abbrev pub HasRoomAt : Room → Outcome → Type 0
HasRoomAt room (out.Begin got) = HasRoomFor room got
HasRoomAt room outcome = ⊤

-- an outcome is of an action's kind
abbrev pub fits : Action → Outcome → Bool
fits act.Begin (out.Begin got) = true
fits (act.Stage peer place) (out.Stage got) = true
fits (act.Unstage peer place) out.Unstage = true
fits (act.Attach peer serial dest) (out.Attach got) = true
fits act.Stamp (out.Stamp stamp) = true
fits (act.Sync peer stamp) out.Sync = true
fits (act.Commit peer place stamp) (out.Commit found) = true
fits (act.CommitNotices peer stamp) out.CommitNotices = true
fits act.Recv (out.Recv got dead) = true
fits act.Reap (out.Reap got dead) = true
fits act.Release (out.Release got) = true
fits (act.DropRefs peer serial holder k clock) out.DropRefs = true
fits act.BeginDestroy (out.BeginDestroy got doomed) = true
fits (act.Visit peer) (out.Visit got) = true
fits act.StampDestroy (out.StampDestroy got) = true
fits act.Flush (out.Flush dead) = true
fits act.Local (out.Local got) = true
fits action outcome = false

-- an outcome that drops what is owed
abbrev pub is_drop : Outcome → Bool
is_drop out.DropRefs = true
is_drop outcome = false

-- an outcome hands the list of doomed nodes back
abbrev pub hands_back : Outcome → Bool
hands_back (out.BeginDestroy got doomed) = true
hands_back outcome = false

-- ---- what an event needs besides

-- by the open command's phase, or what stands in its place where none is open
abbrev pub by_phase : {X : Type 0} → X → (Phase → X) → Option Doing → X
by_phase none by None = none
by_phase none by (Some doing) = by doing.phase

-- the open command
abbrev pub command_of : Option Doing → Option Command
command_of None = None
command_of (Some doing) = Some doing.command

-- the SEND that is open, or one of no destination and no handle
abbrev pub send_in : Option Doing → SendCmd
send_in None = no_send
send_in (Some doing) = send_of doing.command

-- ---- the end of a command

-- a command in a phase, or its end where nothing is left of it
abbrev pub settled : List OwedDrop → Bool → Command → Phase → Turn
settled owed told command phase =
    if is_done owed told phase then elim (answer_of command phase) [ None ↦ Goes phase | Some got ↦ Ends got ] else Goes phase

-- the same, after a turn
abbrev pub settled_turn : List OwedDrop → Bool → Command → Turn → Turn
settled_turn owed told command (Goes phase) = settled owed told command phase
settled_turn owed told command (Ends got) = Ends got

-- a driver's part with a command in a phase or ended
abbrev pub at_turn : DriverPart → Command → Turn → DriverPart
at_turn d command (Goes phase) = record d { doing = Some (record { command = command; phase = phase }) }
at_turn d command (Ends got) = ended d command got

-- ---- attempts

-- what a RECV that couldn't take its front found and removed
abbrev pub attempted_by : Received → Option (Front × ℕ)
attempted_by got = elim got.front [ Ok receipt ↦ None | Err front ↦ Some (front, got.removed) ]

-- the last attempt, after an event
abbrev pub attempted_after : Option (Front × ℕ) → Option (Front × ℕ) → Option (Front × ℕ)
attempted_after found last = elim found [ None ↦ last | Some attempt ↦ Some attempt ]

-- how many attempts there were, after an event
abbrev pub attempts_after : Option (Front × ℕ) → ℕ → ℕ
attempts_after found many = elim found [ None ↦ many | Some attempt ↦ min (many + 1) (2 ^ 64 - 1) ]

-- a driver's part, by its number, calls, facts, open command and owed drops
abbrev pub part_of : ℕ → List Call → Facts → Option Doing → List OwedDrop → DriverPart
part_of me calls facts doing owed = record { me = me; calls = calls; shut = facts.shut; doing = doing; owed = owed; told = facts.told; attempted = facts.attempted; attempts = facts.attempts }
