-- When an answer is of its command's kind: in calls, and in the phases of open commands.
use Rattle.std.specs.Prelude.{◌≡◌, ◌⊎◌, ⊤, ℕ, Bool, true, false, List, slice_get, length, Option, Some, is_none}
use Rattle.std.specs.List.{list_any, list_all}
use Rattle.b1_model.specs.declared.commands.Command.{Command}
use Rattle.b1_model.specs.declared.commands.Command.TheVariants as cmd
use Rattle.b1_model.specs.declared.answers.Answer.{Answer}
use Rattle.b1_model.specs.declared.answers.Answer.TheVariants as answer
use Rattle.b1_model.specs.declared.answers.Reason.{Reason}
use Rattle.b1_model.specs.declared.records.Call.{Call}
use Rattle.b1_model.specs.declared.events.Doing.{Doing}
use Rattle.b1_model.specs.declared.events.Phase.{Phase}
use Rattle.b1_model.specs.declared.events.Phase.TheVariants.{Starting, Staging, Unstaging, Attaching, Stamping, Syncing, Committing, Dropping, Reaping, Visiting, Dooming, SyncingNotices, CommittingOwn, CommittingNotices, Flushing}
use Rattle.b1_model.specs.Script.{fits, HasPlaces, ends_await, is_receipt}
use Rattle.b1_model.specs.MachineParts.{DriverPart, State}
use Rattle.b1_model.specs.MachineDriver.{Turn, Goes, Ends, send_of, is_flushing}
use Rattle.b1_model.specs.MachineTook.{is_waiting}
use Rattle.b1_inv.specs.Words.{IsDriver}
use Rattle.b1_inv.specs.Notices.{IsDestroying}

-- the places of an open SEND: one for each destination, one of them accepted, and without CONTINUE all
pub record PlacesFit (command : Command) (places : List (Option Reason)) : Type 0 where
  pub is_send : command ≡ cmd.Send (send_of command)
  pub count : length places ≡ length (send_of command).to
  pub accepted : list_any is_none places ≡ true
  pub refused : (send_of command).go_on ≡ false → list_all is_none places ≡ true

-- a command may end with this answer: one of its kind; an AWAIT with a receipt, as an attempt that waits, or refused at a driver that is shut
abbrev pub EndsWell : Bool → Command → Answer → Type 0
EndsWell shut cmd.Await got = (is_waiting cmd.Await got ≡ true) ⊎ ((is_receipt got ≡ true) ⊎ ((shut ≡ true) × (ends_await got ≡ true)))
EndsWell shut command got = (fits command got ≡ true) × HasPlaces command got

-- a phase belongs to its command, and leads to an answer of the command's kind
abbrev pub PhaseFits : Command → Phase → Type 0
PhaseFits command Starting = ⊤
PhaseFits command (Staging begun places collected) = (send_of command).go_on ≡ false → list_all is_none places ≡ true
PhaseFits command (Unstaging begun places refused place) = command ≡ cmd.Send (send_of command)
PhaseFits command (Attaching sending place handle) = PlacesFit command sending.places
PhaseFits command (Stamping sending) = PlacesFit command sending.places
PhaseFits command (Syncing sending stamp place) = PlacesFit command sending.places
PhaseFits command (Committing sending stamp place) = PlacesFit command sending.places
PhaseFits command Dropping = EndsWell false command answer.Done
PhaseFits command (Reaping got) = EndsWell false command got
PhaseFits command (Visiting destruction left) = IsDestroying command
PhaseFits command (Dooming destruction) = IsDestroying command
PhaseFits command (SyncingNotices destruction stamp at) = IsDestroying command
PhaseFits command (CommittingOwn destruction stamp) = IsDestroying command
PhaseFits command (CommittingNotices destruction stamp at) = IsDestroying command
PhaseFits command (Flushing stamp) = is_flushing command ≡ true

-- what an event made of a phase
abbrev pub TurnFits : Bool → Command → Turn → Type 0
TurnFits shut command (Goes phase) = PhaseFits command phase
TurnFits shut command (Ends got) = EndsWell shut command got

-- the answer of a call is of its command's kind, a SEND's with a place for each destination
abbrev pub IsAnswered : Call → Type 0
IsAnswered c = (fits c.command c.answer ≡ true) × HasPlaces c.command c.answer

-- all calls of a driver are answered so, and its open command is in a phase of its own
pub record AnswersOf (d : DriverPart) : Type 0 where
  pub calls : (k : ℕ) (call : Call) → slice_get d.calls k ≡ Some call → IsAnswered call
  pub phase : (doing : Doing) → d.doing ≡ Some doing → PhaseFits doing.command doing.phase

-- so it is of all drivers
abbrev pub AnswersFit : State → Type 0
AnswersFit s = (p : ℕ) (d : DriverPart) → IsDriver s p d → AnswersOf d
