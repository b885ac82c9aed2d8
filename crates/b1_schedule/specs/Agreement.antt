-- A driver's part shows where memory was wanting so far.
use Rattle.std.specs.Prelude.{Bool, ◌≡◌, ⊤, ℕ, true, false, List, slice_get, length, Option, Some, None}
use Rattle.b1_model.specs.declared.answers.Answer.{Answer}
use Rattle.b1_model.specs.declared.answers.Answer.TheVariants as answer
use Rattle.b1_model.specs.declared.answers.Reason.{Reason}
use Rattle.b1_model.specs.declared.commands.Command.{Command}
use Rattle.b1_model.specs.declared.records.Call.{Call}
use Rattle.b1_model.specs.declared.events.Doing.{Doing}
use Rattle.b1_model.specs.declared.events.Phase.{Phase}
use Rattle.b1_model.specs.declared.events.Phase.TheVariants.{Staging, Unstaging, Attaching, Stamping, Syncing, Committing}
use Rattle.b1_model.specs.MachineParts.{DriverPart, State}
use Rattle.b1_model.specs.MachineDriver.{send_of, is_memory}
use Rattle.b1_model.specs.MachineTook.{is_await, sent_answer}
use Rattle.b1_schedule.specs.Shortage.{Shortage, is_short_answer}

-- memory is wanting in call k just as its answer shows
abbrev pub AnswerAgrees : Shortage → ℕ → ℕ → Command → Answer → Type 0
AnswerAgrees m me k command got = is_await command ≡ false → (place : Option ℕ) → m me k place ≡ is_short_answer command got place

-- the begin and the accepted places of an open SEND found memory; with CONTINUE a place that was refused for memory did not
pub record PlacesAgree (m : Shortage) (me k : ℕ) (command : Command) (places : List (Option Reason)) : Type 0 where
  pub begin : m me k None ≡ false
  pub accepted : (i : ℕ) → slice_get places i ≡ Some None → m me k (Some i) ≡ false
  pub refused : (send_of command).go_on ≡ true → (i : ℕ) (place : Option Reason) → slice_get places i ≡ Some place → is_memory place ≡ true → m me k (Some i) ≡ true

-- memory is wanting in the open call k just as its phase shows; no other command than a SEND takes memory
abbrev pub PhaseAgrees : Shortage → ℕ → ℕ → Command → Phase → Type 0
PhaseAgrees m me k command (Staging nodes places collected) = is_await command ≡ false → PlacesAgree m me k command places
PhaseAgrees m me k command (Unstaging nodes places refused place) = AnswerAgrees m me k command (answer.Refused refused)
PhaseAgrees m me k command (Attaching sending place handle) = is_await command ≡ false → PlacesAgree m me k command sending.places
PhaseAgrees m me k command (Stamping sending) = is_await command ≡ false → PlacesAgree m me k command sending.places
PhaseAgrees m me k command (Syncing sending stamp place) = AnswerAgrees m me k command (sent_answer sending stamp)
PhaseAgrees m me k command (Committing sending stamp place) = AnswerAgrees m me k command (sent_answer sending stamp)
PhaseAgrees m me k command phase = ⊤

-- memory is wanting just as a driver's calls and its open command show
pub record Agrees (m : Shortage) (d : DriverPart) : Type 0 where
  pub calls : (k : ℕ) (call : Call) (place : Option ℕ) → slice_get d.calls k ≡ Some call → m d.me k place ≡ is_short_answer call.command call.answer place
  pub doing : (doing : Doing) → d.doing ≡ Some doing → PhaseAgrees m d.me (length d.calls) doing.command doing.phase

-- the same of every driver
abbrev pub AllAgree : Shortage → State → Type 0
AllAgree m s = (p : ℕ) (d : DriverPart) → slice_get s.drivers p ≡ Some d → Agrees m d

-- a SEND that stages
abbrev pub is_staging : Phase → Bool
is_staging (Staging nodes places collected) = true
is_staging phase = false
