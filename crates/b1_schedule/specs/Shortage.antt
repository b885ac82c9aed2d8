-- Where memory was wanting: at which places of which calls a record says so, and what a step is told of it.
use Rattle.std.specs.Prelude.{◌+◌, ℕ, Bool, true, false, ◌&&◌, ◌||◌, ◌==◌, nat_le, List, slice_get, length, Option, Some, None}
use Rattle.b1_model.specs.declared.answers.Answer.{Answer}
use Rattle.b1_model.specs.declared.answers.Answer.TheVariants as answer
use Rattle.b1_model.specs.declared.answers.Reason.{Reason}
use Rattle.b1_model.specs.declared.answers.Refused.{Refused}
use Rattle.b1_model.specs.declared.commands.Command.{Command}
use Rattle.b1_model.specs.declared.records.Record.{Record}
use Rattle.b1_model.specs.declared.events.Doing.{Doing}
use Rattle.b1_model.specs.declared.events.Phase.{Phase}
use Rattle.b1_model.specs.declared.events.Phase.TheVariants.{Staging}
use Rattle.b1_model.specs.Names.{calls_of}
use Rattle.b1_model.specs.MachineParts.{DriverPart}
use Rattle.b1_model.specs.MachineDriver.{send_of, is_memory}
use Rattle.b1_model.specs.MachineStep.{begun}

-- for a peer, a call of its list and a place of it, whether memory is wanting there; a begin is the place None
abbrev pub Shortage : Type 0
Shortage = ℕ → ℕ → Option ℕ → Bool

-- memory is wanting nowhere
abbrev pub no_shortage : Shortage
no_shortage p k place = false

-- two places are the same
abbrev pub same_place : Option ℕ → Option ℕ → Bool
same_place None None = true
same_place (Some i) (Some j) = i == j
same_place a b = false

-- a place comes behind another one
abbrev pub is_behind : Option ℕ → Option ℕ → Bool
is_behind (Some i) (Some j) = nat_le (i + 1) j
is_behind a b = false

-- the reason at a place of an accepted SEND is want of memory
abbrev pub is_short_place : List (Option Reason) → Option ℕ → Bool
is_short_place places None = false
is_short_place places (Some i) = elim (slice_get places i) [ None ↦ false | Some place ↦ is_memory place ]

-- the refusal of a call is want of memory at a place; with CONTINUE the refusals of the later places don't stand in it, so these count too
abbrev pub is_short_refusal : Command → Refused → Option ℕ → Bool
is_short_refusal command refused place =
    is_memory (Some refused.reason) && (same_place refused.place place || ((send_of command).go_on && is_behind refused.place place))

-- an answer says that memory was wanting at a place
abbrev pub is_short_answer : Command → Answer → Option ℕ → Bool
is_short_answer command (answer.Sent sent) place = is_short_place sent.places place
is_short_answer command (answer.Refused refused) place = is_short_refusal command refused place
is_short_answer command got place = false

-- the places that a record refuses for memory
abbrev pub shortage_of : Record → Shortage
shortage_of r p k place = elim (slice_get (calls_of r p) k) [ None ↦ false | Some call ↦ is_short_answer call.command call.answer place ]

-- the place of a SEND that its next event is at
abbrev pub place_of : Phase → Option ℕ
place_of (Staging nodes places collected) = Some (length places)
place_of phase = None

-- what a driver's next event is told: whether memory is wanting at its place
abbrev pub is_short_now : Shortage → DriverPart → Option Doing → Bool
is_short_now m d None = false
is_short_now m d (Some doing) = m d.me (length d.calls) (place_of doing.phase)

-- the same, where a command is open or begins
abbrev pub is_short : Shortage → DriverPart → Option Command → Bool
is_short m d command = elim (begun d command) [ None ↦ false | Some e ↦ is_short_now m e e.doing ]
