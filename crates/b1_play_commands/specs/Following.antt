-- How a driver follows its list of commands: its calls, and its open command by its phase.
use Rattle.std.specs.Prelude.{◌≡◌, ⊤, ℕ, List, take, slice_get, length, Option, Some, None}
use Rattle.b1_model.specs.declared.commands.Command.{Command}
use Rattle.b1_model.specs.declared.commands.Command.TheVariants as cmd
use Rattle.b1_model.specs.declared.answers.Answer.{Answer}
use Rattle.b1_model.specs.declared.answers.Answer.TheVariants as answer
use Rattle.b1_model.specs.declared.records.Call.{Call}
use Rattle.b1_model.specs.declared.events.Doing.{Doing}
use Rattle.b1_model.specs.Script.{resolved, IsInPlace, commands_of}
use Rattle.b1_model.specs.MachineParts.{DriverPart, State}
use Rattle.b1_model.specs.MachineOrder.{next_command}
use Rattle.b1_inv.specs.Words.{IsDriver}
use Rattle.b1_inv_answers.specs.Answers.{PhaseFits}
use Rattle.b1_schedule.specs.Schedule.{Stage, Turning, Round, Draining, Finished, Stalled}

-- each call is the command of its place, or a receipt of the drain behind the last command
abbrev pub AllInPlace : List Command → List Call → Type 0
AllInPlace commands calls = (k : ℕ) (call : Call) → slice_get calls k ≡ Some call → IsInPlace (take k calls) (slice_get commands k) (Some call)

-- the command that is next after these calls, its references resolved; behind the last command the drain's
abbrev pub asked : Option Command → List Call → Command
asked None calls = cmd.Await
asked (Some command) calls = resolved command calls

-- an open command is the one that is next, in a phase of its own
pub record IsOpen (commands : List Command) (calls : List Call) (doing : Doing) : Type 0 where
  pub command : doing.command ≡ asked (slice_get commands (length calls)) calls
  pub phase : PhaseFits doing.command doing.phase

-- a driver follows a list of commands
pub record Follows (commands : List Command) (d : DriverPart) : Type 0 where
  pub calls : AllInPlace commands d.calls
  pub doing : (doing : Doing) → d.doing ≡ Some doing → IsOpen commands d.calls doing

-- all drivers of a state follow their lists
abbrev pub AllFollow : List (List Command) → State → Type 0
AllFollow lists s = (p : ℕ) (d : DriverPart) → IsDriver s p d → Follows (commands_of lists p) d

-- all lists are at their end
abbrev pub AllEnd : List (List Command) → State → Type 0
AllEnd lists s = (p : ℕ) (d : DriverPart) → IsDriver s p d → next_command lists p d ≡ None

-- in the drain and behind it all lists are at their end
abbrev pub EndsAt : List (List Command) → State → Stage → Type 0
EndsAt lists s (Turning turns) = ⊤
EndsAt lists s (Round p gained) = ⊤
EndsAt lists s (Draining p gained) = AllEnd lists s
EndsAt lists s Finished = AllEnd lists s
EndsAt lists s Stalled = ⊤
