-- A bus on one thread, which command begins with a turn of a peer, and what a turn makes of the bus.
use Rattle.std.specs.Prelude.{◌≡◌, ◌≢◌, ℕ, ◌+◌, Bool, true, false, not, List, length, get_or, Option, Some, None, option_map, is_none}
use Rattle.b1_model.specs.declared.naming.Opening.{Opening}
use Rattle.b1_model.specs.declared.commands.Command.{Command}
use Rattle.b1_model.specs.declared.commands.Command.TheVariants as cmd
use Rattle.b1_model.specs.MachineParts.{DriverPart, State}
use Rattle.b1_model.specs.MachineStep.{Step, idle_driver}
use Rattle.b1_model.specs.MachineOrder.{next_command}
use Rattle.b1_model.specs.Script.{resolved}
use Rattle.b1_core.specs.declared.turn.Turn.{Turn}
use Rattle.b1_core.specs.declared.turn.Turn.TheVariants as turn

-- a bus: how it was opened, the commands of each peer, and the state that it is in
pub record Bus : Type 0 where
  pub opening : Opening
  pub commands : List (List Command)
  pub state : State

-- the part of driver p
abbrev pub driver_at : State → ℕ → DriverPart
driver_at s p = get_or s.drivers p (idle_driver p)

-- the command that driver p stands at, if its commands aren't at their end
abbrev pub command_at : Bus → ℕ → Option Command
command_at b p = next_command b.commands p (driver_at b.state p)

-- a command of driver p is open
abbrev pub has_open : Bus → ℕ → Bool
has_open b p = not (is_none (driver_at b.state p).doing)

-- the commands of peer p are all ended
abbrev pub has_ended : Bus → ℕ → Bool
has_ended b p = is_none (command_at b p)

-- where no command is open, the next one of the list begins, with its references resolved
abbrev pub scripted : List (List Command) → ℕ → DriverPart → Option Command
scripted lists p d = elim d.doing [ None ↦ option_map (λ c. resolved c d.calls) (next_command lists p d) | Some doing ↦ None ]

-- what a turn of a script wants: nothing where no command is open and none is left, else the command that begins, if one does
abbrev pub IsWanted : List (List Command) → ℕ → DriverPart → Option (Option Command) → Type 0
IsWanted lists p d None = (d.doing ≡ None) × (next_command lists p d ≡ None)
IsWanted lists p d (Some command) = (command ≡ scripted lists p d) × (is_none command ≡ not (is_none d.doing))

-- in the drain, an AWAIT begins
abbrev pub drained : DriverPart → Option Command
drained d = elim d.doing [ None ↦ Some cmd.Await | Some doing ↦ None ]

-- where a driver's part stands after a step: its command is open; or it ended, with one more call; or it was an attempt that ended without a call, and the part has the front that it found and how many entries it removed
abbrev pub Stands : DriverPart → Turn → DriverPart → Type 0
Stands d turn.Idle e = ⊥
Stands d turn.Moved e = e.doing ≢ None
Stands d turn.Ended e = (e.doing ≡ None) × (length e.calls ≡ length d.calls + 1)
Stands d (turn.Waiting front removed) e = (e.doing ≡ None) × (e.calls ≡ d.calls) × (e.attempted ≡ Some (front, removed))

-- the same behind so many calls
abbrev pub StandsBehind : ℕ → Turn → DriverPart → Type 0
StandsBehind calls turn.Idle e = ⊥
StandsBehind calls turn.Moved e = e.doing ≢ None
StandsBehind calls turn.Ended e = (e.doing ≡ None) × (length e.calls ≢ calls)
StandsBehind calls (turn.Waiting front removed) e = (e.doing ≡ None) × (length e.calls ≡ calls) × (e.attempted ≡ Some (front, removed))

-- a turn of peer p is a step of its driver, with the command that begins
pub record IsTurn (b : Bus) (p : ℕ) (begins : DriverPart → Option Command) (turn : Turn) (c : Bus) : Type 0 where
  pub command : Option Command
  pub step : Step b.opening b.state p command c.state
  pub is_command : command ≡ begins step.driver
  pub stands : Stands step.driver turn step.new_driver
  pub same_opening : c.opening ≡ b.opening
  pub same_commands : c.commands ≡ b.commands

-- a turn of a script: nothing happens exactly where no command is open and none is left
abbrev pub Turns : Bus → ℕ → Turn → Bus → Type 0
Turns b p turn.Idle c = (c ≡ b) × (has_open b p ≡ false) × (has_ended b p ≡ true)
Turns b p turn c = IsTurn b p (scripted b.commands p) turn c

-- a turn of the drain is never idle
abbrev pub Drains : Bus → ℕ → Turn → Bus → Type 0
Drains b p turn c = IsTurn b p drained turn c
