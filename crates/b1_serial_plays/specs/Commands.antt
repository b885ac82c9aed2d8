-- What is asked of single commands, so that whole scripts run as on the serial bus.
use Rattle.std.specs.Prelude.{◌≡◌, ℕ, nat_lt, not, true, false, Some, slice_get}
use Rattle.b1_model.specs.declared.naming.Opening.{Opening}
use Rattle.b1_model.specs.declared.commands.Command.{Command}
use Rattle.b1_model.specs.declared.commands.Command.TheVariants as cmd
use Rattle.b1_model.specs.MachineParts.{DriverPart, State}
use Rattle.b1_model.specs.MachineStep.{Reached}
use Rattle.b1_schedule.specs.Shortage.{Shortage}
use Rattle.b1_schedule.specs.Schedule.{removed_by}
use Rattle.b1_serial_bus.specs.Parts.{Part, Bus, at_peer}
use Rattle.b1_serial_bus.specs.Receive.{is_empty, cleared, waits}
use Rattle.b1_serial_bus.specs.Commands.{after_command_of}
use Rattle.b1_serial_bus.specs.Rounds.{is_waiting}
use Rattle.b1_serial_rest.specs.Rest.{AtRest}
use Rattle.b1_serial_rest.specs.Whole.{RunsWhole}

-- a command that ends with a call leads from rest to rest, as on the serial bus
pub record Keeps (o : Opening) (m : Shortage) (p : ℕ) (command : Command) (s : State) (bus : Bus) : Type 0 where
  pub state : State
  pub runs : RunsWhole o m p command s state
  pub rests : AtRest o state (after_command_of m p command bus)

-- an attempt that waits removes what is for nobody, and its driver then knows whether there was something
pub record Waits (o : Opening) (m : Shortage) (p : ℕ) (y : Part) (s : State) (bus : Bus) : Type 0 where
  pub state : State
  pub runs : RunsWhole o m p cmd.Await s state
  pub rests : AtRest o state (at_peer y.me cleared bus)
  pub removed : (e : DriverPart) → slice_get state.drivers p ≡ Some e → nat_lt 0 (removed_by e) ≡ not (is_empty y.box)

-- so it is of every command of every peer at every reached state at rest
pub record CommandsKeepRest (o : Opening) : Type 0 where
  pub ends : (m : Shortage) (s : State) (bus : Bus) (p : ℕ) (y : Part) (command : Command)
      → Reached o s → AtRest o s bus → slice_get bus p ≡ Some y → is_waiting command y ≡ false
      → Keeps o m p command s bus
  pub waits : (m : Shortage) (s : State) (bus : Bus) (p : ℕ) (y : Part)
      → Reached o s → AtRest o s bus → slice_get bus p ≡ Some y → waits y ≡ true
      → Waits o m p y s bus
