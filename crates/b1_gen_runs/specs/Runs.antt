-- A run of a generated script: some steps of its drivers, in any order, in which memory was wanting nowhere.
use Rattle.std.specs.Prelude.{◌≡◌, ⊤, ℕ, true, false, length, Option, is_none}
use Rattle.std.specs.List.{list_all}
use Rattle.b1_model.specs.declared.commands.Command.{Command}
use Rattle.b1_model.specs.declared.commands.Command.TheVariants as cmd
use Rattle.b1_model.specs.declared.answers.Answer.{Answer}
use Rattle.b1_model.specs.declared.answers.Answer.TheVariants as answer
use Rattle.b1_model.specs.declared.records.Record.{Record}
use Rattle.b1_model.specs.MachineParts.{State}
use Rattle.b1_model.specs.MachineStep.{Reached, record_of_state}
use Rattle.b1_model.specs.MachineOrder.{DrainedOf}
use Rattle.b1_schedule.specs.Shortage.{shortage_of}
use Rattle.b1_play_commands.specs.Following.{AllFollow}
use Rattle.b1_gen.specs.Generated.{generated}

-- a record says nowhere that memory was wanting
abbrev pub HasMemory : Record → Type 0
HasMemory r = (p k : ℕ) (place : Option ℕ) → shortage_of r p k place ≡ false

-- some list of steps led to a state in which each driver has done a part of its list of commands, and memory was wanting nowhere
pub record IsRun (number : ℕ) (s : State) : Type 0 where
  pub reached : Reached (generated number).opening s
  pub follows : AllFollow (generated number).commands s
  pub memory : HasMemory (record_of_state s)

-- a run in which all commands have ended, and all queues are empty
pub record IsWholeRun (number : ℕ) (s : State) : Type 0 where
  pub run : IsRun number s
  pub drained : DrainedOf (generated number).commands s

-- a SEND was sent, and each of its destinations has accepted it
abbrev pub IsSentToAll : Command → Answer → Type 0
IsSentToAll (cmd.Send c) (answer.Sent sent) = (length sent.places ≡ length c.to) × (list_all is_none sent.places ≡ true)
IsSentToAll (cmd.Send c) got = ⊥
IsSentToAll command got = ⊤
