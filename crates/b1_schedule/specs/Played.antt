-- A state that the schedule of a script has come to, wherever memory was wanting that shows in it.
use Rattle.std.specs.Prelude.{ℕ, List}
use Rattle.b1_model.specs.declared.naming.Opening.{Opening}
use Rattle.b1_model.specs.declared.commands.Command.{Command}
use Rattle.b1_model.specs.MachineParts.{State}
use Rattle.b1_schedule.specs.Shortage.{Shortage}
use Rattle.b1_schedule.specs.Agreement.{AllAgree}
use Rattle.b1_schedule.specs.Schedule.{Stage, Comes}

-- with memory wanting just as the state shows, the schedule of the script comes to it, at this stage
abbrev pub PlayedTo : Opening → List (List Command) → List ℕ → State → Stage → Type 0
PlayedTo o lists turns s stage = (m : Shortage) → AllAgree m s → Comes o lists turns m (record { state = s; stage = stage })
