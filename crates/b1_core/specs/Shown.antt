-- What a driver's facts show of an AWAIT that found a front.
use Rattle.std.specs.Prelude.{◌≡◌, ◌≢◌, ℕ, true, Option, Some, None, ⊤, slice_get}
use Rattle.b1_model.specs.declared.answers.Front.{Front}
use Rattle.b1_model.specs.declared.commands.Command.TheVariants as cmd
use Rattle.b1_model.specs.declared.events.Doing.{Doing}
use Rattle.b1_model.specs.declared.events.Phase.{Phase}
use Rattle.b1_model.specs.declared.events.Phase.TheVariants.{Starting, Reaping}
use Rattle.b1_model.specs.MachineParts.{DriverPart, State}
use Rattle.b1_model.specs.MachineTook.{is_await, is_waiting}

-- an AWAIT begins, or has its answer; where that is a front, the facts have it
abbrev pub PhaseShown : Phase → Option (Front × ℕ) → Type 0
PhaseShown Starting found = ⊤
PhaseShown (Reaping got) found = is_waiting cmd.Await got ≡ true → found ≢ None
PhaseShown phase found = ⊥

-- the same of an open command, where it is an AWAIT
abbrev pub OpenShown : Option Doing → Option (Front × ℕ) → Type 0
OpenShown None found = ⊤
OpenShown (Some doing) found = is_await doing.command ≡ true → PhaseShown doing.phase found

-- the same of every driver
abbrev pub AreShown : State → Type 0
AreShown s = (p : ℕ) (d : DriverPart) → slice_get s.drivers p ≡ Some d → OpenShown d.doing d.attempted
