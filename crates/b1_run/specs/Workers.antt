-- Drivers that do the commands of a script.
use Rattle.std.specs.Prelude.{◌≡◌, ℕ, ◌≤◌, Bool, true, false, nat_lt, List, length, slice_get, Option, Some, None}
use Rattle.b1_model.specs.declared.answers.Front.{Front}
use Rattle.b1_model.specs.declared.commands.Command.{Command}
use Rattle.b1_model.specs.declared.naming.Opening.{Opening}
use Rattle.b1_model.specs.Script.{commands_of}
use Rattle.b1_driver.specs.Parts.{Driver}
use Rattle.b1_play_commands.specs.Following.{AllInPlace}
use Rattle.b1_locks.specs.Faces.{BusFace, DriverFace, IsOf}
use Rattle.b1_run.specs.declared.worker.Worker.{Worker}
use Rattle.b1_run.specs.declared.site.Site.{Site}

-- what an attempt found and removed: it removed an entry
abbrev pub has_removed : Option (Front × ℕ) → Bool
has_removed None = false
has_removed (Some found) = nat_lt 0 found.1

-- a driver is that of peer p on a bus, and each of its calls is the command of its place, or a receipt behind the last one
pub record IsAt (b : BusFace) (commands : List Command) (p : ℕ) (d : DriverFace) : Type 0 where
  pub on : IsOf d b
  pub number : d.own.part.me ≡ p
  pub follows : AllInPlace commands d.own.part.calls

-- the drivers of a bus, in the order of their peers, follow the lists of a script
pub record AreAt (b : BusFace) (lists : List (List Command)) (ws : List Worker) : Type 0 where
  pub as_many : length ws ≡ length b.opening.peers
  pub each : (p : ℕ) (w : Worker) → slice_get ws p ≡ Some w → IsAt b (commands_of lists p) p w.driver

-- a list of calls has as many as there are commands, or more
abbrev pub HasEnded : List Command → Driver → Type 0
HasEnded commands d = length commands ≤ length d.part.calls

-- all lists are at their end
abbrev pub AllEnded : List (List Command) → List Worker → Type 0
AllEnded lists ws = (p : ℕ) (w : Worker) → slice_get ws p ≡ Some w → HasEnded (commands_of lists p) w.driver.own

-- a bus that was opened so has all its drivers, which follow the lists of a script
pub record IsSite (o : Opening) (lists : List (List Command)) (site : Site) : Type 0 where
  pub opening : site.bus.opening ≡ o
  pub are_at : AreAt site.bus lists site.workers.items

-- the drivers of a closed bus follow the lists of a script
abbrev pub AllFollow : List (List Command) → List Driver → Type 0
AllFollow lists ds = (p : ℕ) (d : Driver) → slice_get ds p ≡ Some d → AllInPlace (commands_of lists p) d.part.calls

-- and their lists are at their end
abbrev pub HaveEnded : List (List Command) → List Driver → Type 0
HaveEnded lists ds = (p : ℕ) (d : Driver) → slice_get ds p ≡ Some d → HasEnded (commands_of lists p) d

-- a driver has room for more calls, and is else as it was
pub record HasRoom (d e : DriverFace) : Type 0 where
  pub spare : 1 ≤ e.own.spare
  pub same : e ≡ record d { own = record d.own { spare = e.own.spare } }

-- the same, where there was memory
abbrev pub MayHaveRoom : DriverFace → Bool → DriverFace → Type 0
MayHaveRoom d true e = HasRoom d e
MayHaveRoom d false e = e ≡ d
