-- What a driver's part shows of its attempts, and what a RECV leaves of a driver.
use Rattle.std.specs.Prelude.{◌≡◌, ⊤, ℕ, ◌+◌, Option, Some, None}
use Rattle.b1_model.specs.declared.answers.Answer.{Answer}
use Rattle.b1_model.specs.declared.answers.Answer.TheVariants as answer
use Rattle.b1_model.specs.declared.answers.Front.{Front}
use Rattle.b1_model.specs.declared.commands.Command.TheVariants.{Recv}
use Rattle.b1_model.specs.MachineParts.{DriverPart}
use Rattle.b1_edge.specs.Ports.{Waits, with_call}
use Rattle.b1_locks.specs.Faces.{DriverFace, member}

-- how many attempts had to wait, and what the last of them found and removed
abbrev pub waits_of : DriverPart → Waits
waits_of d = record { count = d.attempts; last = d.attempted }

-- how many entries an attempt that had to wait removed, and 0 where there was none
abbrev pub removed_of : Option (Front × ℕ) → ℕ
removed_of None = 0
removed_of (Some found) = found.1

-- a receipt, or a refusal that is no destination's
abbrev pub IsReceived : Answer → Type 0
IsReceived (answer.Got receipt) = ⊤
IsReceived (answer.Refused refused) = refused.place ≡ None
IsReceived got = ⊥

-- a driver has done a RECV, which is one call more
pub record HasTaken (d e : DriverFace) : Type 0 where
  pub member : member e ≡ member d
  pub got : Answer
  pub call : e.own.part.calls ≡ with_call Recv got d.own.part.calls
  pub received : IsReceived got
  pub spare : e.own.spare + 1 ≡ d.own.spare
  pub attempted : e.own.part.attempted ≡ d.own.part.attempted
  pub attempts : e.own.part.attempts ≡ d.own.part.attempts
