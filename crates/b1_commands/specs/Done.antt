-- A command that one driver does whole: its steps, and what they leave.
use Rattle.std.specs.Prelude.{◌≡◌, ◌⊎◌, ⊤, ℕ, zero, suc, ◌+◌, ◌-◌, ◌^◌, min, Bool, true, false, ◌||◌, [], ◌∷◌, ◌++◌, Option, Some, None}
use Rattle.b1_model.specs.declared.naming.Opening.{Opening}
use Rattle.b1_model.specs.declared.commands.Command.{Command}
use Rattle.b1_model.specs.declared.commands.Command.TheVariants as cmd
use Rattle.b1_model.specs.declared.answers.Answer.{Answer}
use Rattle.b1_model.specs.declared.answers.Answer.TheVariants as answer
use Rattle.b1_model.specs.declared.answers.Front.{Front}
use Rattle.b1_model.specs.declared.answers.Reason.{Reason}
use Rattle.b1_model.specs.declared.answers.Reason.TheVariants as reason
use Rattle.b1_model.specs.MachineParts.{DriverPart, State}
use Rattle.b1_model.specs.MachineTook.{as_call, is_disconnect, is_waiting}
use Rattle.b1_model.specs.MachineStep.{Reached, Step}
use Rattle.b1_inv_answers.specs.Answers.{IsAnswered}

-- ---- the steps of a command

-- a driver's part changes by one step of a reached state
pub record Moves (o : Opening) (d : DriverPart) (command : Option Command) (e : DriverPart) : Type 0 where
  pub before : State
  pub after : State
  pub number : ℕ
  pub reached : Reached o before
  pub step : Step o before number command after
  pub from : step.driver ≡ d
  pub to : step.new_driver ≡ e

-- so many steps that begin no command; between them other drivers may do theirs
abbrev pub GoesOn : Opening → ℕ → DriverPart → DriverPart → Type 0
GoesOn o zero d e = d ≡ e
GoesOn o (suc n) d e = (m : DriverPart) × GoesOn o n d m × Moves o m None e

-- a command begins with a step, and goes on by others
pub record Comes (o : Opening) (d : DriverPart) (c : Command) (e : DriverPart) : Type 0 where
  pub first : DriverPart
  pub begins : Moves o d (Some c) first
  pub count : ℕ
  pub goes : GoesOn o count first e

-- ---- what they leave

-- which reasons may refuse a command
abbrev pub may_refuse : Reason → Command → Bool
may_refuse reason.Shutdown c = true
may_refuse (reason.Again front) cmd.Recv = true
may_refuse (reason.Again front) cmd.Await = true
may_refuse (reason.Again front) c = false
may_refuse r (cmd.Send s) = true
may_refuse reason.Invalid (cmd.Release number) = true
may_refuse (reason.Unknown n) (cmd.Release number) = true
may_refuse reason.Invalid (cmd.Destroy numbers) = true
may_refuse (reason.Overflow clock) (cmd.Destroy numbers) = true
may_refuse (reason.Unknown n) (cmd.Destroy numbers) = true
may_refuse (reason.Unknown n) (cmd.SliceRelease offset) = true
may_refuse (reason.Overflow clock) (cmd.Reset limits) = true
may_refuse (reason.Overflow clock) cmd.Disconnect = true
may_refuse r c = false

-- the command is a SEND
abbrev pub is_send : Command → Bool
is_send (cmd.Send s) = true
is_send c = false

-- a refusal is one that the command may have, and names a place only where it is a SEND's
abbrev pub RefusesRight : Command → Answer → Type 0
RefusesRight c (answer.Refused b) = (may_refuse b.reason c ≡ true) × (is_send c ≡ false → b.place ≡ None)
RefusesRight c a = ⊤

-- the answer is the refusal of a driver that has disconnected
abbrev pub is_shut_reason : Reason → Bool
is_shut_reason reason.Shutdown = true
is_shut_reason r = false

-- of an answer
abbrev pub is_shutdown : Answer → Bool
is_shutdown (answer.Refused b) = is_shut_reason b.reason
is_shutdown a = false

-- an accepted PEER_DISCONNECT
abbrev pub leaves : Command → Answer → Bool
leaves c (answer.Refused b) = false
leaves c a = is_disconnect c

-- a driver has one call more: the command with its answer, an AWAIT as a RECV; it is no attempt that waits, its refusals are right, it is refused for a disconnect exactly where the driver was shut, and only an accepted disconnect shuts the driver
pub record Called (d : DriverPart) (c : Command) (got : Answer) (e : DriverPart) : Type 0 where
  pub me : e.me ≡ d.me
  pub calls : e.calls ≡ d.calls ++ record { command = as_call c; answer = got } ∷ []
  pub kind : IsAnswered (record { command = as_call c; answer = got })
  pub taken : is_waiting c got ≡ false
  pub refused : RefusesRight c got
  pub shutdown : is_shutdown got ≡ d.shut
  pub shut : e.shut ≡ (d.shut || leaves c got)
  pub attempted : e.attempted ≡ d.attempted
  pub attempts : e.attempts ≡ d.attempts

-- an attempt that waits: no call; the driver's facts have the front that it found and how many entries it removed, and the count of such attempts rises unless it stands at its end
pub record Waited (d : DriverPart) (front : Front) (removed : ℕ) (e : DriverPart) : Type 0 where
  pub me : e.me ≡ d.me
  pub calls : e.calls ≡ d.calls
  pub open_at : d.shut ≡ false
  pub shut : e.shut ≡ false
  pub attempted : e.attempted ≡ Some (front, removed)
  pub attempts : e.attempts ≡ min (d.attempts + 1) (2 ^ 64 - 1)

-- a command has ended: with a call; or, where it is an AWAIT, as an attempt that waits
abbrev pub HasEnded : DriverPart → Command → DriverPart → Type 0
HasEnded d c e = ((got : Answer) × Called d c got e) ⊎ ((c ≡ cmd.Await) × (front : Front) × (removed : ℕ) × Waited d front removed e)
