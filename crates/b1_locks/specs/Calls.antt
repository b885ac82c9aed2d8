-- What a command that was done leaves of its driver, and which answers the commands have.
use Rattle.std.specs.Prelude.{◌≡◌, ⊤, ℕ, ◌+◌, ◌-◌, ◌^◌, ◌≤◌, length, min, false, ◌||◌, Option, Some, Result, Ok, Err}
use Rattle.b1_model.specs.declared.naming.PeerSpec.{PeerSpec}
use Rattle.b1_model.specs.declared.answers.Answer.{Answer}
use Rattle.b1_model.specs.declared.answers.Answer.TheVariants as answer
use Rattle.b1_model.specs.declared.answers.Reason.{Reason}
use Rattle.b1_model.specs.declared.answers.Front.{Front}
use Rattle.b1_model.specs.declared.answers.Reason.TheVariants.{Shutdown}
use Rattle.b1_model.specs.declared.answers.Tried.{Tried}
use Rattle.b1_model.specs.declared.answers.Tried.TheVariants.{Got, Shut, Waiting}
use Rattle.b1_model.specs.declared.commands.Command.{Command}
use Rattle.b1_model.specs.declared.commands.Command.TheVariants as cmd
use Rattle.b1_model.specs.declared.answers.Receipt.{Receipt}
use Rattle.b1_model.specs.declared.answers.Refused.{Refused}
use Rattle.b1_model.specs.declared.commands.SendCmd.{SendCmd}
use Rattle.std.specs.Borrow.{Bor}
use Rattle.b1_model.specs.MachineTook.{as_call}
use Rattle.b1_inv_answers.specs.Answers.{IsAnswered}
use Rattle.b1_edge.specs.Ports.{received_answer, refused_with, with_call}
use Rattle.b1_commands.specs.Done.{Comes, RefusesRight, is_shutdown, leaves}
use Rattle.b1_locks.specs.Faces.{DriverFace, member}

-- the answer of a PEER_QUERY
abbrev pub info_answer : Result PeerSpec Reason → Answer
info_answer (Ok spec) = answer.Info spec.user spec.pool spec.limits
info_answer (Err reason) = refused_with reason

-- the answer of a PEER_RESET with flush or a PEER_DISCONNECT
abbrev pub reset_answer : Result (Option ℕ) Reason → Answer
reset_answer (Ok stamp) = answer.Reset stamp
reset_answer (Err reason) = refused_with reason

-- the answer of a RECV
abbrev pub got_answer : Result Receipt Reason → Answer
got_answer (Ok receipt) = answer.Got receipt
got_answer (Err reason) = refused_with reason

-- an answer is one of a kind
abbrev pub Shows : {X : Type 0} → (X → Answer) → Answer → Type 0
Shows {X} shown got = (x : X) × (shown x ≡ got)

-- a driver has done a command and answered so: each event was one step from a reached state; one call fewer fits; the answer is of the command's kind; a refusal is one that the command may have; it is for a disconnect exactly where the driver was shut; only an accepted disconnect shuts it; and what attempts found stays
pub record Did (d : DriverFace) (c : Command) (got : Answer) (e : DriverFace) : Type 0 where
  pub member : member e ≡ member d
  pub steps : Comes d.opening d.own.part c e.own.part
  pub spare : e.own.spare + 1 ≡ d.own.spare
  pub kind : IsAnswered (record { command = as_call c; answer = got })
  pub refused : RefusesRight c got
  pub shutdown : is_shutdown got ≡ d.own.part.shut
  pub shut : e.own.part.shut ≡ (d.own.part.shut || leaves c got)
  pub attempted : e.own.part.attempted ≡ d.own.part.attempted
  pub attempts : e.own.part.attempts ≡ d.own.part.attempts

-- an attempt to receive that waits
pub record Waits (d : DriverFace) (front : Front) (removed : ℕ) (e : DriverFace) : Type 0 where
  pub member : member e ≡ member d
  pub steps : Comes d.opening d.own.part cmd.Await e.own.part
  pub calls : e.own.part.calls ≡ d.own.part.calls
  pub spare : e.own.spare ≡ d.own.spare
  pub open_at : d.own.part.shut ≡ false
  pub shut : e.own.part.shut ≡ false
  pub attempted : e.own.part.attempted ≡ Some (front, removed)
  pub attempts : e.own.part.attempts ≡ min (d.own.part.attempts + 1) (2 ^ 64 - 1)

-- whether an attempt that added a call took a receipt
abbrev pub IsTried : Tried → Answer → Type 0
IsTried Got (answer.Got receipt) = ⊤
IsTried Shut (answer.Refused b) = ⊤
IsTried tried got = ⊥

-- an attempt to receive: it took a receipt, which is the last call; or the driver is shut, which is the last call; or it waits, with the front that it found and how many entries it removed: the list and the spare stay, and the count of such attempts rises unless it stands at its end
abbrev pub HasTried : DriverFace → Tried → DriverFace → Type 0
HasTried d Got e = (receipt : Receipt) × (e.own.part.calls ≡ with_call cmd.Recv (answer.Got receipt) d.own.part.calls) × Did d cmd.Await (answer.Got receipt) e
HasTried d Shut e = (e.own.part.calls ≡ with_call cmd.Recv (refused_with Shutdown) d.own.part.calls) × Did d cmd.Await (refused_with Shutdown) e
HasTried d (Waiting front removed) e = Waits d front removed e

-- a list of so many places holds what each destination of a SEND answered
abbrev pub FitsIn : ℕ → Answer → Type 0
FitsIn n (answer.Sent b) = length b.places ≤ n
FitsIn n got = ⊤

-- a driver has done a SEND that was refused
abbrev pub RefusesSend : DriverFace → SendCmd → DriverFace → Type 0
RefusesSend d s e = (b : Refused) × (e.own.part.calls ≡ with_call (cmd.Send s) (answer.Refused b) d.own.part.calls) × Did d (cmd.Send s) (answer.Refused b) e

-- a driver has done a RECV, whose answer is lent out of its list
abbrev pub HasReceived : DriverFace → Result (Bor Receipt) Reason → DriverFace → Type 0
HasReceived d result e = (e.own.part.calls ≡ with_call cmd.Recv (received_answer result) d.own.part.calls) × Did d cmd.Recv (received_answer result) e
