-- What a driver's part is in every run of a generated script: its commands, and the phase of the open one.
use Rattle.std.specs.Prelude.{◌≡◌, ◌≢◌, ◌≤◌, ⊤, ℕ, true, false, List, [], map, Some, is_none}
use Rattle.std.specs.List.{list_all}
use Rattle.b1_model.specs.declared.naming.NodeRef.{NodeRef}
use Rattle.b1_model.specs.declared.commands.Command.{Command}
use Rattle.b1_model.specs.declared.commands.Command.TheVariants as cmd
use Rattle.b1_model.specs.declared.answers.Answer.{Answer}
use Rattle.b1_model.specs.declared.answers.Answer.TheVariants as answer
use Rattle.b1_model.specs.declared.answers.Receipt.TheVariants as receipt
use Rattle.b1_model.specs.declared.answers.Reason.TheVariants.{Shutdown}
use Rattle.b1_model.specs.declared.records.Call.{Call}
use Rattle.b1_model.specs.declared.events.Doing.{Doing}
use Rattle.b1_model.specs.declared.events.Phase.{Phase}
use Rattle.b1_model.specs.declared.events.Phase.TheVariants.{Staging, Stamping, Syncing, Committing}
use Rattle.b1_model.specs.MachineParts.{DriverPart}
use Rattle.b1_model.specs.MachineDriver.{send_of, is_memory}
use Rattle.b1_model.specs.MachineTook.{driver_calls}
use Rattle.b1_step.specs.Rights.{Has}
use Rattle.b1_gen.specs.Generated.{sending}
use Rattle.b1_gen.specs.declared.numbers.TheConstants.{PHASES}
use Rattle.b1_gen_runs.specs.Sums.{owner_of, is_send, sends}

-- ---- what the commands are

-- a command of peer p in the script of a number, its references resolved: the SEND of a phase, an AWAIT, or a SLICE_RELEASE; an AWAIT that ended is a RECV
abbrev pub IsPlain : ℕ → ℕ → Command → Type 0
IsPlain number p (cmd.Send c) = (k : ℕ) × (cmd.Send c ≡ sending number p k)
IsPlain number p (cmd.SliceRelease offset) = ⊤
IsPlain number p cmd.Recv = ⊤
IsPlain number p cmd.Await = ⊤
IsPlain number p command = ⊥

-- an answer says that memory was wanting
abbrev pub IsShort : Answer → Type 0
IsShort (answer.Refused refused) = is_memory (Some refused.reason) ≡ true
IsShort got = ⊥

-- a call of such a command that was not refused for memory
pub record IsPlainCall (number p : ℕ) (c : Call) : Type 0 where
  pub command : IsPlain number p c.command
  pub ample : IsShort c.answer → ⊥

-- the calls and the open command of a driver are such, and there are no more SENDs than phases
pub record IsPlainDriver (number p : ℕ) (d : DriverPart) : Type 0 where
  pub calls : (c : Call) → Has (driver_calls d) c → IsPlainCall number p c
  pub doing : (doing : Doing) → d.doing ≡ Some doing → IsPlain number p doing.command
  pub few : sends d.calls ≤ PHASES

-- ---- where a driver stands

-- the nodes of these handles: each peer's first node
abbrev pub nodes_of : ℕ → List ℕ → List NodeRef
nodes_of me to = map (λ h. record { owner = owner_of me h; serial = 0 }) to

-- the phase of an open SEND: nothing was refused, nothing is carried, and clocks are at most twice the stamps given
abbrev pub IsGoing : ℕ → ℕ → Command → Phase → Type 0
IsGoing bound me command (Staging begun places collected) = (is_send command ≡ true) × (begun.with ≡ []) × (begun.to ≡ nodes_of me (send_of command).to) × (collected ≤ bound) × (list_all is_none places ≡ true)
IsGoing bound me command (Stamping sending) = (is_send command ≡ true) × (sending.begun.with ≡ []) × (sending.collected ≤ bound)
IsGoing bound me command (Syncing sending stamp place) = (is_send command ≡ true) × (sending.begun.with ≡ []) × (stamp ≤ bound)
IsGoing bound me command (Committing sending stamp place) = (is_send command ≡ true) × (sending.begun.with ≡ []) × (stamp ≤ bound)
IsGoing bound me command phase = ⊥

-- a SEND was sent, and what a RECV was answered with is a message, if it is a receipt
abbrev pub IsGood : Command → Answer → Type 0
IsGood (cmd.Send c) (answer.Sent sent) = ⊤
IsGood (cmd.Send c) got = ⊥
IsGood cmd.Recv (answer.Got (receipt.Message key number offset handles payload)) = ⊤
IsGood cmd.Recv (answer.Refused refused) = refused.reason ≢ Shutdown
IsGood cmd.Recv got = ⊥
IsGood command got = ⊤

-- a driver isn't shut, owes nothing, was told of no dead list, its calls were answered well, and its open command goes on
pub record GoesWell (bound : ℕ) (d : DriverPart) : Type 0 where
  pub shut : d.shut ≡ false
  pub owed : d.owed ≡ []
  pub told : d.told ≡ false
  pub calls : (c : Call) → Has d.calls c → IsGood c.command c.answer
  pub going : (doing : Doing) → d.doing ≡ Some doing → IsGoing bound d.me doing.command doing.phase
