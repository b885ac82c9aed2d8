-- What each call of a port adds to its peer's calls.
use Rattle.std.specs.Prelude.{◌≡◌, ◌⊎◌, ℕ, ◌+◌, ◌-◌, ◌^◌, List, [], ◌∷◌, ◌++◌, Option, Some, None, Result, Ok, Err}
use Rattle.std.specs.Borrow.{Bor}
use Rattle.b1_model.specs.declared.answers.Answer.{Answer}
use Rattle.b1_model.specs.declared.answers.Answer.TheVariants as answer
use Rattle.b1_model.specs.declared.answers.Front.{Front}
use Rattle.b1_model.specs.declared.answers.Reason.{Reason}
use Rattle.b1_model.specs.declared.answers.Reason.TheVariants.{Shutdown}
use Rattle.b1_model.specs.declared.answers.Receipt.{Receipt}
use Rattle.b1_model.specs.declared.answers.Refused.{Refused}
use Rattle.b1_model.specs.declared.answers.Sent.{Sent}
use Rattle.b1_model.specs.declared.answers.Tried.{Tried}
use Rattle.b1_model.specs.declared.answers.Tried.TheVariants.{Got, Shut, Waiting}
use Rattle.b1_model.specs.declared.commands.Command.{Command}
use Rattle.b1_model.specs.declared.commands.Command.TheVariants.{Recv}
use Rattle.b1_model.specs.declared.records.Call.{Call}

-- one more call
abbrev pub with_call : Command → Answer → List Call → List Call
with_call command got calls = calls ++ record { command = command; answer = got } ∷ []

-- ---- the answers of calls

-- a refusal that is no destination's
abbrev pub refused_with : Reason → Answer
refused_with reason = answer.Refused (record { reason = reason; place = None })

-- of a SEND
abbrev pub sent_answer : Result Sent Refused → Answer
sent_answer (Ok sent) = answer.Sent sent
sent_answer (Err refused) = answer.Refused refused

-- of a RECV
abbrev pub received_answer : Result (Bor Receipt) Reason → Answer
received_answer (Ok receipt) = answer.Got receipt.now
received_answer (Err reason) = refused_with reason

-- of a command that answers no value
abbrev pub done_answer : Result (Unit {0}) Reason → Answer
done_answer (Ok done) = answer.Done
done_answer (Err reason) = refused_with reason

-- of a NODES_DESTROY
abbrev pub destroyed_answer : Result ℕ Reason → Answer
destroyed_answer (Ok stamp) = answer.Destroyed stamp
destroyed_answer (Err reason) = refused_with reason

-- ---- attempts

-- how many attempts found no committed front, and what the last of them found and removed
pub record Waits : Type 0 where
  pub count : ℕ
  pub last : Option (Front × ℕ)

-- the count rose, or it stands at its end
abbrev pub HasRisen : ℕ → ℕ → Type 0
HasRisen before after = (after ≡ before + 1) ⊎ (after ≡ 2 ^ 64 - 1)

-- what an attempt makes of the calls, of how many more fit, and of the waits: a receipt or a shut peer is one more call, and an attempt that waits is none
abbrev pub Tries : Tried → List Call → ℕ → Waits → List Call → ℕ → Waits → Type 0
Tries Got calls spare waits calls' spare' waits' = ((receipt : Receipt) × (calls' ≡ with_call Recv (answer.Got receipt) calls)) × (spare' + 1 ≡ spare) × (waits' ≡ waits)
Tries Shut calls spare waits calls' spare' waits' = (calls' ≡ with_call Recv (refused_with Shutdown) calls) × (spare' + 1 ≡ spare) × (waits' ≡ waits)
Tries (Waiting front removed) calls spare waits calls' spare' waits' =
    (calls' ≡ calls) × (spare' ≡ spare) × HasRisen waits.count waits'.count × (waits'.last ≡ Some (front, removed))
