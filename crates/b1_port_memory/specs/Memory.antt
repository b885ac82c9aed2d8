-- What a port of no bus answers: by its calls, the receipts that it has to give, and the numbers of the sends that it refuses.
use Rattle.std.specs.Prelude.{◌≡◌, ℕ, ◌+◌, ◌-◌, ◌%◌, ◌^◌, ◌<◌, ◌==◌, max, min, nat_lt, Bool, true, false, if◌then◌else◌, List, [], ◌∷◌, drop, filter, length, replicate, Option, Some, None, unwrap_or, Result, Ok, Err}
use Rattle.std.specs.List.{list_any}
use Rattle.std.specs.Bool.{then_some}
use Rattle.std.specs.Borrow.{Bor}
use Rattle.b1_model.specs.declared.answers.Answer.{Answer}
use Rattle.b1_model.specs.declared.answers.Answer.TheVariants as ans
use Rattle.b1_model.specs.declared.answers.Front.TheVariants.{Absent}
use Rattle.b1_model.specs.declared.answers.Reason.{Reason}
use Rattle.b1_model.specs.declared.answers.Reason.TheVariants as reason
use Rattle.b1_model.specs.declared.answers.Receipt.{Receipt}
use Rattle.b1_model.specs.declared.answers.Receipt.TheVariants as rec
use Rattle.b1_model.specs.declared.answers.Refused.{Refused}
use Rattle.b1_model.specs.declared.answers.Sent.{Sent}
use Rattle.b1_model.specs.declared.answers.Tried.{Tried}
use Rattle.b1_model.specs.declared.answers.Tried.TheVariants.{Got, Waiting}
use Rattle.b1_model.specs.declared.commands.Command.{Command}
use Rattle.b1_model.specs.declared.commands.Command.TheVariants as cmd
use Rattle.b1_model.specs.declared.commands.SendCmd.{SendCmd}
use Rattle.b1_model.specs.declared.limits.TheConstants.{MOST_PAYLOAD}
use Rattle.b1_model.specs.declared.records.Call.{Call}
use Rattle.b1_model.specs.Legal.{seen_stamp}
use Rattle.b1_model.specs.Names.{is_given}
use Rattle.b1_model.specs.MachineSend.{first_reason, is_bad_send}
use Rattle.b1_model.specs.MachineDestroy.{is_bad_destroy}
use Rattle.b1_edge.specs.Ports.{Waits, received_answer, refused_with, sent_answer, with_call}

-- a port of no bus: its calls, how many more fit, what its attempts found, the receipts to come, and the numbers of the sends that it refuses
pub record MemoryFace : Type 0 where
  pub calls : List Call
  pub spare : ℕ
  pub waits : Waits
  pub gives : List Receipt
  pub fails : List ℕ

-- a list of calls, and how many more fit with no memory
pub record Booked : Type 0 where
  pub calls : List Call
  pub spare : ℕ

-- ---- stamps

-- the stamp that an answer shows, that of a release notice too
abbrev pub any_stamp : Answer → Option ℕ
any_stamp (ans.Got (rec.Released stamp number)) = Some stamp
any_stamp got = seen_stamp got

-- the same, and 0 where it shows none
abbrev pub stamp_or_none : Answer → ℕ
stamp_or_none got = unwrap_or (any_stamp got) 0

-- the greatest stamp that calls show, and 0 where none shows one
abbrev pub greatest_stamp : List Call → ℕ
greatest_stamp [] = 0
greatest_stamp (c ∷ cs) = max (stamp_or_none c.answer) (greatest_stamp cs)

-- the stamp of the next send or destruction
abbrev pub next_stamp : List Call → ℕ
next_stamp calls = greatest_stamp calls + 2

-- a receipt has an even stamp below 2^62
abbrev pub HasEvenStamp : Receipt → Type 0
HasEvenStamp r = (stamp_or_none (ans.Got r) % 2 ≡ 0) × (stamp_or_none (ans.Got r) < 2 ^ 62)

-- ---- answers

-- a command is a SEND
abbrev pub is_send : Command → Bool
is_send (cmd.Send s) = true
is_send command = false

-- how many of the calls are SENDs
abbrev pub sends_in : List Call → ℕ
sends_in calls = length (filter (λ c. is_send c.command) calls)

-- the refusals of a SEND by its form alone, in their order
abbrev pub form_refusal : SendCmd → Option Reason
form_refusal s =
    first_reason (
    then_some (is_bad_send s) reason.Invalid ∷
    then_some (nat_lt MOST_PAYLOAD (length s.payload)) (reason.Size (length s.payload)) ∷ [])

-- a refusal that is no destination's
abbrev pub refusal : Reason → Refused
refusal why = record { reason = why; place = None }

-- the next SEND's stamp, with each place accepted
abbrev pub accepted : List Call → SendCmd → Sent
accepted calls s = record { stamp = next_stamp calls; places = replicate (length s.to) None }

-- a SEND that its form doesn't refuse: want of memory where its number is one of those to be refused, and else accepted; memory may also be wanting
abbrev pub IsFormedAnswer : List Call → List ℕ → SendCmd → Result Sent Refused → Type 0
IsFormedAnswer calls fails s (Ok sent) = (list_any (λ n. n == sends_in calls) fails ≡ false) × (sent ≡ accepted calls s)
IsFormedAnswer calls fails s (Err refused) = refused ≡ refusal reason.Memory

-- the answer of a SEND: what its form refuses comes first
abbrev pub IsTold : List Call → List ℕ → SendCmd → Result Sent Refused → Type 0
IsTold calls fails s result = elim (form_refusal s) [ None ↦ IsFormedAnswer calls fails s result | Some why ↦ result ≡ Err (refusal why) ]

-- a HANDLE_RELEASE is accepted where its number is a given one by its form, and Invalid elsewhere
abbrev pub Releases : ℕ → Result (Unit {0}) Reason → Type 0
Releases number (Ok done) = is_given number ≡ true
Releases number (Err why) = (is_given number ≡ false) × (why ≡ reason.Invalid)

-- the answer of a NODES_DESTROY
abbrev pub destroy_answer : List Call → List ℕ → Result ℕ Reason
destroy_answer calls numbers = if is_bad_destroy numbers then Err reason.Invalid else Ok (next_stamp calls)

-- the answer of a RECV
abbrev pub next_answer : List Receipt → Answer
next_answer [] = refused_with (reason.Again Absent)
next_answer (r ∷ rest) = ans.Got r

-- ---- what a command leaves

-- one call more
abbrev pub after : MemoryFace → Command → Answer → MemoryFace
after f command got = record f { calls = with_call command got f.calls; spare = f.spare - 1 }

-- a SEND was answered so
pub record Sends (f : MemoryFace) (s : SendCmd) (result : Result Sent Refused) (g : MemoryFace) : Type 0 where
  pub left : g ≡ after f (cmd.Send s) (sent_answer result)
  pub answer : IsTold f.calls f.fails s result

-- a RECV took the next receipt, or found none
pub record Receives (f : MemoryFace) (result : Result (Bor Receipt) Reason) (g : MemoryFace) : Type 0 where
  pub left : g ≡ record (after f cmd.Recv (received_answer result)) { gives = drop 1 f.gives }
  pub answer : received_answer result ≡ next_answer f.gives

-- so many attempts had to wait, each of which found nothing
abbrev pub waits_of : ℕ → Waits
waits_of count = record { count = count; last = if count == 0 then None else Some (Absent, 0) }

-- one more attempt that had to wait
abbrev pub one_wait_more : Waits → Waits
one_wait_more w = waits_of (min (w.count + 1) (2 ^ 64 - 1))

-- an attempt took the next receipt, or waits where there is none
abbrev pub Attempts : MemoryFace → Tried → MemoryFace → Type 0
Attempts f result g = elim f.gives [
  | [] ↦ (result ≡ Waiting Absent 0) × (g ≡ record f { waits = one_wait_more f.waits })
  | r ∷ rest ↦ (result ≡ Got) × (g ≡ record (after f cmd.Recv (ans.Got r)) { gives = rest })
]
