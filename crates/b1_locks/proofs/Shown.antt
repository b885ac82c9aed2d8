-- The answer of each command is one that its call can return.
use Rattle.std.proofs.Common.{◌≡◌, refl, sym, ap, ◌∙◌, ℕ, ◌≤◌, Bool, true, false, List, [], ◌∷◌, ◌++◌, length, None, Ok, Err, arith}
use Rattle.b1_model.specs.declared.naming.Limits.{Limits}
use Rattle.b1_model.specs.declared.answers.Answer.{Answer}
use Rattle.b1_model.specs.declared.answers.Answer.TheVariants as answer
use Rattle.b1_model.specs.declared.answers.Refused.{Refused}
use Rattle.b1_model.specs.declared.commands.SendCmd.{SendCmd}
use Rattle.b1_model.specs.declared.records.Call.{Call}
use Rattle.b1_model.specs.MachineParts.{DriverPart}
use Rattle.b1_model.specs.declared.commands.Command.TheVariants as cmd
use Rattle.b1_edge.specs.Ports.{sent_answer, with_call, refused_with, done_answer, destroyed_answer}
use Rattle.b1_inv_answers.specs.Answers.{IsAnswered}
use Rattle.b1_commands.specs.Done.{RefusesRight, is_shutdown}
use Rattle.b1_locks.specs.Calls.{info_answer, reset_answer, got_answer, FitsIn, Shows}

-- a refusal without a place
plain : (b : Refused) → b.place ≡ None → refused_with b.reason ≡ answer.Refused b
plain b none = λ i. answer.Refused (record { reason = b.reason; place = sym none i })

pub release_shows : (number : ℕ) (got : Answer) → IsAnswered (record { command = (cmd.Release number); answer = got }) → RefusesRight (cmd.Release number) got → Shows done_answer got
release_shows number (answer.Refused b) kind right = (Err b.reason, plain b (right.1 refl))
release_shows number answer.Done kind right = (Ok tt, refl)
release_shows number got kind right = absurd (cc kind.0)

pub slice_shows : (offset : ℕ) (got : Answer) → IsAnswered (record { command = (cmd.SliceRelease offset); answer = got }) → RefusesRight (cmd.SliceRelease offset) got → Shows done_answer got
slice_shows offset (answer.Refused b) kind right = (Err b.reason, plain b (right.1 refl))
slice_shows offset answer.Done kind right = (Ok tt, refl)
slice_shows offset got kind right = absurd (cc kind.0)

pub limit_shows : (limits : Limits) (got : Answer) → IsAnswered (record { command = (cmd.Limit limits); answer = got }) → RefusesRight (cmd.Limit limits) got → Shows done_answer got
limit_shows limits (answer.Refused b) kind right = (Err b.reason, plain b (right.1 refl))
limit_shows limits answer.Done kind right = (Ok tt, refl)
limit_shows limits got kind right = absurd (cc kind.0)

pub destroy_shows : (numbers : List ℕ) (got : Answer) → IsAnswered (record { command = (cmd.Destroy numbers); answer = got }) → RefusesRight (cmd.Destroy numbers) got → Shows destroyed_answer got
destroy_shows numbers (answer.Refused b) kind right = (Err b.reason, plain b (right.1 refl))
destroy_shows numbers (answer.Destroyed stamp) kind right = (Ok stamp, refl)
destroy_shows numbers got kind right = absurd (cc kind.0)

pub query_shows : (got : Answer) → IsAnswered (record { command = cmd.Query; answer = got }) → RefusesRight cmd.Query got → Shows info_answer got
query_shows (answer.Refused b) kind right = (Err b.reason, plain b (right.1 refl))
query_shows (answer.Info user pool limits) kind right = (Ok (record { user = user; pool = pool; limits = limits }), refl)
query_shows got kind right = absurd (cc kind.0)

pub reset_shows : (limits : Limits) (got : Answer) → IsAnswered (record { command = (cmd.Reset limits); answer = got }) → RefusesRight (cmd.Reset limits) got → Shows reset_answer got
reset_shows limits (answer.Refused b) kind right = (Err b.reason, plain b (right.1 refl))
reset_shows limits (answer.Reset stamp) kind right = (Ok stamp, refl)
reset_shows limits got kind right = absurd (cc kind.0)

pub disconnect_shows : (got : Answer) → IsAnswered (record { command = cmd.Disconnect; answer = got }) → RefusesRight cmd.Disconnect got → Shows reset_answer got
disconnect_shows (answer.Refused b) kind right = (Err b.reason, plain b (right.1 refl))
disconnect_shows (answer.Reset stamp) kind right = (Ok stamp, refl)
disconnect_shows got kind right = absurd (cc kind.0)

pub recv_shows : (got : Answer) → IsAnswered (record { command = cmd.Recv; answer = got }) → RefusesRight cmd.Recv got → Shows got_answer got
recv_shows (answer.Refused b) kind right = (Err b.reason, plain b (right.1 refl))
recv_shows (answer.Got receipt) kind right = (Ok receipt, refl)
recv_shows got kind right = absurd (cc kind.0)

pub send_shows : (s : SendCmd) (got : Answer) → IsAnswered (record { command = cmd.Send s; answer = got }) → Shows sent_answer got
send_shows s (answer.Refused b) kind = (Err b, refl)
send_shows s (answer.Sent b) kind = (Ok b, refl)
send_shows s got kind = absurd (cc kind.0)

-- an accepted SEND has a place for each destination
pub places_fit : (s : SendCmd) (got : Answer) (n : ℕ) → IsAnswered (record { command = cmd.Send s; answer = got }) → length s.to ≤ n → FitsIn n got
places_fit s (answer.Sent b) n kind room = let count = kind.1.count in omega (arith, count, room)
places_fit s got n kind room = tt

-- a SEND without memory for its answer is refused
shut_refused : (got : Answer) → is_shutdown got ≡ true → (b : Refused) × (got ≡ answer.Refused b)
shut_refused (answer.Refused b) is = (b, refl)
shut_refused got is = absurd (cc is)

last_same : (before : List Call) (c d : Call) → before ++ c ∷ [] ≡ before ++ d ∷ [] → c ≡ d
last_same [] c d same = cc same
last_same (x ∷ xs) c d same = last_same xs c d (cc same)

pub is_refused : (d e : DriverPart) (s : SendCmd) (got : Answer) → e.calls ≡ with_call (cmd.Send s) got d.calls → is_shutdown got ≡ d.shut → (d.shut ≡ false → (b : Refused) × (e.calls ≡ with_call (cmd.Send s) (answer.Refused b) d.calls)) → (b : Refused) × (got ≡ answer.Refused b)
is_refused d e s got calls shutdown refused = by d.shut refl
  where
    by : (shut : Bool) → d.shut ≡ shut → (b : Refused) × (got ≡ answer.Refused b)
    by true is = shut_refused got (shutdown ∙ is)
    by false is = let (b, those) = refused is in (b, ap (λ call. call.answer) (last_same d.calls (record { command = cmd.Send s; answer = got }) (record { command = cmd.Send s; answer = answer.Refused b }) (sym calls ∙ those)))
