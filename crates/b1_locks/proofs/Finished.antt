-- A driver that has done a command whole.
use Rattle.std.proofs.Common.{◌≡◌, refl, sym, ap, ◌∙◌, inl, inr, ◌+◌, ◌<◌, Ok, Err, false, [], ◌∷◌, ◌++◌, length}
use Rattle.std.proofs.lemmas.List.{length-append}
use native.Mathlib.Omega.{arith}
use Rattle.atomic_table.specs.Seated.{TableId}
use Rattle.b1_model.specs.declared.naming.Opening.{Opening}
use Rattle.b1_model.specs.declared.answers.Answer.{Answer}
use Rattle.b1_model.specs.declared.answers.Answer.TheVariants as answer
use Rattle.b1_inv_answers.specs.Answers.{IsAnswered}
use Rattle.b1_model.specs.declared.commands.Command.{Command}
use Rattle.b1_model.specs.declared.commands.Command.TheVariants as cmd
use Rattle.b1_model.specs.declared.records.Call.{Call}
use Rattle.b1_model.specs.MachineParts.{DriverPart}
use Rattle.b1_model.specs.MachineTook.{is_await, as_call}
use Rattle.b1_driver.specs.Parts.{Driver}
use Rattle.b1_edge.specs.Ports.{with_call}
use Rattle.b1_commands.specs.Done.{Comes, Called, HasEnded, RefusesRight}
use Rattle.b1_locks.specs.Faces.{DriverFace, member}
use Rattle.b1_locks.specs.Calls.{Did, Shows, got_answer}

pub same_member : (t u : TableId) (a b : Opening) (d e : Driver) → t ≡ u → a ≡ b → d.part.me ≡ e.part.me → member (record { table = t; opening = a; own = d }) ≡ member (record { table = u; opening = b; own = e })
same_member t u a b d e table opening me = λ i. record { table = table i; opening = opening i; number = me i }

pub same_number : (d : DriverPart) (c : Command) (e : DriverPart) → HasEnded d c e → e.me ≡ d.me
same_number d c e (inl (got, called)) = called.me
same_number d c e (inr (is, front, removed, waited)) = waited.me

not_await : (c : Command) → is_await c ≡ false → as_call c ≡ c
not_await cmd.Await other = absurd (cc other)
not_await cmd.Disconnect other = refl
not_await cmd.Query other = refl
not_await (cmd.Reset limits) other = refl
not_await (cmd.Limit limits) other = refl
not_await (cmd.Release number) other = refl
not_await (cmd.Destroy numbers) other = refl
not_await (cmd.SliceRelease offset) other = refl
not_await (cmd.Send s) other = refl
not_await cmd.Recv other = refl

-- a command that has added a call
pub called_so : (d e : DriverFace) (c : Command) → member e ≡ member d → Comes d.opening d.own.part c e.own.part → e.own.spare + length e.own.part.calls ≡ d.own.spare + length d.own.part.calls → (got : Answer) → Called d.own.part c got e.own.part → Did d c got e
called_so d e c same steps spare got called =
    let one : Call = record { command = as_call c; answer = got } in
    let more : length e.own.part.calls ≡ length d.own.part.calls + 1 = ap length called.calls ∙ length-append d.own.part.calls (one ∷ []) in
    record {
      member = same;
      steps = steps;
      spare = omega (arith, spare, more);
      kind = called.kind;
      refused = called.refused;
      shutdown = called.shutdown;
      shut = called.shut;
      attempted = called.attempted;
      attempts = called.attempts;
    }

-- a command that isn't an AWAIT has added one call
pub did_so : (d e : DriverFace) (c : Command) → is_await c ≡ false → member e ≡ member d → Comes d.opening d.own.part c e.own.part → e.own.spare + length e.own.part.calls ≡ d.own.spare + length d.own.part.calls → HasEnded d.own.part c e.own.part
    → (got : Answer) × (e.own.part.calls ≡ with_call c got d.own.part.calls) × Did d c got e
did_so d e c other same steps spare (inl (got, called)) = (
  got,
  called.calls ∙ ap (λ z. d.own.part.calls ++ record { command = z; answer = got } ∷ []) (not_await c other),
  called_so d e c same steps spare got called,
)
did_so d e c other same steps spare (inr (is, front, removed, waited)) = absurd (cc (sym (ap is_await is) ∙ other))

-- ---- attempts

-- an attempt that has added a call
pub called_once : (d e : DriverPart) → HasEnded d cmd.Await e → length d.calls < length e.calls → (got : Answer) × Called d cmd.Await got e
called_once d e (inl ended) more = ended
called_once d e (inr (is, front, removed, waited)) more = let same : length e.calls ≡ length d.calls = ap length waited.calls in absurd (omega (arith, same, more))

pub await_shows : (got : Answer) → IsAnswered (record { command = cmd.Recv; answer = got }) → RefusesRight cmd.Await got → Shows got_answer got
await_shows (answer.Refused b) kind right = (Err b.reason, λ i. answer.Refused (record { reason = b.reason; place = sym (right.1 refl) i }))
await_shows (answer.Got receipt) kind right = (Ok receipt, refl)
await_shows got kind right = absurd (cc kind.0)
