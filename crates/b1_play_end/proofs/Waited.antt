-- An attempt that waits: it began with this step and its peer's part is what RECV leaves, or it removed something before.
use Rattle.std.proofs.Common.{◌≡◌, ◌⊎◌, refl, sym, ap, ◌∙◌, arith, inl, inr, subst, ℕ, ◌<◌, Bool, true, false, if◌then◌else◌, ◌&&◌, List, [], ◌∷◌, length, Option, Some, None, Ok, Err, Result}
use Rattle.b1_model.specs.declared.naming.Opening.{Opening}
use Rattle.b1_model.specs.declared.answers.Answer.{Answer}
use Rattle.b1_model.specs.declared.answers.Answer.TheVariants as answer
use Rattle.b1_model.specs.declared.answers.Front.{Front}
use Rattle.b1_model.specs.declared.answers.Reason.TheVariants as reason
use Rattle.b1_model.specs.declared.answers.Receipt.{Receipt}
use Rattle.b1_model.specs.declared.commands.Command.{Command}
use Rattle.b1_model.specs.declared.commands.Command.TheVariants as cmd
use Rattle.b1_model.specs.declared.events.Action.{Action}
use Rattle.b1_model.specs.declared.events.Action.TheVariants as act
use Rattle.b1_model.specs.declared.events.Doing.{Doing}
use Rattle.b1_model.specs.declared.events.Outcome.{Outcome}
use Rattle.b1_model.specs.declared.events.Outcome.TheVariants as out
use Rattle.b1_model.specs.declared.events.OwedDrop.{OwedDrop}
use Rattle.b1_model.specs.declared.events.Phase.{Phase}
use Rattle.b1_model.specs.declared.events.Phase.TheVariants.{Starting, Dropping, Reaping, Flushing}
use Rattle.b1_model.specs.MachineParts.{PeerPart, DriverPart}
use Rattle.b1_model.specs.MachineDriver.{turn, first_action, phase_action, next_action, recv_answer, refused_at}
use Rattle.b1_model.specs.MachineTook.{attempt_of, is_await, is_waiting, with_facts}
use Rattle.b1_model.specs.MachineEvents.{happens, local_answer}
use Rattle.b1_model.specs.MachineReceive.{discards, received, received_part, has_dead}
use Rattle.b1_schedule.specs.Schedule.{removed_by}
use Rattle.b1_play_end.proofs.Knows.{attempt_removed}
use Rattle.b1_play_end.proofs.Waits.{EndsBy, IsAttempt}
use Rattle.b1_inv_tools.proofs.Facts.{next_of, next_owed}

await_is : (command : Command) → is_await command ≡ true → command ≡ cmd.Await
await_is cmd.Await is = refl
await_is cmd.Disconnect is = absurd (cc is)
await_is cmd.Query is = absurd (cc is)
await_is (cmd.Limit limits) is = absurd (cc is)
await_is (cmd.Reset limits) is = absurd (cc is)
await_is (cmd.Release number) is = absurd (cc is)
await_is (cmd.Destroy numbers) is = absurd (cc is)
await_is (cmd.SliceRelease offset) is = absurd (cc is)
await_is (cmd.Send c) is = absurd (cc is)
await_is cmd.Recv is = absurd (cc is)

-- the first event of an attempt, which found a front
pub record Attempt (o : Opening) (memory : Bool) (e : DriverPart) (doing : Doing) (x : PeerPart) : Type 0 where
  pub starts : doing.phase ≡ Starting
  pub await : doing.command ≡ cmd.Await
  pub shut : e.shut ≡ false
  pub action : next_action e ≡ act.Recv
  pub front : Front
  pub waits : (received x).front ≡ Err front
  pub removed : removed_by (with_facts e doing (happens o memory e doing (next_action e) x).0) ≡ length (discards x)

never : (b : Bool) → (b && false) ≡ true → ⊥
never true is = cc is
never false is = cc is

flush_ends : (owed : List OwedDrop) (told : Bool) (me : ℕ) (command : Command) (stamp : Option ℕ) (outcome : Outcome) (got : Answer) → EndsBy owed told command (turn me command (Flushing stamp) outcome) got → got ≡ answer.Reset stamp
flush_ends owed told me command stamp (out.Flush dead) got ends = some_is ends.0
  where
    some_is : Some (answer.Reset stamp) ≡ Some got → got ≡ answer.Reset stamp
    some_is is = cc is
flush_ends owed told me command stamp outcome got ends = some_is ends.0
  where
    some_is : Some (answer.Reset stamp) ≡ Some got → got ≡ answer.Reset stamp
    some_is is = cc is

module _ (o : Opening) (memory : Bool) (e : DriverPart) (doing : Doing) (x : PeerPart) (is_open : e.doing ≡ Some doing) (owes : doing.phase ≡ Starting → e.owed ≡ []) (told : (got : Answer) → doing.phase ≡ Reaping got → is_waiting doing.command got ≡ true → 0 < removed_by e) where
  abbrev facts : DriverPart
  facts = with_facts e doing (happens o memory e doing (next_action e) x).0

  -- a RECV that found a front
  front_found : (front : Result Receipt Front) → is_waiting doing.command (elim front [ Ok receipt ↦ answer.Got receipt | Err f ↦ refused_at (reason.Again f) None ]) ≡ true → (f : Front) × (front ≡ Err f)
  front_found (Ok receipt) waits = absurd (never (is_await doing.command) waits)
  front_found (Err f) waits = (f, refl)

  -- the next event, where nothing is owed
  abbrev Ends_at : Phase → Outcome → Answer → Type 0
  Ends_at phase got_outcome got = EndsBy facts.owed facts.told doing.command (turn e.me doing.command phase got_outcome) got

  local_waits : (got : Answer) → local_answer e.shut doing.command x ≡ got → e.shut ≡ true → is_waiting doing.command got ≡ true → ⊥
  local_waits got same shut waits = never (is_await doing.command) (subst (λ one. is_waiting doing.command one ≡ true) (sym same ∙ ap (λ b. local_answer b doing.command x) shut) waits)

  by_shut : (shut : Bool) → e.shut ≡ shut → is_await doing.command ≡ true → doing.phase ≡ Starting → next_action e ≡ (if shut then act.Local else first_action doing.command) → (got : Answer)
      → Ends_at Starting (happens o memory e doing (if shut then act.Local else first_action doing.command) x).0 got → is_waiting doing.command got ≡ true → Attempt o memory e doing x
  by_shut true is_shut await starts next got ends waits = absurd (local_waits got ends is_shut waits)
  by_shut false is_shut await starts next got ends waits =
      let command = await_is doing.command await in
      let recv : next_action e ≡ act.Recv = next ∙ ap first_action command in
      let found = front_found (received x).front (subst (λ one. is_waiting doing.command one ≡ true) (sym (recv_is got (subst (λ action. Ends_at Starting (happens o memory e doing action x).0 got) (ap first_action command) ends))) waits) in
      record {
        starts = starts;
        await = command;
        shut = is_shut;
        action = recv;
        front = found.0;
        waits = found.1;
        removed = ap (λ action. removed_by (with_facts e doing (happens o memory e doing action x).0)) recv ∙ attempt_removed e doing (received x) (has_dead (received_part x)) found.0 await found.1;
      }
    where
      recv_is : (got : Answer) → Ends_at Starting (out.Recv (received x) (has_dead (received_part x))) got → recv_answer (received x) ≡ got
      recv_is got ends = some_is ends.0
        where
          some_is : Some (recv_answer (received x)) ≡ Some got → recv_answer (received x) ≡ got
          some_is is = cc is

  removed_same : (action : Action) → next_action e ≡ action → attempt_of doing.command (happens o memory e doing action x).0 ≡ None → removed_by facts ≡ removed_by e
  removed_same action is none = ap (λ a. removed_by (with_facts e doing (happens o memory e doing a x).0)) is ∙ ap (λ found. removed_by (record e { attempted = elim found [ None ↦ e.attempted | Some one ↦ Some one ] })) none

  by_owed : (owed : List OwedDrop) → e.owed ≡ owed → (given : Answer) → doing.phase ≡ Reaping given → removed_by facts ≡ removed_by e
  by_owed [] owes given is = removed_same act.Reap (next_of e doing is_open owes ∙ ap (phase_action e.me e.shut doing.command) is) refl
  by_owed (one ∷ rest) owes given is = removed_same (act.DropRefs one.node.owner one.node.serial one.holder one.amount one.clock) (next_owed e doing one rest is_open owes) refl

  pub waited : (phase : Phase) → doing.phase ≡ phase → IsAttempt phase → (got : Answer) → is_await doing.command ≡ true → Ends_at phase (happens o memory e doing (next_action e) x).0 got → is_waiting doing.command got ≡ true
      → Attempt o memory e doing x ⊎ (0 < removed_by facts)
  waited Starting is attempt got await ends waits =
      let next = next_of e doing is_open (owes is) ∙ ap (phase_action e.me e.shut doing.command) is in
      inl (by_shut e.shut refl await is next got (subst (λ action. Ends_at Starting (happens o memory e doing action x).0 got) next ends) waits)
  waited Dropping is attempt got await ends waits = absurd (never (is_await doing.command) (subst (λ one. is_waiting doing.command one ≡ true) (sym (some_is ends.0)) waits))
    where
      some_is : Some answer.Done ≡ Some got → answer.Done ≡ got
      some_is is = cc is
  waited (Reaping given) is attempt got await ends waits =
      let same = some_is ends.0 in
      inr (omega (arith, told given is (subst (λ one. is_waiting doing.command one ≡ true) (sym same) waits), by_owed e.owed refl given is))
    where
      some_is : Some given ≡ Some got → given ≡ got
      some_is is = cc is
  waited (Flushing stamp) is attempt got await ends waits = absurd (never (is_await doing.command) (subst (λ one. is_waiting doing.command one ≡ true) (flush_ends facts.owed facts.told e.me doing.command stamp (happens o memory e doing (next_action e) x).0 got ends) waits))
  waited phase is attempt got await ends waits = absurd attempt
