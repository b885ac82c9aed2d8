-- A command that a driver does whole ends with one call, or as an attempt that waits.
use Rattle.std.proofs.Common.{◌≡◌, ◌⊎◌, refl, sym, ap, ◌∙◌, inl, inr, subst, ℕ, zero, suc, Bool, true, false, cond, ◌&&◌, ◌||◌, List, [], ◌∷◌, ◌++◌, length, slice_get, Option, Some, None}
use Rattle.std.proofs.lemmas.List.{append-nil}
use Rattle.b1_model.specs.declared.naming.Opening.{Opening}
use Rattle.b1_model.specs.declared.answers.Answer.{Answer}
use Rattle.b1_model.specs.declared.answers.Answer.TheVariants as answer
use Rattle.b1_model.specs.declared.commands.Command.{Command}
use Rattle.b1_model.specs.declared.commands.Command.TheVariants as cmd
use Rattle.b1_model.specs.declared.records.Call.{Call}
use Rattle.b1_model.specs.declared.events.Doing.{Doing}
use Rattle.b1_model.specs.declared.events.Phase.{Phase}
use Rattle.b1_model.specs.declared.events.Phase.TheVariants.{Starting}
use Rattle.b1_model.specs.Opening.{IsOpening}
use Rattle.b1_model.specs.MachineParts.{PeerPart, DriverPart}
use Rattle.b1_model.specs.MachineDriver.{next_action, Turn, Goes, Ends, turn}
use Rattle.b1_model.specs.MachineTook.{is_await, is_again, is_waiting, is_done, answer_of, as_call, ended, goes_by, turned, with_facts, took_by}
use Rattle.b1_model.specs.MachineEvents.{happens}
use Rattle.std.specs.Prelude.{option_map}
use Rattle.b1_model.specs.declared.answers.Reason.{Reason}
use Rattle.b1_model.specs.declared.answers.Reason.TheVariants as reason
use Rattle.b1_model.specs.MachineStep.{begun_by, done_by, effect_by, effect, aimed, target}
use Rattle.b1_step.proofs.Steps.{reached_more}
use Rattle.b1_step.proofs.Locality.{own_driver, step_grows}
use Rattle.b1_inv_answers.specs.Answers.{IsAnswered}
use Rattle.b1_inv_answers.proofs.Answered.{reached_answered}
use Rattle.b1_commands.specs.Done.{is_shut_reason, is_shutdown, leaves, Moves, GoesOn, Comes, HasEnded}
use Rattle.b1_commands.proofs.Under.{shown, AttemptBy, EndsRight, Under, TurnUnder, event_under, last_right}

-- ---- where a driver stands

-- its command is open, and its list is as before
pub record IsUnder (d : DriverPart) (c : Command) (m : DriverPart) : Type 0 where
  pub phase : Phase
  pub doing : m.doing ≡ Some (record { command = c; phase = phase })
  pub calls : m.calls ≡ d.calls
  pub under : Under d c (shown m) phase

-- it has ended: with a call, or as an attempt that waits
pub record IsOver (d : DriverPart) (c : Command) (m : DriverPart) : Type 0 where
  pub got : Answer
  pub doing : m.doing ≡ None
  pub calls : m.calls ≡ d.calls ++ cond (is_waiting c got) [] (record { command = as_call c; answer = got } ∷ [])
  pub right : EndsRight d c got (shown m)

abbrev pub Stage : DriverPart → Command → DriverPart → Type 0
Stage d c m = IsUnder d c m ⊎ IsOver d c m

module _ (d : DriverPart) (c : Command) (f : DriverPart) (calls : f.calls ≡ d.calls) where
  over : (got : Answer) → EndsRight d c got (shown f) → Stage d c (ended f c got)
  over got right = inr (record { got = got; doing = refl; calls = ap (λ l. l ++ cond (is_waiting c got) [] (record { command = as_call c; answer = got } ∷ [])) calls; right = right })

  goes : (phase : Phase) → Under d c (shown f) phase → (b : Bool) → is_done f.owed f.told phase ≡ b → Stage d c (goes_by b (answer_of c phase) f c phase)
  goes phase k false is = inl (record { phase = phase; doing = refl; calls = calls; under = k })
  goes phase k true is = let (got, fixed, right) = last_right d c (shown f) f.owed f.told phase is k in subst (λ a. Stage d c (goes_by true a f c phase)) (sym fixed) (over got right)

  stage_of : (t : Turn) → TurnUnder d c (shown f) t → Stage d c (turned f c t)
  stage_of (Goes phase) k = goes phase k (is_done f.owed f.told phase) refl
  stage_of (Ends got) k = over got k

-- ---- one step

-- what a step makes of the part whose command is open
abbrev after : Opening → Bool → DriverPart → Doing → PeerPart → DriverPart
after o memory e doing x = turned (with_facts e doing (happens o memory e doing (next_action e) x).0) doing.command (turn e.me doing.command doing.phase (happens o memory e doing (next_action e) x).0)

module _ (o : Opening) (memory : Bool) (d : DriverPart) (x : PeerPart) (f : DriverPart) (y : PeerPart) where
  done_so : (e : DriverPart) (doing : Doing) → e.doing ≡ Some doing → done_by o memory e e.doing x ≡ (f, y) → f ≡ after o memory e doing x
  done_so e doing is same = sym (ap (λ z. z.0) (sym (ap (λ b. done_by o memory e b x) is) ∙ same)) ∙ ap (λ b. took_by e b (happens o memory e doing (next_action e) x).0) is

  begins_so : (c : Command) → d.doing ≡ None → effect o memory d (Some c) x ≡ (f, y) → f ≡ after o memory (record d { doing = Some (record { command = c; phase = Starting }) }) (record { command = c; phase = Starting }) x
  begins_so c idle same = done_so (record d { doing = Some (record { command = c; phase = Starting }) }) (record { command = c; phase = Starting }) refl (sym (ap (λ b. effect_by o memory d (begun_by d b (Some c)) x) idle) ∙ same)

  goes_so : (doing : Doing) → d.doing ≡ Some doing → effect o memory d None x ≡ (f, y) → f ≡ after o memory d doing x
  goes_so doing is same = done_so d doing is (sym (ap (λ b. effect_by o memory d (begun_by d b None) x) is) ∙ same)

begun_stage : (o : Opening) (d : DriverPart) (c : Command) (f : DriverPart) → d.doing ≡ None → Moves o d (Some c) f → Stage d c f
begun_stage o d c f idle m =
    let step = m.step in
    let e : DriverPart = record d { doing = Some (record { command = c; phase = Starting }) } in
    let is = begins_so o step.local.memory d step.peer f step.new_peer c idle (ap (λ z. effect o step.local.memory z (Some c) step.peer) (sym m.from) ∙ step.local.after ∙ ap (λ z. (z, step.new_peer)) m.to) in
    subst (Stage d c) (sym is)
    (stage_of d c (with_facts e (record { command = c; phase = Starting }) (happens o step.local.memory e (record { command = c; phase = Starting }) (next_action e) step.peer).0) refl
    (turn e.me c Starting (happens o step.local.memory e (record { command = c; phase = Starting }) (next_action e) step.peer).0)
    (event_under o step.local.memory d e step.peer c Starting refl (refl, refl, refl)))

next_stage : (o : Opening) (d : DriverPart) (c : Command) (m f : DriverPart) → IsUnder d c m → Moves o m None f → Stage d c f
next_stage o d c m f k moves =
    let step = moves.step in
    let doing : Doing = record { command = c; phase = k.phase } in
    let is = goes_so o step.local.memory m step.peer f step.new_peer doing k.doing (ap (λ z. effect o step.local.memory z None step.peer) (sym moves.from) ∙ step.local.after ∙ ap (λ z. (z, step.new_peer)) moves.to) in
    subst (Stage d c) (sym is)
    (stage_of d c (with_facts m doing (happens o step.local.memory m doing (next_action m) step.peer).0) k.calls
    (turn m.me c k.phase (happens o step.local.memory m doing (next_action m) step.peer).0)
    (event_under o step.local.memory d m step.peer c k.phase k.doing k.under))

-- no step goes on where no command is open
none_goes : (o : Opening) (m f : DriverPart) → m.doing ≡ None → Moves o m None f → ⊥
none_goes o m f idle moves = let step = moves.step in cc (sym (ap (λ b. option_map aimed (begun_by m b None)) idle) ∙ ap (λ z. target z None) (sym moves.from) ∙ step.is_target)

pub stays_closed : (o : Opening) (n : ℕ) (m f : DriverPart) → m.doing ≡ None → GoesOn o n m f → f ≡ m
stays_closed o zero m f idle same = sym same
stays_closed o (suc n) m f idle (l, before, moves) = absurd (none_goes o l f (ap (λ z. z.doing) (stays_closed o n m l idle before) ∙ idle) moves)

goes_on : (o : Opening) (d : DriverPart) (c : Command) (n : ℕ) (m f : DriverPart) → Stage d c m → GoesOn o n m f → Stage d c f
goes_on o d c zero m f k same = subst (Stage d c) same k
goes_on o d c (suc n) m f k (l, before, moves) = elim (goes_on o d c n m l k before) [
  | inl under ↦ next_stage o d c l f under moves
  | inr over ↦ absurd (none_goes o l f over.doing moves)
]

pub comes_to : (o : Opening) (d : DriverPart) (c : Command) (e : DriverPart) → d.doing ≡ None → Comes o d c e → Stage d c e
comes_to o d c e idle comes = goes_on o d c comes.count comes.first e (begun_stage o d c comes.first idle comes.begins) comes.goes

-- ---- the last call is of the command's kind

moved_right : (o : Opening) (d : DriverPart) (command : Option Command) (e : DriverPart) → IsOpening o → Moves o d command e → (k : ℕ) (call : Call) → slice_get e.calls k ≡ Some call → IsAnswered call
moved_right o d command e opening m k call is =
    let reached = reached_more o m.before m.after m.number command m.reached m.step in
    (reached_answered o m.after opening reached m.number e (own_driver m.step ∙ ap (λ z. Some z) m.to)).calls k call is

went_right : (o : Opening) (n : ℕ) (d e : DriverPart) → IsOpening o → ((k : ℕ) (call : Call) → slice_get d.calls k ≡ Some call → IsAnswered call) → GoesOn o n d e → (k : ℕ) (call : Call) → slice_get e.calls k ≡ Some call → IsAnswered call
went_right o zero d e opening all same = subst (λ z. (k : ℕ) (call : Call) → slice_get z.calls k ≡ Some call → IsAnswered call) same all
went_right o (suc n) d e opening all (m, before, moves) = moved_right o m None e opening moves

all_answered : (o : Opening) (d : DriverPart) (c : Command) (e : DriverPart) → IsOpening o → Comes o d c e → (k : ℕ) (call : Call) → slice_get e.calls k ≡ Some call → IsAnswered call
all_answered o d c e opening comes = went_right o comes.count comes.first e opening (moved_right o d (Some c) comes.first opening comes.begins) comes.goes

last_is : (calls : List Call) (call : Call) → slice_get (calls ++ call ∷ []) (length calls) ≡ Some call
last_is [] call = refl
last_is (c ∷ cs) call = last_is cs call

-- ---- the driver's number stays

moved_me : (o : Opening) (d : DriverPart) (command : Option Command) (e : DriverPart) → Moves o d command e → e.me ≡ d.me
moved_me o d command e m = ap (λ z. z.me) (sym m.to) ∙ (step_grows m.step).me ∙ ap (λ z. z.me) m.from

went_me : (o : Opening) (n : ℕ) (d e : DriverPart) → GoesOn o n d e → e.me ≡ d.me
went_me o zero d e same = ap (λ z. z.me) (sym same)
went_me o (suc n) d e (m, before, moves) = moved_me o m None e moves ∙ went_me o n d m before

came_me : (o : Opening) (d : DriverPart) (c : Command) (e : DriverPart) → Comes o d c e → e.me ≡ d.me
came_me o d c e comes = went_me o comes.count comes.first e comes.goes ∙ moved_me o d (Some c) comes.first comes.begins

-- ---- the end

await_is : (c : Command) (got : Answer) → is_waiting c got ≡ true → c ≡ cmd.Await
await_is cmd.Await got is = refl
await_is c got is = absurd (cc is)

waits_open : (c : Command) (got : Answer) → is_waiting c got ≡ true → is_shutdown got ≡ false
waits_open c (answer.Refused b) is = by c b.reason is
  where
    by : (c : Command) (r : Reason) → (is_await c && is_again r) ≡ true → is_shut_reason r ≡ false
    by c (reason.Again front) is = refl
    by cmd.Await r is = absurd (cc is)
    by c r is = absurd (cc is)
waits_open c got is = by (is_await c) is
  where
    by : (b : Bool) → (b && false) ≡ true → is_shutdown got ≡ false
    by true is = absurd (cc is)
    by false is = absurd (cc is)

module _ (d : DriverPart) (c : Command) (e : DriverPart) (over : IsOver d c e) (me : e.me ≡ d.me) (all : (k : ℕ) (call : Call) → slice_get e.calls k ≡ Some call → IsAnswered call) where
  over_by : (b : Bool) → is_waiting c over.got ≡ b → HasEnded d c e
  over_by false is =
      let calls : e.calls ≡ d.calls ++ record { command = as_call c; answer = over.got } ∷ [] = over.calls ∙ ap (λ b. d.calls ++ cond b [] (record { command = as_call c; answer = over.got } ∷ [])) is in
      let same = subst (λ b. AttemptBy b d (shown e)) is over.right.attempt in
      inl (
        over.got,
        record {
          me = me;
          calls = calls;
          kind = all (length d.calls) (record { command = as_call c; answer = over.got }) (ap (λ l. slice_get l (length d.calls)) calls ∙ last_is d.calls (record { command = as_call c; answer = over.got }));
          taken = is;
          refused = over.right.refused;
          shutdown = over.right.shutdown;
          shut = over.right.shut;
          attempted = same.0;
          attempts = same.1;
        },
      )
  over_by true is =
      let (front, removed, attempted, attempts) = subst (λ b. AttemptBy b d (shown e)) is over.right.attempt in
      let open_at : d.shut ≡ false = sym over.right.shutdown ∙ waits_open c over.got is in
      inr (
        await_is c over.got is,
        front,
        removed,
        record {
          me = me;
          calls = over.calls ∙ ap (λ b. d.calls ++ cond b [] (record { command = as_call c; answer = over.got } ∷ [])) is ∙ append-nil d.calls;
          open_at = open_at;
          shut = over.right.shut ∙ ap (λ b. b || leaves c over.got) open_at ∙ ap (λ z. leaves z over.got) (await_is c over.got is) ∙ await_stays over.got;
          attempted = attempted;
          attempts = attempts;
        },
      )
    where
      await_stays : (got : Answer) → leaves cmd.Await got ≡ false
      await_stays (answer.Refused b) = refl
      await_stays got = refl

pub ended_so : (o : Opening) (d : DriverPart) (c : Command) (e : DriverPart) → IsOpening o → d.doing ≡ None → Comes o d c e → e.doing ≡ None → HasEnded d c e
ended_so o d c e opening idle comes closed = elim (comes_to o d c e idle comes) [
  | inl under ↦ absurd (cc (sym under.doing ∙ closed))
  | inr over ↦ over_by d c e over (came_me o d c e comes) (all_answered o d c e opening comes) (is_waiting c over.got) refl
]
