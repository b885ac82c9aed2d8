-- An AWAIT that found a front has it among its driver's facts, and there it stands when the AWAIT ends without a call.
use Rattle.std.proofs.Common.{◌≡◌, ◌≢◌, ◌⊎◌, refl, sym, ap, ◌∙◌, inl, inr, ℕ, zero, suc, ◌+◌, Bool, true, false, ◌&&◌, cond, List, [], ◌∷◌, ◌++◌, length, Option, Some, None, Ok, Err, Result, subst}
use Rattle.std.specs.Prelude.{slice_get}
use Rattle.std.proofs.lemmas.List.{length-append}
use native.Mathlib.Omega.{arith}
use Rattle.b1_model.specs.declared.commands.Command.{Command}
use Rattle.b1_model.specs.declared.commands.Command.TheVariants as cmd
use Rattle.b1_model.specs.declared.answers.Answer.{Answer}
use Rattle.b1_model.specs.declared.answers.Front.{Front}
use Rattle.b1_model.specs.declared.answers.Receipt.{Receipt}
use Rattle.b1_model.specs.declared.naming.Opening.{Opening}
use Rattle.b1_model.specs.declared.records.Call.{Call}
use Rattle.b1_model.specs.declared.events.Action.{Action}
use Rattle.b1_model.specs.declared.events.Action.TheVariants as act
use Rattle.b1_model.specs.declared.events.Outcome.{Outcome}
use Rattle.b1_model.specs.declared.events.Doing.{Doing}
use Rattle.b1_model.specs.declared.events.OwedDrop.{OwedDrop}
use Rattle.b1_model.specs.declared.events.Phase.{Phase}
use Rattle.b1_model.specs.declared.events.Phase.TheVariants as phase
use Rattle.b1_model.specs.MachineParts.{PeerPart, DriverPart, State}
use Rattle.b1_model.specs.MachineReceive.{received}
use Rattle.b1_model.specs.MachineDriver.{next_action, phase_action, recv_answer, Turn, Goes, Ends, turn}
use Rattle.b1_model.specs.MachineTook.{is_await, is_waiting, attempt_of, with_facts, answer_of, is_done, as_call, ended, goes_by, turned, took, took_by}
use Rattle.b1_model.specs.MachineEvents.{happens}
use Rattle.b1_model.specs.MachineStep.{Label, Leads, Reached, Step, idle_driver, idle_drivers, opening_state}
use Rattle.b1_model.specs.declared.naming.PeerSpec.{PeerSpec}
use Rattle.b1_step.proofs.Lists.{set_cases}
use Rattle.b1_core.specs.Shown.{PhaseShown, OpenShown, AreShown}
use Rattle.b1_event.proofs.Opened.{begins, opened, effect_is, aimed_at}

-- ---- what a turn leaves

-- after an event the facts still show a front that an AWAIT found, and where a command ended without a call, they do
pub record Leaves (calls : List Call) (e : DriverPart) : Type 0 where
  pub shown : OpenShown e.doing e.attempted
  pub ended : e.doing ≡ None → e.calls ≡ calls → e.attempted ≢ None

-- of where a command stands after an event
abbrev TurnShown : Command → Turn → Option (Front × ℕ) → Type 0
TurnShown command (Goes p) found = is_await command ≡ true → PhaseShown p found
TurnShown command (Ends got) found = is_waiting command got ≡ true → found ≢ None

no_longer : (calls : List Call) (c : Call) → calls ++ c ∷ [] ≢ calls
no_longer calls c same = let k : length (calls ++ c ∷ []) ≡ length calls + 1 = length-append calls (c ∷ []) in absurd (omega (arith, k, ap length same))

ends_by : (d : DriverPart) (b : Bool) (c : Call) → (b ≡ true → d.attempted ≢ None) → d.calls ++ cond b [] (c ∷ []) ≡ d.calls → d.attempted ≢ None
ends_by d true c found same = found refl
ends_by d false c found same = absurd (no_longer d.calls c same)

ends_so : (d : DriverPart) (command : Command) (got : Answer) → (is_waiting command got ≡ true → d.attempted ≢ None) → Leaves d.calls (ended d command got)
ends_so d command got found = record { shown = tt; ended = λ closed same. ends_by d (is_waiting command got) (record { command = as_call command; answer = got }) found same }

stays_open : (d : DriverPart) (command : Command) (p : Phase) → (is_await command ≡ true → PhaseShown p d.attempted) → Leaves d.calls (record d { doing = Some (record { command = command; phase = p }) })
stays_open d command p shown = record { shown = shown; ended = λ closed same. absurd (cc closed) }

-- an AWAIT's answer is fixed only where it gives references up
waiting_and : (a b : Bool) → (a && b) ≡ true → (a ≡ true) × (b ≡ true)
waiting_and true b is = (refl, is)
waiting_and false b is = absurd (cc is)

fixed_shown : (command : Command) (p : Phase) (got : Answer) (found : Option (Front × ℕ)) → answer_of command p ≡ Some got → (is_await command ≡ true → PhaseShown p found) → is_waiting command got ≡ true → found ≢ None
fixed_shown command phase.Starting got found fixed shown waits = absurd (cc fixed)
fixed_shown command (phase.Reaping one) got found fixed shown waits =
    let same : one ≡ got = cc fixed in
    let both = waiting_and (is_await command) _ waits in
    shown both.0 (rw same both.1)
fixed_shown command p got found fixed shown waits = absurd (shown (waiting_and (is_await command) _ waits).0)

goes_leaves : (b : Bool) (got : Option Answer) (d : DriverPart) (command : Command) (p : Phase) → answer_of command p ≡ got → (is_await command ≡ true → PhaseShown p d.attempted) → Leaves d.calls (goes_by b got d command p)
goes_leaves false got d command p fixed shown = stays_open d command p shown
goes_leaves true None d command p fixed shown = stays_open d command p shown
goes_leaves true (Some got) d command p fixed shown = ends_so d command got (fixed_shown command p got d.attempted fixed shown)

turned_leaves : (d : DriverPart) (command : Command) (t : Turn) → TurnShown command t d.attempted → Leaves d.calls (turned d command t)
turned_leaves d command (Goes p) shown = goes_leaves (is_done d.owed d.told p) (answer_of command p) d command p refl shown
turned_leaves d command (Ends got) shown = ends_so d command got shown

-- ---- the events of an AWAIT

-- no other command shows anything
not_await : (command : Command) (t : Turn) (found : Option (Front × ℕ)) → is_await command ≡ false → TurnShown command t found
not_await command (Goes p) found other = λ is. absurd (cc (sym is ∙ other))
not_await command (Ends got) found other = λ is. absurd (cc (sym (waiting_and (is_await command) _ is).0 ∙ other))

await_or : (command : Command) → (is_await command ≡ false) ⊎ (command ≡ cmd.Await)
await_or cmd.Disconnect = inl refl
await_or cmd.Query = inl refl
await_or (cmd.Reset limits) = inl refl
await_or (cmd.Limit limits) = inl refl
await_or (cmd.Release number) = inl refl
await_or (cmd.Destroy numbers) = inl refl
await_or (cmd.SliceRelease offset) = inl refl
await_or (cmd.Send c) = inl refl
await_or cmd.Recv = inl refl
await_or cmd.Await = inr refl

-- the next event by what is owed and whether the driver is shut
abbrev action_by : DriverPart → Command → Phase → List OwedDrop → Bool → Action
action_by d command p owed shut = elim owed [ [] ↦ phase_action d.me shut command p | one ∷ rest ↦ act.DropRefs one.node.owner one.node.serial one.holder one.amount one.clock ]

-- the front that the facts have after an event's answer
abbrev found_after : DriverPart → Outcome → Option (Front × ℕ)
found_after d outcome = elim (attempt_of cmd.Await outcome) [ None ↦ d.attempted | Some found ↦ Some found ]

module _ (o : Opening) (memory : Bool) (d : DriverPart) (x : PeerPart) where
  -- the answer of the event that an AWAIT does next, in a phase
  abbrev answered : Phase → List OwedDrop → Bool → Outcome
  answered p owed shut = (happens o memory d (record { command = cmd.Await; phase = p }) (action_by d cmd.Await p owed shut) x).0

  recv_shown : (front : Result Receipt Front) (removed : ℕ) → is_waiting cmd.Await (recv_answer (record { front = front; removed = removed })) ≡ true
      → elim (elim front as (λ f. Option (Front × ℕ)) [ Ok receipt ↦ None | Err one ↦ Some (one, removed) ]) as (λ f. Option (Front × ℕ)) [ None ↦ d.attempted | Some found ↦ Some found ] ≢ None
  recv_shown (Ok receipt) removed is = absurd (cc is)
  recv_shown (Err front) removed is = λ none. absurd (cc none)

  starts : (owed : List OwedDrop) (shut : Bool) → d.shut ≡ shut → TurnShown cmd.Await (turn d.me cmd.Await phase.Starting (answered phase.Starting owed shut)) (found_after d (answered phase.Starting owed shut))
  starts (one ∷ rest) shut is_shut = λ is. tt
  starts [] true is_shut = rw is_shut (λ is. absurd (cc is))
  starts [] false is_shut = λ is. recv_shown (received x).front (received x).removed

  reaps : (got : Answer) (owed : List OwedDrop) (shut : Bool) → PhaseShown (phase.Reaping got) d.attempted → TurnShown cmd.Await (turn d.me cmd.Await (phase.Reaping got) (answered (phase.Reaping got) owed shut)) (found_after d (answered (phase.Reaping got) owed shut))
  reaps got (one ∷ rest) shut shown = λ is. shown
  reaps got [] shut shown = λ is. shown

  await_shown : (p : Phase) (owed : List OwedDrop) (shut : Bool) → d.shut ≡ shut → PhaseShown p d.attempted → TurnShown cmd.Await (turn d.me cmd.Await p (answered p owed shut)) (found_after d (answered p owed shut))
  await_shown phase.Starting owed shut is_shut shown = starts owed shut is_shut
  await_shown (phase.Reaping got) owed shut is_shut shown = reaps got owed shut shown
  await_shown p owed shut is_shut shown = absurd shown

  abbrev opened_with : Command → Phase → DriverPart
  opened_with command p = took_by d (Some (record { command = command; phase = p })) (happens o memory d (record { command = command; phase = p }) (action_by d command p d.owed d.shut) x).0

  opened_leaves : (command : Command) (p : Phase) → (is_await command ≡ false) ⊎ (command ≡ cmd.Await) → (is_await command ≡ true → PhaseShown p d.attempted) → Leaves d.calls (opened_with command p)
  opened_leaves command p (inl other) shown = turned_leaves (with_facts d (record { command = command; phase = p }) _) command (turn d.me command p _) (not_await command _ _ other)
  opened_leaves command p (inr same) shown =
      subst (λ c. (is_await c ≡ true → PhaseShown p d.attempted) → Leaves d.calls (opened_with c p)) (sym same)
      (λ (at : is_await cmd.Await ≡ true → PhaseShown p d.attempted). turned_leaves (with_facts d (record { command = cmd.Await; phase = p }) (answered p d.owed d.shut)) cmd.Await (turn d.me cmd.Await p (answered p d.owed d.shut)) (await_shown p d.owed d.shut refl (at refl)))
      shown

  pub event_leaves : (doing : Doing) → d.doing ≡ Some doing → OpenShown d.doing d.attempted → Leaves d.calls (took d (happens o memory d doing (next_action d) x).0)
  event_leaves doing is shown =
      let next : next_action d ≡ action_by d doing.command doing.phase d.owed d.shut = ap (λ (open_is : Option Doing). elim open_is as (λ z. Action) [ None ↦ act.Rest | Some one ↦ action_by d one.command one.phase d.owed d.shut ]) is in
      let same : took d (happens o memory d doing (next_action d) x).0 ≡ opened_with doing.command doing.phase =
      ap (λ open_is. took_by d open_is (happens o memory d doing (next_action d) x).0) is ∙ ap (λ a. took_by d (Some doing) (happens o memory d doing a x).0) next in
      subst (Leaves d.calls) (sym same) (opened_leaves doing.command doing.phase (await_or doing.command) (subst (λ (open_is : Option Doing). OpenShown open_is d.attempted) is shown))

-- ---- steps

begun_shown : (d e : DriverPart) (c : Command) → e ≡ begins d c → OpenShown e.doing e.attempted
begun_shown d e c is = subst (λ f. OpenShown f.doing f.attempted) (sym is) (λ await. tt)

module _ {o : Opening} {s : State} {p : ℕ} {command : Option Command} {t : State} (shown : AreShown s) (step : Step o s p command t) where
  pub step_leaves : Leaves step.driver.calls step.new_driver
  step_leaves =
      let a = aimed_at step.driver command step.action step.at step.is_target in
      let one = opened step.driver a.part command a.is_begun in
      let here : OpenShown a.part.doing a.part.attempted = elim one.old_or_new [ inl same ↦ subst (λ f. OpenShown f.doing f.attempted) (sym same) (shown p step.driver step.is_driver) | inr new ↦ begun_shown step.driver a.part new.0 new.2 ] in
      let calls : a.part.calls ≡ step.driver.calls = elim one.old_or_new [ inl same ↦ ap (λ f. f.calls) same | inr new ↦ ap (λ f. f.calls) new.2 ] in
      let new : took a.part (happens o step.local.memory a.part one.doing (next_action a.part) step.peer).0 ≡ step.new_driver = ap (λ z. z.0) (sym (effect_is o step.local.memory step.driver a.part command one.doing step.peer a.is_begun one.is_doing) ∙ step.local.after) in
      subst (λ l. Leaves l step.new_driver) calls (subst (Leaves a.part.calls) new (event_leaves o step.local.memory a.part step.peer one.doing one.is_doing here))

  shown_at : (r : ℕ) (e : DriverPart) → ((r ≡ p) × (e ≡ step.new_driver)) ⊎ ((r ≢ p) × (slice_get s.drivers r ≡ Some e)) → OpenShown e.doing e.attempted
  shown_at r e (inl here) = subst (λ f. OpenShown f.doing f.attempted) (sym here.1) step_leaves.shown
  shown_at r e (inr other) = shown r e other.1

  pub still_shown : AreShown t
  still_shown r e is = shown_at r e (set_cases s.drivers p r step.new_driver e (ap (λ ds. slice_get ds r) (sym step.drivers) ∙ is))

led_shown : (o : Opening) (steps : List Label) (s t : State) → AreShown s → Leads o s steps t → AreShown t
led_shown o [] s t shown same = subst AreShown same shown
led_shown o (l ∷ rest) s t shown run = led_shown o rest run.0 t (still_shown shown run.1) run.2

idle_shown : (here : ℕ) (specs : List PeerSpec) (p : ℕ) (d : DriverPart) → slice_get (idle_drivers here specs) p ≡ Some d → OpenShown d.doing d.attempted
idle_shown here [] p d is = absurd (cc is)
idle_shown here (spec ∷ rest) zero d is = let same : idle_driver here ≡ d = cc is in subst (λ f. OpenShown f.doing f.attempted) same tt
idle_shown here (spec ∷ rest) (suc p) d is = idle_shown (here + 1) rest p d is

-- in every reached state
pub reached_shown : (o : Opening) (s : State) → Reached o s → AreShown s
reached_shown o s r = led_shown o r.steps (opening_state o) s (idle_shown 0 o.peers) r.run
