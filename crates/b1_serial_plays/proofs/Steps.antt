-- A driver's own step as a schedule does it: what it leaves of the driver's calls, and where it leads.
use Rattle.std.proofs.Common.{◌≡◌, ◌⊎◌, refl, sym, ap, ◌∙◌, inl, inr, subst, ℕ, Bool, true, false, Option, Some, None, is_some}
use Rattle.std.specs.Prelude.{slice_get}
use Rattle.std.proofs.lemmas.Option.{same_Some}
use Rattle.b1_model.specs.declared.naming.Opening.{Opening}
use Rattle.b1_model.specs.declared.answers.Answer.{Answer}
use Rattle.b1_model.specs.declared.commands.Command.{Command}
use Rattle.b1_model.specs.declared.commands.Command.TheVariants as cmd
use Rattle.b1_model.specs.declared.events.Doing.{Doing}
use Rattle.b1_model.specs.declared.events.Outcome.{Outcome}
use Rattle.b1_model.specs.declared.events.Outcome.TheVariants as out
use Rattle.b1_model.specs.declared.events.Phase.{Phase}
use Rattle.b1_model.specs.MachineParts.{DriverPart, State}
use Rattle.b1_model.specs.MachineDriver.{Turn, Goes, Ends, turn}
use Rattle.b1_model.specs.MachineTook.{is_done, answer_of, goes_by, turned, with_facts, shut_after}
use Rattle.b1_model.specs.MachineEvents.{happens}
use Rattle.b1_model.specs.MachineStep.{Step, Reached, stepped}
use Rattle.b1_step.proofs.Steps.{step_of, reached_more}
use Rattle.b1_step.proofs.Locality.{own_driver}
use Rattle.b1_inv_tools.proofs.Leaves.{Did, step_did}
use Rattle.b1_schedule.specs.Shortage.{Shortage, is_short}
use Rattle.b1_schedule.specs.Schedule.{beginning, with_step}
use Rattle.b1_serial_rest.specs.Whole.{own_step}

-- ---- what an event's answer leaves

goes_calls : (done : Bool) (got : Option Answer) (d : DriverPart) (command : Command) (phase : Phase) → is_some (goes_by done got d command phase).doing ≡ true → (goes_by done got d command phase).calls ≡ d.calls
goes_calls false got d command phase is = refl
goes_calls true None d command phase is = refl
goes_calls true (Some got) d command phase is = absurd (cc is)

-- a command that stays open adds no call
turned_calls : (d : DriverPart) (command : Command) (to : Turn) → is_some (turned d command to).doing ≡ true → (turned d command to).calls ≡ d.calls
turned_calls d command (Goes phase) is = goes_calls (is_done d.owed d.told phase) (answer_of command phase) d command phase is
turned_calls d command (Ends got) is = absurd (cc is)

goes_shut : (done : Bool) (got : Option Answer) (d : DriverPart) (command : Command) (phase : Phase) → (goes_by done got d command phase).shut ≡ d.shut
goes_shut false got d command phase = refl
goes_shut true None d command phase = refl
goes_shut true (Some got) d command phase = refl

turned_shut : (d : DriverPart) (command : Command) (to : Turn) → (turned d command to).shut ≡ d.shut
turned_shut d command (Goes phase) = goes_shut (is_done d.owed d.told phase) (answer_of command phase) d command phase
turned_shut d command (Ends got) = refl

goes_command : (done : Bool) (got : Option Answer) (d : DriverPart) (command : Command) (phase : Phase) (doing : Doing) → (goes_by done got d command phase).doing ≡ Some doing → doing.command ≡ command
goes_command false got d command phase doing is = ap (λ (z : Doing). z.command) (sym (same_Some (record { command = command; phase = phase }) doing is))
goes_command true None d command phase doing is = ap (λ (z : Doing). z.command) (sym (same_Some (record { command = command; phase = phase }) doing is))
goes_command true (Some got) d command phase doing is = absurd (cc is)

turned_command : (d : DriverPart) (command : Command) (to : Turn) (doing : Doing) → (turned d command to).doing ≡ Some doing → doing.command ≡ command
turned_command d command (Goes phase) doing is = goes_command (is_done d.owed d.told phase) (answer_of command phase) d command phase doing is
turned_command d command (Ends got) doing is = absurd (cc is)

-- an AWAIT shuts no driver
await_shut : (outcome : Outcome) → shut_after cmd.Await false outcome ≡ false
await_shut (out.Flush dead) = refl
await_shut outcome = refl

-- ---- a step

module _ {o : Opening} {s : State} {p : ℕ} {command : Option Command} {t : State} (step : Step o s p command t) where
  k : Did o step.local.memory step.driver command step.peer step.action step.at step.new_driver step.new_peer
  k = step_did step

  abbrev outcome : Outcome
  outcome = (happens o step.local.memory k.e k.doing step.action step.peer).0

  abbrev to : Turn
  to = turn k.e.me k.doing.command k.doing.phase outcome

  abbrev after : DriverPart
  after = turned (with_facts k.e k.doing outcome) k.doing.command to

  pub open_calls : is_some step.new_driver.doing ≡ true → step.new_driver.calls ≡ step.driver.calls
  open_calls is =
      ap (λ z. z.calls) k.driver
      ∙ turned_calls (with_facts k.e k.doing outcome) k.doing.command to (ap (λ (z : DriverPart). is_some z.doing) (sym k.driver) ∙ is)
      ∙ k.opened.calls

  -- the open command is an AWAIT, at a driver that hasn't disconnected
  abbrev pub Awaits : DriverPart → Type 0
  Awaits d = (d.shut ≡ false) × ((doing : Doing) → d.doing ≡ Some doing → doing.command ≡ cmd.Await)

  pub awaits_on : Awaits step.driver → ((c : Command) → command ≡ Some c → c ≡ cmd.Await) → Awaits step.new_driver
  awaits_on awaits begins =
      let is_await : k.doing.command ≡ cmd.Await = elim k.opened.from [ inl is_open ↦ awaits.1 k.doing is_open | inr (rests, begun, starts) ↦ begins k.doing.command begun ] in
      let shut : shut_after k.doing.command k.e.shut outcome ≡ false =
      ap (λ c. shut_after c k.e.shut outcome) is_await ∙ ap (λ b. shut_after cmd.Await b outcome) (k.opened.shut ∙ awaits.0) ∙ await_shut outcome in (
        ap (λ z. z.shut) k.driver ∙ turned_shut (with_facts k.e k.doing outcome) k.doing.command to ∙ shut,
        λ doing is. turned_command (with_facts k.e k.doing outcome) k.doing.command to doing (ap (λ (z : DriverPart). z.doing) (sym k.driver) ∙ is) ∙ is_await,
      )

-- ---- a step of a schedule

-- the state stays, or a step leads on
pub schedule_steps : (o : Opening) (m : Shortage) (p : ℕ) (command : Option Command) (d : DriverPart) (s : State) → (with_step o m p command d s ≡ s) ⊎ Step o s p command (with_step o m p command d s)
schedule_steps o m p command d s = by (stepped o (is_short m d command) p command s) refl
  where
    by : (to : Option State) → stepped o (is_short m d command) p command s ≡ to → (elim to [ None ↦ s | Some t ↦ t ] ≡ s) ⊎ Step o s p command (elim to [ None ↦ s | Some t ↦ t ])
    by None is = inl refl
    by (Some t) is = inr (step_of o (is_short m d command) p command s t is)

-- what a driver's own step leads to
pub record Leads (o : Opening) (p : ℕ) (command : Option Command) (s : State) (d : DriverPart) (t : State) : Type 0 where
  pub driver : DriverPart
  pub is_driver : slice_get t.drivers p ≡ Some driver
  pub calls : is_some driver.doing ≡ true → driver.calls ≡ d.calls
  pub reached : Reached o s → Reached o t
  pub awaits : (d.shut ≡ false) × ((doing : Doing) → d.doing ≡ Some doing → doing.command ≡ cmd.Await) → ((c : Command) → command ≡ Some c → c ≡ cmd.Await)
      → (driver.shut ≡ false) × ((doing : Doing) → driver.doing ≡ Some doing → doing.command ≡ cmd.Await)

module _ (o : Opening) (m : Shortage) (p : ℕ) where
  step_leads : (command : Option Command) (s : State) (d : DriverPart) → slice_get s.drivers p ≡ Some d → Leads o p command s d (with_step o m p command d s)
  step_leads command s d is = elim (schedule_steps o m p command d s) [
    | inl same ↦ subst (Leads o p command s d) (sym same) (record { driver = d; is_driver = is; calls = λ i. refl; reached = λ r. r; awaits = λ a b. a })
    | inr step ↦
        let here : step.driver ≡ d = same_Some step.driver d (sym step.is_driver ∙ is) in
        record {
          driver = step.new_driver;
          is_driver = own_driver step;
          calls = λ i. open_calls step i ∙ ap (λ z. z.calls) here;
          reached = λ r. reached_more o s (with_step o m p command d s) p command r step;
          awaits = λ a b. awaits_on step (subst (λ z. (z.shut ≡ false) × ((doing : Doing) → z.doing ≡ Some doing → doing.command ≡ cmd.Await)) (sym here) a) b;
        }
  ]

  pub own_is : (command : Option Command) (s : State) (d : DriverPart) → slice_get s.drivers p ≡ Some d → own_step o m p command s ≡ with_step o m p (beginning command d) d s
  own_is command s d is = rw (is, own_step) refl

  pub own_leads : (command : Option Command) (s : State) (d : DriverPart) → slice_get s.drivers p ≡ Some d → Leads o p (beginning command d) s d (own_step o m p command s)
  own_leads command s d is = subst (Leads o p (beginning command d) s d) (sym (own_is command s d is)) (step_leads (beginning command d) s d is)
