-- Where all calls and commands are plain after a step, they were so before it.
use Rattle.std.proofs.Common.{◌≡◌, inl, inr, refl, sym, ap, ◌∙◌, subst, ℕ, ◌≤◌, Bool, true, false, cond, ◌&&◌, List, [], ◌∷◌, ◌++◌, Option, Some, None}
use Rattle.std.proofs.lemmas.Option.{same_Some}
use Rattle.std.proofs.lemmas.List.Sums.{sum_by_push}
use Rattle.std.proofs.lemmas.Bool.{cases_eq}
use native.Mathlib.Omega.{arith}
use Rattle.b1_model.specs.declared.naming.Opening.{Opening}
use Rattle.b1_model.specs.declared.answers.Answer.{Answer}
use Rattle.b1_model.specs.declared.commands.Command.{Command}
use Rattle.b1_model.specs.declared.commands.Command.TheVariants as cmd
use Rattle.b1_model.specs.declared.records.Call.{Call}
use Rattle.b1_model.specs.declared.events.Doing.{Doing}
use Rattle.b1_model.specs.declared.events.Phase.{Phase}
use Rattle.b1_model.specs.declared.events.Phase.TheVariants.{Starting}
use Rattle.b1_model.specs.MachineParts.{DriverPart, State}
use Rattle.b1_model.specs.MachineDriver.{Turn, Goes, Ends, turn}
use Rattle.b1_model.specs.MachineTook.{is_done, answer_of, is_waiting, is_await, as_call, call_of, goes_by, turned, with_facts, driver_calls}
use Rattle.b1_model.specs.MachineEvents.{happens}
use Rattle.b1_model.specs.MachineStep.{Step, Label, Leads}
use Rattle.b1_step.specs.Rights.{Has}
use Rattle.b1_step.specs.Fixed.{AtMostOneMore}
use Rattle.b1_step.proofs.Lists.{has_left, has_right}
use Rattle.b1_step.proofs.Locality.{step_grows, step_adds}
use Rattle.b1_inv.specs.Words.{IsDriver}
use Rattle.b1_inv_tools.proofs.Leaves.{Did, step_did, new_driver, same_driver}
use Rattle.b1_gen_runs.specs.Sums.{where_true, is_send, sends}
use Rattle.b1_gen_runs.specs.Phases.{IsPlain, IsPlainCall, IsPlainDriver}
use Rattle.b1_gen_runs.specs.States.{AllPlain}

more_has : (old new : List Call) → AtMostOneMore old new → (c : Call) → Has old c → Has new c
more_has old new (inl same) c has = subst (λ l. Has l c) (sym same) has
more_has old new (inr (one, same)) c has = subst (λ l. Has l c) (sym same) (has_left old (one ∷ []) c has)

more_sends : (old new : List Call) → AtMostOneMore old new → sends old ≤ sends new
more_sends old new (inl same) = let k = ap sends same in omega (arith, k)
more_sends old new (inr (one, same)) = let k = ap sends same in let l = sum_by_push (λ (c : Call). where_true (is_send c.command) 1) old one in omega (arith, k, l)

module _ (number p : ℕ) where
  plain_before : (command : Command) → IsPlain number p (as_call command) → IsPlain number p command
  plain_before cmd.Await plain = tt
  plain_before cmd.Recv plain = plain
  plain_before (cmd.Send c) plain = plain
  plain_before (cmd.SliceRelease offset) plain = plain
  plain_before cmd.Disconnect plain = plain
  plain_before cmd.Query plain = plain
  plain_before (cmd.Reset limits) plain = plain
  plain_before (cmd.Limit limits) plain = plain
  plain_before (cmd.Release handle) plain = plain
  plain_before (cmd.Destroy numbers) plain = plain

  awaits : (command : Command) (b : Bool) → (is_await command && b) ≡ true → IsPlain number p command
  awaits cmd.Await b is = tt
  awaits command b is = absurd (cc is)

  ended_plain : (calls : List Call) (command : Command) (got : Answer) (b : Bool) → is_waiting command got ≡ b → ((c : Call) → Has (calls ++ cond b [] (record { command = as_call command; answer = got } ∷ [])) c → IsPlainCall number p c) → IsPlain number p command
  ended_plain calls command got true is plain = awaits command _ is
  ended_plain calls command got false is plain = plain_before command (plain (record { command = as_call command; answer = got }) (has_right calls (record { command = as_call command; answer = got } ∷ []) (record { command = as_call command; answer = got }) (inl refl))).command

  goes_plain : (d : DriverPart) (command : Command) (phase : Phase) (b : Bool) (got : Option Answer) → IsPlainDriver number p (goes_by b got d command phase) → IsPlain number p command
  goes_plain d command phase false got plain = plain.doing (record { command = command; phase = phase }) refl
  goes_plain d command phase true None plain = plain.doing (record { command = command; phase = phase }) refl
  goes_plain d command phase true (Some got) plain = ended_plain d.calls command got (is_waiting command got) refl (λ c has. plain.calls c (has_left (d.calls ++ call_of command got) [] c has))

  turned_plain : (d : DriverPart) (command : Command) (to : Turn) → IsPlainDriver number p (turned d command to) → IsPlain number p command
  turned_plain d command (Goes phase) plain = goes_plain d command phase (is_done d.owed d.told phase) (answer_of command phase) plain
  turned_plain d command (Ends got) plain = goes_plain d command Starting true (Some got) plain

module _ (number : ℕ) {o : Opening} {s : State} {p : ℕ} {command : Option Command} {t : State} (step : Step o s p command t) (plain : AllPlain number t) where
  k : Did o step.local.memory step.driver command step.peer step.action step.at step.new_driver step.new_peer
  k = step_did step

  after : IsPlainDriver number p step.new_driver
  after = plain p step.new_driver (new_driver step)

  pub plain_command : IsPlain number p (step_did step).doing.command
  plain_command = turned_plain number p (with_facts (step_did step).e (step_did step).doing (happens o step.local.memory (step_did step).e (step_did step).doing step.action step.peer).0) (step_did step).doing.command
      (turn (step_did step).e.me (step_did step).doing.command (step_did step).doing.phase (happens o step.local.memory (step_did step).e (step_did step).doing step.action step.peer).0) (subst (IsPlainDriver number p) (step_did step).driver after)

  before : IsPlainDriver number p step.driver
  before = record {
    calls = λ c has. after.calls c (more_has (driver_calls step.driver) (driver_calls step.new_driver) (step_adds step) c has);
    doing = λ doing is. elim (step_did step).opened.from [
      | inl open_is ↦ subst (λ (d : Doing). IsPlain number p d.command) (same_Some (step_did step).doing doing (sym open_is ∙ is)) plain_command
      | inr (none, begins, starts) ↦ absurd (let e : None ≡ Some doing = sym none ∙ is in cc e)
    ];
    few = let l = more_sends step.driver.calls step.new_driver.calls (step_grows step).calls in let m = after.few in omega (arith, l, m);
  }

  pub plain_back : AllPlain number s
  plain_back r d is = elim (cases_eq r p) [
    | inl same ↦
        let is_here : IsDriver s p d = subst (λ q. IsDriver s q d) same is in
        subst (λ q. IsPlainDriver number q d) (sym same) (subst (IsPlainDriver number p) (same_Some step.driver d (sym step.is_driver ∙ is_here)) before)
    | inr apart ↦ plain r d (same_driver step r d apart is)
  ]

pub plain_from : (number : ℕ) (o : Opening) (steps : List Label) (s t : State) → Leads o s steps t → AllPlain number t → AllPlain number s
plain_from number o [] s t same plain = subst (AllPlain number) (sym same) plain
plain_from number o (l ∷ rest) s t run plain = plain_back number run.1 (plain_from number o rest run.0 t run.2 plain)
