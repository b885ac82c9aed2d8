-- Every step leaves each driver with calls that are answered by their kind, and its open command in a phase of its own.
use Rattle.std.proofs.Common.{◌≡◌, ◌≢◌, ◌⊎◌, refl, sym, inl, inr, subst, ℕ, zero, suc, ◌+◌, Bool, true, false, cond, List, [], ◌∷◌, ◌++◌, slice_get, Option, Some, None, append-nil}
use Rattle.std.proofs.lemmas.Option.{same_Some}
use Rattle.b1_model.specs.declared.naming.Opening.{Opening}
use Rattle.b1_model.specs.declared.answers.Answer.{Answer}
use Rattle.b1_model.specs.declared.commands.Command.{Command}
use Rattle.b1_model.specs.declared.commands.Command.TheVariants as cmd
use Rattle.b1_model.specs.declared.records.Call.{Call}
use Rattle.b1_model.specs.declared.events.Outcome.{Outcome}
use Rattle.b1_model.specs.declared.events.Phase.{Phase}
use Rattle.b1_model.specs.declared.events.Phase.TheVariants.{Starting}
use Rattle.b1_model.specs.declared.answers.Answer.TheVariants as answer
use Rattle.b1_model.specs.Opening.{IsOpening}
use Rattle.b1_model.specs.Script.{is_receipt, ends_await}
use Rattle.b1_model.specs.MachineParts.{DriverPart, State}
use Rattle.b1_model.specs.MachineDriver.{Turn, Goes, Ends, turn}
use Rattle.b1_model.specs.MachineTook.{is_done, answer_of, is_waiting, as_call, call_of, ended, goes_by, turned, with_facts}
use Rattle.b1_model.specs.MachineEvents.{happens}
use Rattle.b1_model.specs.MachineStep.{Label, Leads, Reached, Step, opening_state}
use Rattle.b1_inv.specs.Words.{IsDriver}
use Rattle.b1_inv.specs.Sound.{IsSound}
use Rattle.b1_inv_tools.proofs.Leaves.{Did, step_did, driver_cases}
use Rattle.b1_inv_tools.proofs.Openings.{opening_idle}
use Rattle.b1_law.proofs.Reached.{opening_sound, step_sound}
use Rattle.b1_inv_answers.specs.Answers.{EndsWell, PhaseFits, TurnFits, IsAnswered, AnswersOf, AnswersFit}
use Rattle.b1_inv_answers.proofs.Phases.{answered, event_fits}
use Rattle.b1_inv_answers.proofs.Starts.{start_fits}

-- ---- one call more

abbrev AllAnswered : List Call → Type 0
AllAnswered calls = (k : ℕ) (call : Call) → slice_get calls k ≡ Some call → IsAnswered call

-- a list with one more has it last
more_answered : (calls : List Call) (call : Call) → AllAnswered calls → IsAnswered call → AllAnswered (calls ++ call ∷ [])
more_answered [] call all new zero one is = subst IsAnswered (same_Some call one is) new
more_answered [] call all new (suc k) one is = absurd (cc is)
more_answered (c ∷ cs) call all new zero one is = all zero one is
more_answered (c ∷ cs) call all new (suc k) one is = more_answered cs call (λ j other there. all (suc j) other there) new k one is

-- a receipt, or the end of a driver that is shut, answers a RECV
receipt_answers : (got : Answer) → is_receipt got ≡ true → IsAnswered (record { command = cmd.Recv; answer = got })
receipt_answers (answer.Got receipt) is = (refl, tt)
receipt_answers got is = absurd (cc is)

await_answers : (got : Answer) → ends_await got ≡ true → IsAnswered (record { command = cmd.Recv; answer = got })
await_answers (answer.Got receipt) is = (refl, tt)
await_answers (answer.Refused refused) is = (refl, tt)
await_answers got is = absurd (cc is)

-- an answer that is no call, or one of the command's kind
abbrev Answers : Command → Answer → Type 0
Answers command got = (is_waiting command got ≡ true) ⊎ IsAnswered (record { command = as_call command; answer = got })

well_answered : (shut : Bool) (command : Command) (got : Answer) → EndsWell shut command got → Answers command got
well_answered shut cmd.Await got (inl waits) = inl waits
well_answered shut cmd.Await got (inr (inl receipt)) = inr (receipt_answers got receipt)
well_answered shut cmd.Await got (inr (inr (is, ends))) = inr (await_answers got ends)
well_answered shut cmd.Disconnect got well = inr well
well_answered shut cmd.Query got well = inr well
well_answered shut (cmd.Limit limits) got well = inr well
well_answered shut (cmd.Reset limits) got well = inr well
well_answered shut (cmd.Release number) got well = inr well
well_answered shut (cmd.Destroy numbers) got well = inr well
well_answered shut (cmd.SliceRelease offset) got well = inr well
well_answered shut (cmd.Send send) got well = inr well
well_answered shut cmd.Recv got well = inr well

module _ (calls : List Call) (all : AllAnswered calls) (command : Command) (got : Answer) where
  abbrev last_call : Call
  last_call = record { command = as_call command; answer = got }

  by_waiting : (waits : Bool) → IsAnswered last_call → AllAnswered (calls ++ cond waits [] (last_call ∷ []))
  by_waiting true new = subst AllAnswered (sym (append-nil calls)) all
  by_waiting false new = more_answered calls last_call all new

  end_answered : Answers command got → AllAnswered (calls ++ call_of command got)
  end_answered (inl waits) = subst (λ b. AllAnswered (calls ++ cond b [] (last_call ∷ []))) (sym waits) (subst AllAnswered (sym (append-nil calls)) all)
  end_answered (inr new) = by_waiting (is_waiting command got) new

-- ---- a driver's part after an event

module _ (d : DriverPart) (all : AllAnswered d.calls) (command : Command) where
  ended_answered : (shut : Bool) (got : Answer) → EndsWell shut command got → AnswersOf (ended d command got)
  ended_answered shut got well = record { calls = end_answered d.calls all command got (well_answered shut command got well); phase = λ doing is. absurd (cc is) }

  open_answered : (phase : Phase) → PhaseFits command phase → AnswersOf (record d { doing = Some (record { command = command; phase = phase }) })
  open_answered phase fits = record {
    calls = all;
    phase = λ doing is. subst (λ one. PhaseFits one.command one.phase) (same_Some (record { command = command; phase = phase }) doing is) fits;
  }

  goes_answered : (done : Bool) (got : Option Answer) (phase : Phase) → answer_of command phase ≡ got → PhaseFits command phase → AnswersOf (goes_by done got d command phase)
  goes_answered false got phase is fits = open_answered phase fits
  goes_answered true None phase is fits = open_answered phase fits
  goes_answered true (Some got) phase is fits = ended_answered false got (answered command phase got fits is)

  turned_answered : (shut : Bool) (to : Turn) → TurnFits shut command to → AnswersOf (turned d command to)
  turned_answered shut (Goes phase) fits = goes_answered (is_done d.owed d.told phase) (answer_of command phase) phase refl fits
  turned_answered shut (Ends got) well = ended_answered shut got well

-- ---- a step

module _ {o : Opening} {s : State} {p : ℕ} {command : Option Command} {t : State} (sound : IsSound o s) (all : AnswersFit s) (step : Step o s p command t) where
  k : Did o step.local.memory step.driver command step.peer step.action step.at step.new_driver step.new_peer
  k = step_did step

  abbrev outcome : Outcome
  outcome = (happens o step.local.memory k.e k.doing step.action step.peer).0

  abbrev to : Turn
  to = turn k.e.me k.doing.command k.doing.phase outcome

  before : AnswersOf step.driver
  before = all p step.driver step.is_driver

  by_turn : (shut : Bool) → TurnFits shut k.doing.command to → AnswersOf (turned (with_facts k.e k.doing outcome) k.doing.command to)
  by_turn shut fits = turned_answered (with_facts k.e k.doing outcome) (subst AllAnswered (sym k.opened.calls) before.calls) k.doing.command shut to fits

  by_open : step.driver.doing ≡ Some k.doing → AnswersOf (turned (with_facts k.e k.doing outcome) k.doing.command to)
  by_open is_open = by_turn false (event_fits k.doing.command s k.e.me k.doing.phase outcome (sound.sends.shape p step.driver k.doing step.is_driver is_open) (before.phase k.doing is_open))

  by_begin : k.doing.phase ≡ Starting → AnswersOf (turned (with_facts k.e k.doing outcome) k.doing.command to)
  by_begin starts =
      by_turn k.e.shut
      (subst (λ action. TurnFits k.e.shut k.doing.command (turn k.e.me k.doing.command k.doing.phase (happens o step.local.memory k.e k.doing action step.peer).0)) (sym k.is_action) (start_fits o step.local.memory k.e k.doing step.peer k.opened.is_open starts))

  new_answered : AnswersOf step.new_driver
  new_answered = subst AnswersOf (sym k.driver) (elim k.opened.from [ inl is_open ↦ by_open is_open | inr (rests, begun, starts) ↦ by_begin starts ])

  pub answers_kept : AnswersFit t
  answers_kept r d is = at (driver_cases step r d is)
    where
      at : ((r ≡ p) × (d ≡ step.new_driver)) ⊎ ((r ≢ p) × IsDriver s r d) → AnswersOf d
      at (inl here) = subst AnswersOf (sym here.1) new_answered
      at (inr other) = all r d other.1

-- ---- every reached state

pub answers_begin : (o : Opening) → AnswersFit (opening_state o)
answers_begin o p d is = subst AnswersOf (sym (opening_idle o p d is)) (record { calls = λ k call there. absurd (cc there); phase = λ doing there. absurd (cc there) })

led_answered : (o : Opening) (steps : List Label) (s t : State) → IsSound o s → AnswersFit s → Leads o s steps t → AnswersFit t
led_answered o [] s t sound all same = subst AnswersFit same all
led_answered o (l ∷ rest) s t sound all run = led_answered o rest run.0 t (step_sound o s l.driver l.command run.0 sound run.1) (answers_kept sound all run.1) run.2

pub reached_answered : (o : Opening) (s : State) → IsOpening o → Reached o s → AnswersFit s
reached_answered o s valid r = led_answered o r.steps (opening_state o) s (opening_sound o valid) (answers_begin o) r.run
