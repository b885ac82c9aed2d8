-- A step keeps each driver on its list of commands, and a list that has ended stays at its end.
use Rattle.std.proofs.Common.{◌≡◌, ◌≢◌, ◌⊎◌, sym, ◌∙◌, inl, inr, subst, ℕ, zero, suc, ◌≤◌, Bool, true, false, List, [], ◌∷◌, slice_get, length, Option, Some, None, is_some}
use Rattle.std.proofs.lemmas.Option.{slice_get_past}
use native.Mathlib.Omega.{arith}
use Rattle.b1_model.specs.declared.naming.Opening.{Opening}
use Rattle.b1_model.specs.declared.commands.Command.{Command}
use Rattle.b1_model.specs.declared.events.Outcome.{Outcome}
use Rattle.b1_model.specs.declared.events.Phase.TheVariants.{Starting}
use Rattle.b1_model.specs.Script.{commands_of}
use Rattle.b1_model.specs.MachineParts.{DriverPart, State}
use Rattle.b1_model.specs.MachineDriver.{Turn, turn}
use Rattle.b1_model.specs.MachineTook.{turned, with_facts}
use Rattle.b1_model.specs.MachineEvents.{happens}
use Rattle.b1_model.specs.MachineStep.{Step}
use Rattle.b1_model.specs.MachineOrder.{next_command}
use Rattle.b1_step.proofs.Locality.{step_grows}
use Rattle.b1_inv.specs.Words.{IsDriver}
use Rattle.b1_inv.specs.Sends.{SendsRight}
use Rattle.b1_inv_tools.proofs.Leaves.{Did, step_did, driver_cases}
use Rattle.b1_inv_answers.specs.Answers.{TurnFits}
use Rattle.b1_play_commands.specs.Following.{AllInPlace, asked, Follows, AllFollow, AllEnd}
use Rattle.b1_inv_answers.proofs.Phases.{event_fits}
use Rattle.b1_inv_answers.proofs.Starts.{start_fits}
use Rattle.b1_play_commands.proofs.Calls.{turned_follows}
use Rattle.b1_inv_tools.proofs.Facts.{more_calls}

-- a command may begin: it is the one that is next, and behind the last one the driver isn't shut
pub record MayBegin (commands : List Command) (d : DriverPart) (c : Command) : Type 0 where
  pub command : c ≡ asked (slice_get commands (length d.calls)) d.calls
  pub shut : d.shut ≡ true → is_some (slice_get commands (length d.calls)) ≡ true

module _ {o : Opening} {s : State} {p : ℕ} {command : Option Command} {t : State} (step : Step o s p command t) (sends : SendsRight s) (commands : List Command) (f : Follows commands step.driver) (begins : (c : Command) → command ≡ Some c → MayBegin commands step.driver c) where
  k : Did o step.local.memory step.driver command step.peer step.action step.at step.new_driver step.new_peer
  k = step_did step

  abbrev outcome : Outcome
  outcome = (happens o step.local.memory k.e k.doing step.action step.peer).0

  abbrev to : Turn
  to = turn k.e.me k.doing.command k.doing.phase outcome

  -- the part with its command has the calls of the part before
  by_calls : (shut : Bool) → k.doing.command ≡ asked (slice_get commands (length step.driver.calls)) step.driver.calls → (shut ≡ true → is_some (slice_get commands (length step.driver.calls)) ≡ true) → TurnFits shut k.doing.command to → Follows commands (turned (with_facts k.e k.doing outcome) k.doing.command to)
  by_calls shut same some fits =
      turned_follows commands (with_facts k.e k.doing outcome) k.doing.command (subst (AllInPlace commands) (sym k.opened.calls) f.calls)
      (subst (λ calls. k.doing.command ≡ asked (slice_get commands (length calls)) calls) (sym k.opened.calls) same)
      shut to
      (subst (λ calls. shut ≡ true → is_some (slice_get commands (length calls)) ≡ true) (sym k.opened.calls) some)
      fits

  by_open : step.driver.doing ≡ Some k.doing → Follows commands (turned (with_facts k.e k.doing outcome) k.doing.command to)
  by_open is_open =
      let opened = f.doing k.doing is_open in
      by_calls false opened.command (λ e. absurd (cc e)) (event_fits k.doing.command s k.e.me k.doing.phase outcome (sends.shape p step.driver k.doing step.is_driver is_open) opened.phase)

  by_begin : command ≡ Some k.doing.command → k.doing.phase ≡ Starting → Follows commands (turned (with_facts k.e k.doing outcome) k.doing.command to)
  by_begin begun starts =
      let may = begins k.doing.command begun in
      by_calls k.e.shut may.command (λ is. may.shut (sym k.opened.shut ∙ is))
      (subst (λ action. TurnFits k.e.shut k.doing.command (turn k.e.me k.doing.command k.doing.phase (happens o step.local.memory k.e k.doing action step.peer).0)) (sym k.is_action) (start_fits o step.local.memory k.e k.doing step.peer k.opened.is_open starts))

  new_follows : Follows commands step.new_driver
  new_follows = subst (Follows commands) (sym k.driver) (elim k.opened.from [ inl is_open ↦ by_open is_open | inr (rests, begun, starts) ↦ by_begin begun starts ])

-- ---- all drivers

module _ {o : Opening} {s : State} {p : ℕ} {command : Option Command} {t : State} (step : Step o s p command t) (lists : List (List Command)) where
  pub all_follow : SendsRight s → AllFollow lists s → ((c : Command) → command ≡ Some c → MayBegin (commands_of lists p) step.driver c) → AllFollow lists t
  all_follow sends all begins r d is = at (driver_cases step r d is)
    where
      at : ((r ≡ p) × (d ≡ step.new_driver)) ⊎ ((r ≢ p) × IsDriver s r d) → Follows (commands_of lists r) d
      at (inl here) =
          subst (λ q. Follows (commands_of lists q) d) (sym here.0)
          (subst (Follows (commands_of lists p)) (sym here.1) (new_follows step sends (commands_of lists p) (all p step.driver step.is_driver) begins))
      at (inr other) = all r d other.1

-- ---- a list at its end

past_end : {X : Type 0} (xs : List X) (i : ℕ) → slice_get xs i ≡ None → length xs ≤ i
past_end [] i none = omega arith
past_end (x ∷ xs) zero none = absurd (cc none)
past_end (x ∷ xs) (suc i) none = omega (arith, past_end xs i none)

pub still_past : {X : Type 0} (xs : List X) (i j : ℕ) → i ≤ j → slice_get xs i ≡ None → slice_get xs j ≡ None
still_past xs i j less none = slice_get_past xs j (omega (arith, less, past_end xs i none))

module _ {o : Opening} {s : State} {p : ℕ} {command : Option Command} {t : State} (step : Step o s p command t) (lists : List (List Command)) where
  pub all_end : AllEnd lists s → AllEnd lists t
  all_end ended r d is = at (driver_cases step r d is)
    where
      at : ((r ≡ p) × (d ≡ step.new_driver)) ⊎ ((r ≢ p) × IsDriver s r d) → next_command lists r d ≡ None
      at (inl here) =
          subst (λ q. next_command lists q d ≡ None) (sym here.0)
          (subst (λ e. next_command lists p e ≡ None) (sym here.1)
          (still_past (commands_of lists p) (length step.driver.calls) (length step.new_driver.calls) (more_calls step.driver.calls step.new_driver.calls (step_grows step).calls) (ended p step.driver step.is_driver)))
      at (inr other) = ended r d other.1
