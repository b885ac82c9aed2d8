-- The calls of a driver stay in their places where its open command ends.
use Rattle.std.proofs.Common.{◌≡◌, ◌⊎◌, refl, sym, ap, inl, inr, subst, ℕ, zero, suc, ◌<◌, Bool, true, false, cond, List, [], ◌∷◌, ◌++◌, take, slice_get, length, Option, Some, None, is_some, append-nil}
use Rattle.std.proofs.lemmas.List.{take_at, take-append-le}
use Rattle.std.proofs.lemmas.Option.{same_Some}
use native.Mathlib.Omega.{arith}
use Rattle.b1_model.specs.declared.answers.Answer.{Answer}
use Rattle.b1_model.specs.declared.answers.Answer.TheVariants as answer
use Rattle.b1_model.specs.declared.commands.Command.{Command}
use Rattle.b1_model.specs.declared.commands.Command.TheVariants as cmd
use Rattle.b1_model.specs.declared.records.Call.{Call}
use Rattle.b1_model.specs.declared.events.Doing.{Doing}
use Rattle.b1_model.specs.declared.events.Phase.{Phase}
use Rattle.b1_model.specs.Script.{resolved, ends_await, is_receipt, IsInPlace}
use Rattle.b1_model.specs.MachineParts.{DriverPart}
use Rattle.b1_model.specs.MachineDriver.{Turn, Goes, Ends}
use Rattle.b1_model.specs.MachineTook.{is_done, answer_of, is_waiting, as_call, call_of, ended, goes_by, turned, fixed_call, open_by, driver_calls}
use Rattle.b1_inv_answers.specs.Answers.{EndsWell, PhaseFits, TurnFits}
use Rattle.b1_play_commands.specs.Following.{AllInPlace, asked, IsOpen, Follows}
use Rattle.b1_inv_answers.proofs.Phases.{answered}

-- ---- one call more

last_cases : {X : Type 0} (xs : List X) (x : X) (k : ℕ) (y : X) → slice_get (xs ++ x ∷ []) k ≡ Some y → ((k < length xs) × (slice_get xs k ≡ Some y)) ⊎ ((k ≡ length xs) × (y ≡ x))
last_cases [] x zero y is = inr (refl, sym (same_Some x y is))
last_cases [] x (suc k) y is = absurd (cc is)
last_cases (z ∷ xs) x zero y is = inl (omega arith, is)
last_cases (z ∷ xs) x (suc k) y is = elim (last_cases xs x k y is) [ inl old ↦ inl (omega (arith, old.0), old.1) | inr new ↦ inr (ap suc new.0, new.1) ]

module _ (commands : List Command) (calls : List Call) where
  abbrev Stands : ℕ → List Call → Call → Type 0
  Stands k before call = IsInPlace before (slice_get commands k) (Some call)

  module _ (call : Call) where
    added_at : AllInPlace commands calls → Stands (length calls) calls call → (k : ℕ) (one : Call) → ((k < length calls) × (slice_get calls k ≡ Some one)) ⊎ ((k ≡ length calls) × (one ≡ call)) → Stands k (take k (calls ++ call ∷ [])) one
    added_at all new k one (inl old) = subst (λ before. Stands k before one) (sym (take-append-le k calls (call ∷ []) (omega (arith, old.0)))) (all k one old.1)
    added_at all new k one (inr (last, same)) =
        subst (λ before. Stands k before one) (sym (take_at calls (call ∷ []) k (sym last)))
        (subst (λ n. Stands n calls one) (sym last) (subst (Stands (length calls) calls) (sym same) new))

    pub added : AllInPlace commands calls → Stands (length calls) calls call → AllInPlace commands (calls ++ call ∷ [])
    added all new k one is = added_at all new k one (last_cases calls call k one is)

  -- an answer that is no call, or a call in its place
  abbrev Placed : Command → Answer → Type 0
  Placed command got = (is_waiting command got ≡ true) ⊎ Stands (length calls) calls (record { command = as_call command; answer = got })

  ended_by : (command : Command) (got : Answer) (b : Bool) → AllInPlace commands calls → Stands (length calls) calls (record { command = as_call command; answer = got }) → AllInPlace commands (calls ++ cond b [] (record { command = as_call command; answer = got } ∷ []))
  ended_by command got true all new = subst (AllInPlace commands) (sym (append-nil calls)) all
  ended_by command got false all new = added (record { command = as_call command; answer = got }) all new

  pub all_ended : (command : Command) (got : Answer) → AllInPlace commands calls → Placed command got → AllInPlace commands (calls ++ call_of command got)
  all_ended command got all (inl waits) = subst (λ b. AllInPlace commands (calls ++ cond b [] (record { command = as_call command; answer = got } ∷ []))) (sym waits) (subst (AllInPlace commands) (sym (append-nil calls)) all)
  all_ended command got all (inr new) = ended_by command got (is_waiting command got) all new

-- ---- the answer of the command that is next

receipt_ends : (got : Answer) → is_receipt got ≡ true → ends_await got ≡ true
receipt_ends (answer.Got receipt) is = refl
receipt_ends got is = absurd (cc is)

module _ (calls : List Call) (got : Answer) (shut : Bool) where
  abbrev PlacedAs : Option Command → Command → Type 0
  PlacedAs next command = (is_waiting command got ≡ true) ⊎ IsInPlace calls next (Some (record { command = as_call command; answer = got }))

  by_command : (c : Command) → EndsWell shut (resolved c calls) got → PlacedAs (Some c) (resolved c calls)
  by_command cmd.Await (inl waits) = inl waits
  by_command cmd.Await (inr (inl receipt)) = inr (refl, receipt_ends got receipt)
  by_command cmd.Await (inr (inr (is, ends))) = inr (refl, ends)
  by_command cmd.Disconnect well = inr (refl, well.0, well.1)
  by_command cmd.Query well = inr (refl, well.0, well.1)
  by_command (cmd.Limit limits) well = inr (refl, well.0, well.1)
  by_command (cmd.Reset limits) well = inr (refl, well.0, well.1)
  by_command (cmd.Release number) well = inr (refl, well.0, well.1)
  by_command (cmd.Destroy numbers) well = inr (refl, well.0, well.1)
  by_command (cmd.SliceRelease offset) well = inr (refl, well.0, well.1)
  by_command (cmd.Send c) well = inr (refl, well.0, well.1)
  by_command cmd.Recv well = inr (refl, well.0, well.1)

  by_drain : (shut ≡ true → ⊥) → EndsWell shut cmd.Await got → PlacedAs None cmd.Await
  by_drain not_shut (inl waits) = inl waits
  by_drain not_shut (inr (inl receipt)) = inr (refl, receipt)
  by_drain not_shut (inr (inr (is, ends))) = absurd (not_shut is)

  -- behind the last command the driver isn't shut
  pub placed : (next : Option Command) (command : Command) → command ≡ asked next calls → (shut ≡ true → is_some next ≡ true) → EndsWell shut command got → PlacedAs next command
  placed None command same some well = subst (PlacedAs None) (sym same) (by_drain (λ is. cc (some is)) (subst (λ c. EndsWell shut c got) same well))
  placed (Some c) command same some well = subst (PlacedAs (Some c)) (sym same) (by_command c (subst (λ z. EndsWell shut z got) same well))

-- ---- a driver's part after an event

module _ (commands : List Command) (d : DriverPart) (command : Command) (all : AllInPlace commands d.calls) (same : command ≡ asked (slice_get commands (length d.calls)) d.calls) where
  ends_placed : (shut : Bool) (got : Answer) → (shut ≡ true → is_some (slice_get commands (length d.calls)) ≡ true) → EndsWell shut command got → AllInPlace commands (d.calls ++ call_of command got)
  ends_placed shut got some well = all_ended commands d.calls command got all (placed d.calls got shut (slice_get commands (length d.calls)) command same some well)

  ended_follows : (shut : Bool) (got : Answer) → (shut ≡ true → is_some (slice_get commands (length d.calls)) ≡ true) → EndsWell shut command got → Follows commands (ended d command got)
  ended_follows shut got some well = record { calls = ends_placed shut got some well; doing = λ doing is. absurd (cc is) }

  open_follows : (phase : Phase) → PhaseFits command phase → (doing : Doing) → ◌≡◌ {A = Option Doing} (Some (record { command = command; phase = phase })) (Some doing) → IsOpen commands d.calls doing
  open_follows phase fits doing is = subst (IsOpen commands d.calls) (same_Some (record { command = command; phase = phase }) doing is) (record { command = same; phase = fits })

  goes_follows : (b : Bool) (got : Option Answer) (phase : Phase) → answer_of command phase ≡ got → PhaseFits command phase → Follows commands (goes_by b got d command phase)
  goes_follows false got phase is fits = record { calls = all; doing = open_follows phase fits }
  goes_follows true None phase is fits = record { calls = all; doing = open_follows phase fits }
  goes_follows true (Some got) phase is fits = ended_follows false got (λ e. absurd (cc e)) (answered command phase got fits is)

  pub turned_follows : (shut : Bool) (to : Turn) → (shut ≡ true → is_some (slice_get commands (length d.calls)) ≡ true) → TurnFits shut command to → Follows commands (turned d command to)
  turned_follows shut (Goes phase) some fits = goes_follows (is_done d.owed d.told phase) (answer_of command phase) phase refl fits
  turned_follows shut (Ends got) some well = ended_follows shut got some well

  fixed_placed : (phase : Phase) (got : Option Answer) → answer_of command phase ≡ got → PhaseFits command phase → AllInPlace commands (d.calls ++ fixed_call command got)
  fixed_placed phase None is fits = subst (AllInPlace commands) (sym (append-nil d.calls)) all
  fixed_placed phase (Some got) is fits = ends_placed false got (λ e. absurd (cc e)) (answered command phase got fits is)

-- the calls that stand in the record for a driver, the open one too where its answer is fixed
calls_by : (commands : List Command) (d : DriverPart) (doing : Option Doing) → d.doing ≡ doing → Follows commands d → AllInPlace commands (d.calls ++ open_by doing)
calls_by commands d None is f = subst (AllInPlace commands) (sym (append-nil d.calls)) f.calls
calls_by commands d (Some doing) is f = let opened = f.doing doing is in fixed_placed commands d doing.command f.calls opened.command doing.phase (answer_of doing.command doing.phase) refl opened.phase

pub driver_follows : (commands : List Command) (d : DriverPart) → Follows commands d → AllInPlace commands (driver_calls d)
driver_follows commands d f = calls_by commands d d.doing refl f
