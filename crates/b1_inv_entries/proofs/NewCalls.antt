-- The call that a step adds to the record: none, or one of the driver that does it, with the answer that the event's answer fixes.
use Rattle.std.proofs.Common.{◌≡◌, ◌≢◌, ◌⊎◌, refl, sym, ap, subst, ◌∙◌, inl, inr, ℕ, Bool, true, false, cond, List, [], ◌∷◌, ◌++◌, length, Option, Some, None, append-nil}
use Rattle.std.proofs.lemmas.Bool.{cases_eq}
use native.Mathlib.Omega.{arith}
use Rattle.b1_model.specs.declared.commands.Command.{Command}
use Rattle.b1_model.specs.declared.naming.Opening.{Opening}
use Rattle.b1_model.specs.declared.answers.Answer.{Answer}
use Rattle.b1_model.specs.declared.events.Phase.{Phase}
use Rattle.b1_model.specs.declared.records.Call.{Call}
use Rattle.b1_model.specs.Names.{calls_of}
use Rattle.b1_model.specs.MachineParts.{PeerPart, DriverPart, State}
use Rattle.b1_model.specs.MachineDriver.{turn, Turn, Goes, Ends}
use Rattle.b1_model.specs.MachineTook.{answer_of, is_waiting, as_call, call_of, fixed_call, open_by, driver_calls, goes_by, is_done, turned, with_facts}
use Rattle.b1_model.specs.MachineStep.{Step, peer_records, record_of_state}
use Rattle.b1_step.proofs.Locality.{own_driver, other_driver, as_many_drivers, as_many_peers}
use Rattle.b1_inv.specs.Sound.{IsSound}
use Rattle.b1_ledger.specs.Growth.{Appends, Extends}
use Rattle.b1_ledger.proofs.Grows.{extends_of}
use Rattle.b1_inv_notices.proofs.Turns.{parts, going, going_doing, going_answer}
use Rattle.b1_inv_destroys.proofs.Recorded.{calls_by, recorded, as_many}
use Rattle.b1_inv_entries.proofs.Answers.{turn_answer, Fixes, turn_answers}

-- ---- a driver's calls after a turn

module _ (command : Command) where
  goes_calls : (b : Bool) (got : Option Answer) (d : DriverPart) (phase : Phase) → got ≡ answer_of command phase → driver_calls (goes_by b got d command phase) ≡ d.calls ++ fixed_call command (answer_of command phase)
  goes_calls false got d phase is = refl
  goes_calls true None d phase is = refl
  goes_calls true (Some got) d phase is = append-nil (d.calls ++ call_of command got) ∙ ap (λ z. d.calls ++ fixed_call command z) is

  turned_calls : (d : DriverPart) (t : Turn) → driver_calls (turned d command t) ≡ d.calls ++ fixed_call command (turn_answer command t)
  turned_calls d (Goes phase) = goes_calls (is_done d.owed d.told phase) (answer_of command phase) d phase refl
  turned_calls d (Ends got) = append-nil (d.calls ++ call_of command got)

pub records_length : (xs : List PeerPart) (ds : List DriverPart) → length xs ≡ length ds → length (peer_records xs ds) ≡ length xs
records_length [] ds same = refl
records_length (x ∷ xs) [] same = absurd (omega (arith, same))
records_length (x ∷ xs) (d ∷ ds) same = let rest = records_length xs ds (omega (arith, same)) in omega (arith, rest)

-- every peer has the same calls in two states
abbrev pub SameCalls : State → State → Type 0
SameCalls s t = (q : ℕ) → calls_of (record_of_state t) q ≡ calls_of (record_of_state s) q

-- the call that a step adds
pub record NewCall {o : Opening} {s : State} {p : ℕ} {c : Option Command} {t : State} (step : Step o s p c t) : Type 0 where
  pub got : Answer
  pub call : Call
  pub is_call : call ≡ record { command = as_call (parts step).command; answer = got }
  pub counts : is_waiting (parts step).command got ≡ false
  pub appends : Appends (record_of_state s) (record_of_state t) p call
  pub fixes : Fixes (parts step).command (parts step).phase (going_answer step) got
  pub unanswered : answer_of (parts step).command (parts step).phase ≡ None

module _ {o : Opening} {s : State} {p : ℕ} {c : Option Command} {t : State} (sound : IsSound o s) (step : Step o s p c t) where
  -- what the driver had, and what it has
  pub calls_before : driver_calls step.driver ≡ step.driver.calls ++ fixed_call (parts step).command (answer_of (parts step).command (parts step).phase)
  calls_before = elim (parts step).was [
    | inl open_is ↦ ap (λ z. step.driver.calls ++ open_by z) open_is
    | inr new ↦ ap (λ z. step.driver.calls ++ open_by z) new.0 ∙ ap (λ z. step.driver.calls ++ fixed_call (parts step).command (answer_of (parts step).command z)) (sym new.1)
  ]

  abbrev now : Turn
  now = turn step.driver.me (parts step).command (parts step).phase (going_answer step)

  pub calls_after : driver_calls step.new_driver ≡ step.driver.calls ++ fixed_call (parts step).command (turn_answer (parts step).command now)
  calls_after = ap driver_calls (sym (parts step).is_driver) ∙ turned_calls (parts step).command (with_facts (going step) (going_doing step) (going_answer step)) now

  pub as_many_after : length t.peers ≡ length t.drivers
  as_many_after = as_many_peers step ∙ as_many sound step ∙ sym (as_many_drivers step)

  pub own_before : calls_of (record_of_state s) p ≡ driver_calls step.driver
  own_before = recorded s p (as_many sound step) ∙ ap calls_by step.is_driver

  pub own_after : calls_of (record_of_state t) p ≡ driver_calls step.new_driver
  own_after = recorded t p as_many_after ∙ ap calls_by (own_driver step)

  -- the calls of other peers stay
  pub other_calls : (q : ℕ) → q ≢ p → calls_of (record_of_state t) q ≡ calls_of (record_of_state s) q
  other_calls q apart = recorded t q as_many_after ∙ ap calls_by (other_driver step q apart) ∙ sym (recorded s q (as_many sound step))

  pub as_many_records : length (record_of_state t).peers ≡ length (record_of_state s).peers
  as_many_records = records_length t.peers t.drivers as_many_after ∙ as_many_peers step ∙ sym (records_length s.peers s.drivers (as_many sound step))

  all_same : calls_of (record_of_state t) p ≡ calls_of (record_of_state s) p → SameCalls s t
  all_same here q = elim (cases_eq q p) [
    | inl is ↦ subst (λ r. calls_of (record_of_state t) r ≡ calls_of (record_of_state s) r) (sym is) here
    | inr apart ↦ other_calls q apart
  ]

  same_answer : turn_answer (parts step).command now ≡ answer_of (parts step).command (parts step).phase → SameCalls s t
  same_answer same = all_same (own_after ∙ calls_after ∙ ap (λ z. step.driver.calls ++ fixed_call (parts step).command z) same ∙ sym calls_before ∙ sym own_before)

  none_before : answer_of (parts step).command (parts step).phase ≡ None → calls_of (record_of_state s) p ≡ step.driver.calls
  none_before none = own_before ∙ calls_before ∙ ap (λ z. step.driver.calls ++ fixed_call (parts step).command z) none ∙ append-nil step.driver.calls

  by_waiting : (b : Bool) (got : Answer) → is_waiting (parts step).command got ≡ b → answer_of (parts step).command (parts step).phase ≡ None → turn_answer (parts step).command now ≡ Some got
      → Fixes (parts step).command (parts step).phase (going_answer step) got → SameCalls s t ⊎ NewCall step
  by_waiting true got waits none is fixes =
      inl (all_same (own_after ∙ calls_after ∙ ap (λ z. step.driver.calls ++ fixed_call (parts step).command z) is
      ∙ ap (λ b. step.driver.calls ++ cond b [] (record { command = as_call (parts step).command; answer = got } ∷ [])) waits ∙ append-nil step.driver.calls ∙ sym (none_before none)))
  by_waiting false got waits none is fixes =
      inr (record {
        got = got;
        call = record { command = as_call (parts step).command; answer = got };
        is_call = refl;
        counts = waits;
        appends = record {
          peers = as_many_records;
          here = own_after ∙ calls_after ∙ ap (λ z. step.driver.calls ++ fixed_call (parts step).command z) is
              ∙ ap (λ b. step.driver.calls ++ cond b [] (record { command = as_call (parts step).command; answer = got } ∷ [])) waits
              ∙ ap (λ calls. calls ++ record { command = as_call (parts step).command; answer = got } ∷ []) (sym (none_before none));
          there = other_calls;
        };
        fixes = fixes;
        unanswered = none;
      })

  -- a step adds no call, or one of the driver that does it
  pub new_call : SameCalls s t ⊎ NewCall step
  new_call = elim (turn_answers (parts step).command step.driver.me (parts step).phase (going_answer step)) [
    | inl same ↦ inl (same_answer same)
    | inr (none, (got, is, fixes)) ↦ by_waiting (is_waiting (parts step).command got) got refl none is fixes
  ]

  -- the record grows
  pub record_extends : Extends (record_of_state s) (record_of_state t)
  record_extends = elim new_call [
    | inl same ↦ record { peers = as_many_records; grows = λ q. ([], same q ∙ sym (append-nil (calls_of (record_of_state s) q))) }
    | inr new ↦ extends_of (record_of_state s) (record_of_state t) p new.call new.appends
  ]
