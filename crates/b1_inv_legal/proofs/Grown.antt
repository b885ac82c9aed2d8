-- The record behind a step: the same calls, or one more of the step's driver.
use Rattle.std.proofs.Common.{◌≡◌, ◌≢◌, refl, sym, ap, subst, ◌∙◌, inl, inr, ℕ, suc, ◌+◌, Bool, true, false, cond, List, [], ◌∷◌, ◌++◌, length, Option, Some, None, append-nil}
use Rattle.std.proofs.lemmas.Bool.{cases_eq}
use native.Mathlib.Omega.{arith}
use Rattle.b1_model.specs.declared.commands.Command.{Command}
use Rattle.b1_model.specs.declared.naming.Opening.{Opening}
use Rattle.b1_model.specs.declared.answers.Answer.{Answer}
use Rattle.b1_model.specs.declared.answers.Answer.TheVariants as answer
use Rattle.b1_model.specs.declared.answers.Refused.{Refused}
use Rattle.b1_model.specs.declared.events.Destruction.{Destruction}
use Rattle.b1_model.specs.declared.events.Outcome.{Outcome}
use Rattle.b1_model.specs.declared.events.Outcome.TheVariants as out
use Rattle.b1_model.specs.declared.events.Phase.{Phase}
use Rattle.b1_model.specs.declared.events.Phase.TheVariants.{Starting, Staging, Unstaging, Attaching, Stamping, Syncing, Committing, Visiting, Dooming, SyncingNotices, CommittingOwn, CommittingNotices, Flushing}
use Rattle.b1_model.specs.declared.events.Sending.{Sending}
use Rattle.b1_model.specs.declared.records.Call.{Call}
use Rattle.b1_model.specs.Names.{calls_of}
use Rattle.b1_model.specs.Legal.{Legal}
use Rattle.b1_model.specs.MachineParts.{PeerPart, DriverPart, State}
use Rattle.b1_model.specs.MachineDriver.{is_place, accepted_from, is_flushing, Turn, Goes, Ends, turn}
use Rattle.b1_model.specs.MachineTook.{is_waiting, as_call, call_of, goes_by, is_done, answer_of, stamped_answer, sent_answer, turned, with_facts, fixed_call, open_by, driver_calls}
use Rattle.b1_model.specs.MachineStep.{Step, peer_records, record_of_state}
use Rattle.b1_step.proofs.Locality.{own_driver, other_driver, as_many_drivers, as_many_peers}
use Rattle.b1_inv.specs.Sound.{IsSound}
use Rattle.b1_ledger.specs.Growth.{Appends}
use Rattle.b1_inv_notices.proofs.Turns.{doing_in, opened, parts, going_answer}
use Rattle.b1_inv_destroys.proofs.Recorded.{calls_by, recorded, as_many}
use Rattle.b1_inv_legal.proofs.Same.{same_legal}
use Rattle.b1_inv_legal.proofs.Fixes.{fixed_after}

-- ---- an answer that is fixed stays

module _ (command : Command) where
  at_unstaging : (b : Bool) (unstages : Phase) (refused : Refused) → answer_of command unstages ≡ Some (answer.Refused refused) → fixed_after command (cond b (Goes unstages) (Ends (answer.Refused refused))) ≡ Some (answer.Refused refused)
  at_unstaging true unstages refused is = is
  at_unstaging false unstages refused is = refl

  at_syncing : (b : Bool) (sending : Sending) (stamp place first : ℕ) → answer_of command (cond b (Syncing sending stamp place) (Committing sending stamp first)) ≡ Some (sent_answer sending stamp)
  at_syncing true sending stamp place first = refl
  at_syncing false sending stamp place first = refl

  at_notices : (b : Bool) (destruction : Destruction) (stamp at : ℕ) → answer_of command (cond b (SyncingNotices destruction stamp at) (CommittingOwn destruction stamp)) ≡ Some (stamped_answer command stamp)
  at_notices true destruction stamp at = refl
  at_notices false destruction stamp at = refl

  at_commits : (b c : Bool) (destruction : Destruction) (stamp at : ℕ) → c ≡ is_flushing command → fixed_after command (cond b (Goes (CommittingNotices destruction stamp at)) (cond c (Goes (Flushing (Some stamp))) (Ends (answer.Destroyed stamp)))) ≡ Some (stamped_answer command stamp)
  at_commits true c destruction stamp at is = refl
  at_commits false true destruction stamp at is = ap (λ b. Some (cond b (answer.Reset (Some stamp)) (answer.Destroyed stamp))) is
  at_commits false false destruction stamp at is = ap (λ b. Some (cond b (answer.Reset (Some stamp)) (answer.Destroyed stamp))) is

  stays_fixed : (me : ℕ) (phase : Phase) (outcome : Outcome) (got : Answer) → answer_of command phase ≡ Some got → fixed_after command (turn me command phase outcome) ≡ Some got
  stays_fixed me Starting outcome got is = absurd (cc is)
  stays_fixed me (Staging begun places collected) outcome got is = absurd (cc is)
  stays_fixed me (Attaching sending place slot) outcome got is = absurd (cc is)
  stays_fixed me (Stamping sending) outcome got is = absurd (cc is)
  stays_fixed me (Visiting destruction left) outcome got is = absurd (cc is)
  stays_fixed me (Dooming destruction) outcome got is = absurd (cc is)
  stays_fixed me (Unstaging begun places refused place) out.Unstage got is = at_unstaging (is_place (accepted_from (place + 1) places) places) (Unstaging begun places refused _) refused refl ∙ is
  stays_fixed me (Syncing sending stamp place) out.Sync got is = at_syncing (is_place (accepted_from (place + 1) sending.places) sending.places) sending stamp _ _ ∙ is
  stays_fixed me (Committing sending stamp place) (out.Commit found) got is = is
  stays_fixed me (SyncingNotices destruction stamp at) out.Sync got is = at_notices _ destruction stamp _ ∙ is
  stays_fixed me (CommittingOwn destruction stamp) out.CommitNotices got is = at_commits _ (is_flushing command) destruction stamp _ refl ∙ is
  stays_fixed me (CommittingNotices destruction stamp at) out.CommitNotices got is = at_commits _ (is_flushing command) destruction stamp _ refl ∙ is
  stays_fixed me (Flushing stamp) (out.Flush dead) got is = is
  stays_fixed me phase outcome got is = is

  -- the calls after a turn are those before it, and the call that is then fixed
  after_goes : (b : Bool) (got : Option Answer) (d : DriverPart) (phase : Phase) → got ≡ answer_of command phase → driver_calls (goes_by b got d command phase) ≡ d.calls ++ fixed_call command got
  after_goes false got d phase is = ap (λ a. d.calls ++ fixed_call command a) (sym is)
  after_goes true None d phase is = ap (λ a. d.calls ++ fixed_call command a) (sym is)
  after_goes true (Some got) d phase is = append-nil (d.calls ++ call_of command got)

  after_turn : (d : DriverPart) (t : Turn) → driver_calls (turned d command t) ≡ d.calls ++ fixed_call command (fixed_after command t)
  after_turn d (Goes phase) = after_goes (is_done d.owed d.told phase) (answer_of command phase) d phase refl
  after_turn d (Ends got) = append-nil (d.calls ++ call_of command got)

-- ---- a step

-- there are as many recorded peers as parts
pub records_length : (xs : List PeerPart) (ds : List DriverPart) → length xs ≡ length ds → length (peer_records xs ds) ≡ length xs
records_length [] ds same = refl
records_length (x ∷ xs) [] same = absurd (omega (arith, same))
records_length (x ∷ xs) (d ∷ ds) same = ap suc (records_length xs ds (omega (arith, same)))

module _ {o : Opening} {s : State} {p : ℕ} {c : Option Command} {t : State} (sound : IsSound o s) (step : Step o s p c t) where
  -- the answer that stands fixed after the step
  abbrev pub now_fixed : Option Answer
  now_fixed = fixed_after (parts step).command (turn step.driver.me (parts step).command (parts step).phase (going_answer step))

  calls_before : driver_calls step.driver ≡ step.driver.calls ++ fixed_call (parts step).command (answer_of (parts step).command (parts step).phase)
  calls_before = elim (parts step).was [
    | inl open_is ↦ ap (λ doing. step.driver.calls ++ open_by doing) open_is
    | inr new ↦ ap (λ doing. step.driver.calls ++ open_by doing) new.0 ∙ ap (λ phase. step.driver.calls ++ fixed_call (parts step).command (answer_of (parts step).command phase)) (sym new.1)
  ]

  calls_after : driver_calls step.new_driver ≡ step.driver.calls ++ fixed_call (parts step).command now_fixed
  calls_after = ap driver_calls (sym (parts step).is_driver)
      ∙ after_turn (parts step).command (with_facts (opened step.driver (parts step).command (parts step).phase step.driver.owed) (doing_in (parts step).command (parts step).phase) (going_answer step)) (turn step.driver.me (parts step).command (parts step).phase (going_answer step))

  as_many_after : length t.peers ≡ length t.drivers
  as_many_after = as_many_peers step ∙ as_many sound step ∙ sym (as_many_drivers step)

  -- the record has as many peers after the step
  pub same_length : length (record_of_state t).peers ≡ length (record_of_state s).peers
  same_length = records_length t.peers t.drivers as_many_after ∙ as_many_peers step ∙ sym (records_length s.peers s.drivers (as_many sound step))

  -- the calls of other peers stay
  pub other_calls : (q : ℕ) → q ≢ p → calls_of (record_of_state t) q ≡ calls_of (record_of_state s) q
  other_calls q apart = recorded t q as_many_after ∙ ap calls_by (other_driver step q apart) ∙ sym (recorded s q (as_many sound step))

  -- the recorded calls of the step's driver, before it
  pub own_before : calls_of (record_of_state s) p ≡ driver_calls step.driver
  own_before = recorded s p (as_many sound step) ∙ ap calls_by step.is_driver

  own_after : calls_of (record_of_state t) p ≡ driver_calls step.new_driver
  own_after = recorded t p as_many_after ∙ ap calls_by (own_driver step)

  -- no call more
  unchanged : driver_calls step.new_driver ≡ driver_calls step.driver → (q : ℕ) → calls_of (record_of_state t) q ≡ calls_of (record_of_state s) q
  unchanged same q = elim (cases_eq q p) [
    | inl here ↦ subst (λ r. calls_of (record_of_state t) r ≡ calls_of (record_of_state s) r) (sym here) (own_after ∙ same ∙ sym own_before)
    | inr apart ↦ other_calls q apart
  ]

  -- one call more
  appended : (one : Call) → driver_calls step.new_driver ≡ driver_calls step.driver ++ one ∷ [] → Appends (record_of_state s) (record_of_state t) p one
  appended one more = record {
    peers = same_length;
    here = own_after ∙ more ∙ ap (λ calls. calls ++ one ∷ []) (sym own_before);
    there = other_calls;
  }

  -- the call that a fixed answer makes
  abbrev pub call_with : Answer → Call
  call_with got = record { command = as_call (parts step).command; answer = got }

  -- a step adds no call to the record, or the one whose answer it fixes
  pub legal_by : Legal o (record_of_state s)
      → ((got : Answer) → answer_of (parts step).command (parts step).phase ≡ None → now_fixed ≡ Some got → Appends (record_of_state s) (record_of_state t) p (call_with got) → Legal o (record_of_state t))
      → Legal o (record_of_state t)
  legal_by legal adds = by_before (answer_of (parts step).command (parts step).phase) refl
    where
      stays : driver_calls step.new_driver ≡ driver_calls step.driver → Legal o (record_of_state t)
      stays same = same_legal o (record_of_state s) (record_of_state t) same_length (unchanged same) legal

      by_waiting : (got : Answer) → answer_of (parts step).command (parts step).phase ≡ None → now_fixed ≡ Some got → (b : Bool) → is_waiting (parts step).command got ≡ b → Legal o (record_of_state t)
      by_waiting got none fixed true waits =
          stays (calls_after ∙ ap (λ a. step.driver.calls ++ fixed_call (parts step).command a) fixed ∙ ap (λ b. step.driver.calls ++ cond b [] (call_with got ∷ [])) waits ∙ sym (calls_before ∙ ap (λ a. step.driver.calls ++ fixed_call (parts step).command a) none))
      by_waiting got none fixed false goes =
          adds got none fixed (appended (call_with got)
          (calls_after ∙ ap (λ a. step.driver.calls ++ fixed_call (parts step).command a) fixed ∙ ap (λ b. step.driver.calls ++ cond b [] (call_with got ∷ [])) goes
          ∙ ap (λ calls. calls ++ call_with got ∷ []) (sym (calls_before ∙ ap (λ a. step.driver.calls ++ fixed_call (parts step).command a) none ∙ append-nil step.driver.calls))))

      by_after : answer_of (parts step).command (parts step).phase ≡ None → (after : Option Answer) → now_fixed ≡ after → Legal o (record_of_state t)
      by_after none None fixed = stays (calls_after ∙ ap (λ a. step.driver.calls ++ fixed_call (parts step).command a) (fixed ∙ sym none) ∙ sym calls_before)
      by_after none (Some got) fixed = by_waiting got none fixed (is_waiting (parts step).command got) refl

      by_before : (before : Option Answer) → answer_of (parts step).command (parts step).phase ≡ before → Legal o (record_of_state t)
      by_before (Some got) fixed =
          stays (calls_after
          ∙ ap (λ a. step.driver.calls ++ fixed_call (parts step).command a) (stays_fixed (parts step).command step.driver.me (parts step).phase (going_answer step) got fixed ∙ sym fixed)
          ∙ sym calls_before)
      by_before None none = by_after none now_fixed refl
