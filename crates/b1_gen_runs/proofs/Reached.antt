-- Every state that a run of a generated script leads to is well, and its SENDs were sent to all.
use Rattle.std.proofs.Common.{◌≡◌, inl, inr, refl, sym, ap, subst, ℕ, zero, suc, ◌+◌, ◌*◌, true, false, List, [], ◌∷◌, sum_by, Option, Some, None}
use Rattle.std.specs.Prelude.{slice_get}
use Rattle.std.proofs.lemmas.List.Sums.{sum_by-cons}
use native.Mathlib.Omega.{arith}
use Rattle.b1_model.specs.declared.naming.PeerSpec.{PeerSpec}
use Rattle.b1_model.specs.declared.commands.Command.{Command}
use Rattle.b1_model.specs.declared.commands.Command.TheVariants as cmd
use Rattle.b1_model.specs.declared.answers.Answer.{Answer}
use Rattle.b1_model.specs.declared.answers.Answer.TheVariants as answer
use Rattle.b1_model.specs.declared.records.Call.{Call}
use Rattle.b1_model.specs.declared.events.Doing.{Doing}
use Rattle.b1_model.specs.declared.events.Phase.{Phase}
use Rattle.b1_model.specs.declared.events.Phase.TheVariants.{Staging, Stamping, Syncing, Committing}
use Rattle.b1_model.specs.Names.{calls_in, calls_of}
use Rattle.b1_model.specs.Opening.{IsOpening}
use Rattle.b1_model.specs.Script.{fits, HasPlaces}
use Rattle.b1_model.specs.MachineParts.{PeerPart, DriverPart, State}
use Rattle.b1_model.specs.MachineDriver.{send_of}
use Rattle.b1_model.specs.MachineTook.{answer_of, fixed_call, open_by, driver_calls}
use Rattle.b1_model.specs.MachineStep.{Label, Leads, opening_state, idle_driver, idle_drivers, peer_records, record_of_state}
use Rattle.b1_step.specs.Rights.{Has}
use Rattle.b1_step.proofs.Lists.{has_append, has_at}
use Rattle.b1_inv.specs.Words.{IsDriver}
use Rattle.b1_inv.specs.Sound.{IsSound}
use Rattle.b1_inv_tools.proofs.Openings.{opening_idle}
use Rattle.b1_inv_record.specs.Right.{PartsRight}
use Rattle.b1_inv_parts.proofs.Kept.{parts_begin, parts_kept}
use Rattle.b1_inv_answers.specs.Answers.{PhaseFits, AnswersOf}
use Rattle.b1_inv_answers.proofs.Phases.{answered}
use Rattle.b1_inv_answers.proofs.Answered.{reached_answered}
use Rattle.b1_law.proofs.Reached.{opening_sound, step_sound, reached_sound}
use Rattle.b1_gen.specs.Generated.{peer_count, opening_of}
use Rattle.b1_gen.proofs.Opens.{is_opening}
use Rattle.b1_gen_runs.specs.Sums.{sent, queued_one, got, all_stamps}
use Rattle.b1_gen_runs.specs.Phases.{IsPlain, IsPlainDriver, IsGoing, IsGood, GoesWell}
use Rattle.b1_gen_runs.specs.States.{AllPlain, RunsWell}
use Rattle.b1_gen_runs.specs.Runs.{IsRun, IsSentToAll}
use Rattle.b1_gen_runs.proofs.Openings.{stands, fresh}
use Rattle.b1_gen_runs.proofs.Back.{plain_back, plain_from}
use Rattle.b1_gen_runs.proofs.Steps.{well_kept}
use Rattle.b1_gen_runs.proofs.Scripted.{run_plain, has_place}
use Rattle.b1_gen_runs.proofs.Locals.{going_sends}

-- ---- the opening

pub valid : (number : ℕ) → IsOpening (opening_of (peer_count number))
valid number = is_opening (peer_count number) (omega arith) (omega arith)

idle_sum : (f : DriverPart → ℕ) → ((me : ℕ) → f (idle_driver me) ≡ 0) → (me : ℕ) (specs : List PeerSpec) → sum_by f (idle_drivers me specs) ≡ 0
idle_sum f none me [] = refl
idle_sum f none me (spec ∷ rest) =
    let k = sum_by-cons f (idle_driver me) (idle_drivers (me + 1) rest) in
    let l = none me in
    let m = idle_sum f none (me + 1) rest in
    omega (arith, k, l, m)

well_opening : (number : ℕ) → RunsWell number (opening_state (opening_of (peer_count number)))
well_opening number = record {
  stands = λ q x is. stands number q x is;
  plain = λ q x is. record {
    queue = λ f has. absurd (subst (λ l. Has l f) (fresh number q x is).queue has);
    slices = λ t has. inl ((fresh number q x is).slices t has);
  };
  pieces = λ q x is. let k = (fresh number q x is).pieces in omega (arith, k);
  clocks = λ q x is. let k = (fresh number q x is).clock in omega (arith, k);
  drivers = λ p d is. subst (GoesWell (2 * all_stamps (opening_state (opening_of (peer_count number))))) (sym (opening_idle (opening_of (peer_count number)) p d is)) (record { shut = refl; owed = refl; told = refl; calls = λ c has. absurd has; going = λ doing open_is. absurd (cc open_is) });
  balance = λ w q x d is is_driver.
      let a = ap (sum_by (queued_one w)) (fresh number q x is).queue in
      let b = ap (got w) (opening_idle (opening_of (peer_count number)) q d is_driver) in
      let c = idle_sum (sent w q) (λ me. refl) 0 (opening_of (peer_count number)).peers in
      omega (arith, a, b, c);
}

-- ---- every list of steps

led_well : (number : ℕ) (steps : List Label) (s t : State) → Leads (opening_of (peer_count number)) s steps t → IsSound (opening_of (peer_count number)) s → PartsRight s → RunsWell number s → AllPlain number t → RunsWell number t
led_well number [] s t same sound right well plain = subst (RunsWell number) same well
led_well number (l ∷ rest) s t run sound right well plain =
    let middle_plain = plain_from number (opening_of (peer_count number)) rest run.0 t run.2 plain in
    led_well number rest run.0 t run.2 (step_sound (opening_of (peer_count number)) s l.driver l.command run.0 sound run.1) (parts_kept (opening_of (peer_count number)) s l.driver l.command run.0 sound right run.1)
    (well_kept number run.1 sound right.pool well (plain_back number run.1 middle_plain) middle_plain) plain

module _ (number : ℕ) (s : State) (run : IsRun number s) where
  pub run_sound : IsSound (opening_of (peer_count number)) s
  run_sound = reached_sound (opening_of (peer_count number)) s (valid number) run.reached

  pub run_well : RunsWell number s
  run_well =
      led_well number run.reached.steps (opening_state (opening_of (peer_count number))) s run.reached.run (opening_sound (opening_of (peer_count number)) (valid number)) (parts_begin (opening_of (peer_count number)) (valid number))
      (well_opening number) (run_plain number s run_sound run)

-- ---- the calls of a record

recorded_has : (xs : List PeerPart) (ds : List DriverPart) (p k : ℕ) (c : Call) → slice_get (calls_in (slice_get (peer_records xs ds) p)) k ≡ Some c → (d : DriverPart) × (slice_get ds p ≡ Some d) × (slice_get (driver_calls d) k ≡ Some c)
recorded_has [] ds p k c is = absurd (cc is)
recorded_has (x ∷ xs) [] p k c is = absurd (cc is)
recorded_has (x ∷ xs) (d ∷ ds) zero k c is = (d, refl, is)
recorded_has (x ∷ xs) (d ∷ ds) (suc p) k c is = recorded_has xs ds p k c is

-- ---- SENDs

sent_to_all : (number p : ℕ) (command : Command) (got : Answer) → IsPlain number p command → IsGood command got → (fits command got ≡ true) × HasPlaces command got → IsSentToAll command got
sent_to_all number p (cmd.Send c) (answer.Sent b) (k, is) good fit = (fit.1.count, fit.1.refused (ap (λ command. (send_of command).go_on) is))
sent_to_all number p (cmd.Send c) got plain good fit = absurd good
sent_to_all number p command got plain good fit = tt

open_to_all : (number p bound me : ℕ) (command : Command) (phase : Phase) → IsPlain number p command → IsGoing bound me command phase → PhaseFits command phase → (c : Call) → Has (fixed_call command (answer_of command phase)) c → IsSentToAll c.command c.answer
open_to_all number p bound me (cmd.Send s) (Staging begun places collected) plain going fit c has = absurd has
open_to_all number p bound me (cmd.Send s) (Stamping sending) plain going fit c has = absurd has
open_to_all number p bound me (cmd.Send s) (Syncing sending stamp place) plain going fit c (inl same) =
    subst (λ (c : Call). IsSentToAll c.command c.answer) (sym same) (sent_to_all number p (cmd.Send s) (answer.Sent (record { stamp = stamp; places = sending.places })) plain tt (answered (cmd.Send s) (Syncing sending stamp place) (answer.Sent (record { stamp = stamp; places = sending.places })) fit refl))
open_to_all number p bound me (cmd.Send s) (Syncing sending stamp place) plain going fit c (inr none) = absurd none
open_to_all number p bound me (cmd.Send s) (Committing sending stamp place) plain going fit c (inl same) =
    subst (λ (c : Call). IsSentToAll c.command c.answer) (sym same) (sent_to_all number p (cmd.Send s) (answer.Sent (record { stamp = stamp; places = sending.places })) plain tt (answered (cmd.Send s) (Committing sending stamp place) (answer.Sent (record { stamp = stamp; places = sending.places })) fit refl))
open_to_all number p bound me (cmd.Send s) (Committing sending stamp place) plain going fit c (inr none) = absurd none
open_to_all number p bound me (cmd.Send s) phase plain going fit c has = absurd going
open_to_all number p bound me command phase plain going fit c has = absurd (let e : false ≡ true = going_sends bound me command phase going in cc e)

module _ (number : ℕ) (s : State) (run : IsRun number s) (p : ℕ) (d : DriverPart) (is : IsDriver s p d) where
  pub answers : AnswersOf d
  answers = reached_answered (opening_of (peer_count number)) s (valid number) run.reached p d is

  plain : IsPlainDriver number p d
  plain = run_plain number s (run_sound number s run) run p d is

  goes : GoesWell (2 * all_stamps s) d
  goes = (run_well number s run).drivers p d is

  opened_to_all : (doing : Option Doing) → d.doing ≡ doing → (c : Call) → Has (open_by doing) c → IsSentToAll c.command c.answer
  opened_to_all None open_is c has = absurd has
  opened_to_all (Some doing) open_is c has = open_to_all number p (2 * all_stamps s) d.me doing.command doing.phase (plain.doing doing open_is) (goes.going doing open_is) (answers.phase doing open_is) c has

  pub driver_to_all : (c : Call) → Has (driver_calls d) c → IsSentToAll c.command c.answer
  driver_to_all c has = elim (has_append d.calls (open_by d.doing) c has) [
    | inl old ↦
        let k = has_place d.calls c old in
        sent_to_all number p c.command c.answer (plain.calls c has).command (goes.calls c old) (answers.calls k.0 c k.1)
    | inr new ↦ opened_to_all d.doing refl c new
  ]

pub to_all : (number : ℕ) (s : State) → IsRun number s → (p k : ℕ) (c : Call) → slice_get (calls_of (record_of_state s) p) k ≡ Some c → IsSentToAll c.command c.answer
to_all number s run p k c is = let found = recorded_has s.peers s.drivers p k c is in driver_to_all number s run p found.0 found.1 c (has_at (driver_calls found.0) k c found.2)
