-- A peer's epoch is how often its calls flush, but for the gap of a reset.
use Rattle.std.proofs.Common.{◌≡◌, ◌≢◌, refl, sym, ap, subst, ◌∙◌, inl, inr, ℕ, suc, Bool, true, false, cond, ◌&&◌, List, [], ◌∷◌, ◌++◌, Option, Some, None, Ok}
use Rattle.std.specs.Prelude.{is_some}
use native.Mathlib.Omega.{arith}
use Rattle.b1_model.specs.declared.commands.Command.{Command}
use Rattle.b1_model.specs.declared.naming.NodeRef.{NodeRef}
use Rattle.b1_model.specs.declared.naming.Opening.{Opening}
use Rattle.b1_model.specs.declared.answers.Answer.{Answer}
use Rattle.b1_model.specs.declared.answers.Answer.TheVariants as answer
use Rattle.b1_model.specs.declared.answers.Reason.{Reason}
use Rattle.b1_model.specs.declared.commands.SendCmd.{SendCmd}
use Rattle.b1_model.specs.declared.events.Action.{Action}
use Rattle.b1_model.specs.declared.events.Action.TheVariants as act
use Rattle.b1_model.specs.declared.events.Doing.{Doing}
use Rattle.b1_model.specs.declared.events.Outcome.{Outcome}
use Rattle.b1_model.specs.declared.events.Outcome.TheVariants as out
use Rattle.b1_model.specs.declared.events.Phase.{Phase}
use Rattle.b1_model.specs.declared.events.Phase.TheVariants.{Starting, Staging, Unstaging, Attaching, Stamping, Syncing, Committing, Dropping, Reaping, Visiting, Dooming, SyncingNotices, CommittingOwn, CommittingNotices, Flushing}
use Rattle.b1_model.specs.declared.records.Call.{Call}
use Rattle.b1_model.specs.Names.{epoch_in, next_epoch, calls_of, is_own}
use Rattle.b1_model.specs.MachineParts.{PeerPart, DriverPart, State}
use Rattle.b1_model.specs.MachineSend.{send_refusal}
use Rattle.b1_model.specs.MachineDriver.{is_flushing, peer_of, send_of}
use Rattle.b1_model.specs.MachineTook.{call_of, is_await, as_call, is_waiting, open_by, driver_calls, stamped_answer}
use Rattle.b1_model.specs.MachineEvents.{happens, begin_by, stage_by, destroy_by, begin_refusal, begin_serials}
use Rattle.b1_model.specs.MachineTables.{with_made}
use Rattle.b1_model.specs.MachineStep.{Step, opening_state, record_of_state, wire_made}
use Rattle.b1_step.proofs.Changed.{changes}
use Rattle.b1_inv.specs.Words.{IsPeer, IsDriver}
use Rattle.b1_inv.specs.Sound.{IsSound}
use Rattle.b1_inv_record.specs.Epochs.{awaits_flush, in_gap}
use Rattle.b1_inv_record.specs.Names.{EpochCounted}
use Rattle.b1_inv_tools.proofs.Leaves.{driver_cases, peer_cases}
use Rattle.b1_inv_tools.proofs.Openings.{opening_idle, opening_each}
use Rattle.b1_inv_notices.proofs.Turns.{doing_in, parts, going, going_doing, going_action, going_answer}
use Rattle.b1_inv_names.proofs.Effects.{Kind, Quiet, Carries, Flushes, answer_kind, phase_kind, kind_after, Fits}
use Rattle.b1_inv_names.proofs.Measures.{of_doing, of_driver, value_after}
use Rattle.b1_inv_names.proofs.Recorded.{recorded_calls}

-- ---- the epoch as a value of calls

abbrev pub epoch_by : ℕ → Command → Kind → ℕ
epoch_by e command Quiet = e
epoch_by e command Carries = e
epoch_by e command Flushes = suc e

pub epoch_append : (e : ℕ) (xs ys : List Call) → epoch_in e (xs ++ ys) ≡ epoch_in (epoch_in e xs) ys
epoch_append e [] ys = refl
epoch_append e (c ∷ cs) ys = epoch_append (next_epoch e c.answer) cs ys

refused_epoch : (e : ℕ) (command : Command) (b : Bool) → epoch_by e command (cond b Carries Quiet) ≡ e
refused_epoch e command true = refl
refused_epoch e command false = refl

one_epoch : (e : ℕ) (command : Command) (got : Answer) → epoch_in e (call_of command got) ≡ epoch_by e command (answer_kind got)
one_epoch e command (answer.Refused r) = by (is_waiting command (answer.Refused r)) ∙ sym (refused_epoch e command (is_some r.place))
  where
    by : (b : Bool) → epoch_in e (cond b [] (record { command = as_call command; answer = answer.Refused r } ∷ [])) ≡ e
    by true = refl
    by false = refl
one_epoch e command got = by (is_await command)
  where
    by : (b : Bool) → epoch_in e (cond (b && false) [] (record { command = as_call command; answer = got } ∷ [])) ≡ epoch_by e command (answer_kind got)
    by true = refl
    by false = refl

abbrev pub calls_epoch : List Call → ℕ
calls_epoch calls = epoch_in 0 calls

pub more_epoch : (calls : List Call) (command : Command) (got : Answer) → calls_epoch (calls ++ call_of command got) ≡ epoch_by (calls_epoch calls) command (answer_kind got)
more_epoch calls command got = epoch_append 0 calls (call_of command got) ∙ one_epoch (epoch_in 0 calls) command got

-- the epoch that a driver's part has done
abbrev pub done_epoch : DriverPart → ℕ
done_epoch d = of_driver ℕ calls_epoch epoch_by (λ e command. refl) more_epoch d

-- ---- the record against it

abbrev gap_of : Option Doing → Bool
gap_of None = false
gap_of (Some doing) = awaits_flush doing.command doing.phase

abbrev ahead : Bool → ℕ → ℕ
ahead b e = cond b (suc e) e

stamped_epoch : (e : ℕ) (command : Command) (stamp : ℕ) → epoch_in e (call_of command (stamped_answer command stamp)) ≡ ahead (is_flushing command) e
stamped_epoch e command stamp = one_epoch e command (stamped_answer command stamp) ∙ by (is_flushing command)
  where
    by : (b : Bool) → epoch_by e command (answer_kind (cond b (answer.Reset (Some stamp)) (answer.Destroyed stamp))) ≡ ahead b e
    by true = refl
    by false = refl

open_epoch : (e : ℕ) (command : Command) (phase : Phase) → epoch_in e (open_by (Some (doing_in command phase))) ≡ ahead (awaits_flush command phase) (epoch_by e command (phase_kind phase))
open_epoch e command Starting = refl
open_epoch e command (Staging begun places collected) = refl
open_epoch e command (Unstaging begun places refused place) = one_epoch e command (answer.Refused refused)
open_epoch e command (Attaching sending place slot) = refl
open_epoch e command (Stamping sending) = refl
open_epoch e command (Syncing sending stamp place) = one_epoch e command (answer.Sent (record { stamp = stamp; places = sending.places }))
open_epoch e command (Committing sending stamp place) = one_epoch e command (answer.Sent (record { stamp = stamp; places = sending.places }))
open_epoch e command Dropping = one_epoch e command answer.Done
open_epoch e command (Reaping got) = one_epoch e command got
open_epoch e command (Visiting destruction left) = refl
open_epoch e command (Dooming destruction) = refl
open_epoch e command (SyncingNotices destruction stamp at) = stamped_epoch e command stamp
open_epoch e command (CommittingOwn destruction stamp) = stamped_epoch e command stamp
open_epoch e command (CommittingNotices destruction stamp at) = stamped_epoch e command stamp
open_epoch e command (Flushing stamp) = one_epoch e command (answer.Reset stamp)

doing_epoch : (e : ℕ) (calls : List Call) (doing : Option Doing) → epoch_in (calls_epoch calls) (open_by doing) ≡ ahead (gap_of doing) (of_doing ℕ calls_epoch epoch_by (λ e command. refl) more_epoch calls doing)
doing_epoch e calls None = refl
doing_epoch e calls (Some doing) = open_epoch (calls_epoch calls) doing.command doing.phase

-- in the record a driver's epoch is what it has done, and one more in the gap
gap_same : (doing : Option Doing) → gap_of doing ≡ elim doing [ None ↦ false | Some one ↦ awaits_flush one.command one.phase ]
gap_same None = refl
gap_same (Some doing) = refl

driver_epoch : (d : DriverPart) → epoch_in 0 (driver_calls d) ≡ ahead (in_gap d) (done_epoch d)
driver_epoch d = epoch_append 0 d.calls (open_by d.doing) ∙ doing_epoch 0 d.calls d.doing ∙ ap (λ b. ahead b (done_epoch d)) (gap_same d.doing)

ahead_same : (b : Bool) (m n : ℕ) → ahead b m ≡ ahead b n → m ≡ n
ahead_same true m n is = omega (arith, is)
ahead_same false m n is = is

-- ---- events

-- what an event makes of the epoch of its driver's own peer
abbrev Advances : Outcome → ℕ → ℕ → Type 0
Advances (out.Flush dead) old new = new ≡ suc old
Advances outcome old new = new ≡ old

advances_begin : (r : Option Reason) (memory : Bool) (c : SendCmd) (x : PeerPart) (old new : ℕ) → new ≡ old → Advances (begin_by r memory c x).0 old new
advances_begin (Some r) memory c x old new is = is
advances_begin None true c x old new is = is
advances_begin None false c x old new is = is

advances_stage : (r : Option Reason) (memory : Bool) (origin user place serial : ℕ) (payload : List ℕ) (nodes : List NodeRef) (x : PeerPart) (old new : ℕ) → new ≡ old → Advances (stage_by r memory origin user place serial payload nodes x).0 old new
advances_stage (Some r) memory origin user place serial payload nodes x old new is = is
advances_stage None true origin user place serial payload nodes x old new is = is
advances_stage None false origin user place serial payload nodes x old new is = is

advances_destroy : (r : Option Reason) (doomed : List ℕ) (x : PeerPart) (old new : ℕ) → new ≡ old → Advances (destroy_by r doomed x).0 old new
advances_destroy (Some r) doomed x old new is = is
advances_destroy None doomed x old new is = is

module _ (o : Opening) (memory : Bool) (d : DriverPart) (doing : Doing) (x : PeerPart) where
  -- at the peer of the event
  here : (action : Action) → Advances (happens o memory d doing action x).0 x.epoch (happens o memory d doing action x).1.epoch
  here act.Flush = omega arith
  here act.Begin = advances_begin (send_refusal x (send_of doing.command)) memory (send_of doing.command) x _ _ (ap (λ z. z.epoch) (changes o memory d doing act.Begin x))
  here (act.Stage peer place) = advances_stage _ memory _ _ _ _ _ _ x _ _ (ap (λ z. z.epoch) (changes o memory d doing (act.Stage peer place) x))
  here act.BeginDestroy = advances_destroy (begin_refusal doing.command x) (begin_serials doing.command x) x _ _ (ap (λ z. z.epoch) (changes o memory d doing act.BeginDestroy x))
  here act.Rest = refl
  here (act.Unstage peer place) = ap (λ z. z.epoch) (changes o memory d doing (act.Unstage peer place) x)
  here (act.Attach peer serial dest) = ap (λ z. z.epoch) (changes o memory d doing (act.Attach peer serial dest) x)
  here act.Stamp = refl
  here (act.Sync peer stamp) = refl
  here (act.Commit peer place stamp) = ap (λ z. z.epoch) (changes o memory d doing (act.Commit peer place stamp) x)
  here (act.CommitNotices peer stamp) = refl
  here act.Recv = ap (λ z. z.epoch) (changes o memory d doing act.Recv x)
  here act.Reap = refl
  here act.Release = ap (λ z. z.epoch) (changes o memory d doing act.Release x)
  here (act.DropRefs peer serial holder k clock) = ap (λ z. z.epoch) (changes o memory d doing (act.DropRefs peer serial holder k clock) x)
  here (act.Visit peer) = ap (λ z. z.epoch) (changes o memory d doing (act.Visit peer) x)
  here act.StampDestroy = ap (λ z. z.epoch) (changes o memory d doing act.StampDestroy x)
  here act.Local = ap (λ z. z.epoch) (changes o memory d doing act.Local x)

  -- at another peer, its own stays
  elsewhere : (action : Action) (old : ℕ) → peer_of d.me action ≢ d.me → Advances (happens o memory d doing action x).0 old old
  elsewhere act.Flush old apart = absurd (apart refl)
  elsewhere act.Begin old apart = absurd (apart refl)
  elsewhere (act.Stage peer place) old apart = advances_stage _ memory _ _ _ _ _ _ x old old refl
  elsewhere act.BeginDestroy old apart = absurd (apart refl)
  elsewhere action old apart = refl

  -- the peer of another driver keeps its epoch
  other_epoch : (action : Action) → peer_of d.me action ≢ d.me → (happens o memory d doing action x).1.epoch ≡ x.epoch
  other_epoch act.Flush apart = absurd (apart refl)
  other_epoch act.Begin apart = absurd (apart refl)
  other_epoch act.Recv apart = absurd (apart refl)
  other_epoch act.Reap apart = absurd (apart refl)
  other_epoch act.Release apart = absurd (apart refl)
  other_epoch act.BeginDestroy apart = absurd (apart refl)
  other_epoch act.StampDestroy apart = absurd (apart refl)
  other_epoch act.Local apart = absurd (apart refl)
  other_epoch act.Rest apart = refl
  other_epoch act.Stamp apart = refl
  other_epoch (act.Stage peer place) apart = ap (λ z. z.epoch) (changes o memory d doing (act.Stage peer place) x)
  other_epoch (act.Unstage peer place) apart = ap (λ z. z.epoch) (changes o memory d doing (act.Unstage peer place) x)
  other_epoch (act.Attach peer serial dest) apart = ap (λ z. z.epoch) (changes o memory d doing (act.Attach peer serial dest) x)
  other_epoch (act.Sync peer stamp) apart = refl
  other_epoch (act.Commit peer place stamp) apart = ap (λ z. z.epoch) (changes o memory d doing (act.Commit peer place stamp) x)
  other_epoch (act.CommitNotices peer stamp) apart = refl
  other_epoch (act.DropRefs peer serial holder k clock) apart = ap (λ z. z.epoch) (changes o memory d doing (act.DropRefs peer serial holder k clock) x)
  other_epoch (act.Visit peer) apart = ap (λ z. z.epoch) (changes o memory d doing (act.Visit peer) x)

-- what a phase has done of the epoch, after an event
advanced : (e : ℕ) (command : Command) (phase : Phase) (outcome : Outcome) (old new : ℕ) → Fits phase outcome → Advances outcome old new → old ≡ epoch_by e command (phase_kind phase) → new ≡ epoch_by e command (kind_after (phase_kind phase) outcome)
advanced e command Starting (out.Begin (Ok begun)) old new fit is was = is ∙ was
advanced e command Starting (out.Flush dead) old new fit is was = absurd fit
advanced e command (Flushing stamp) (out.Flush dead) old new fit is was = is ∙ ap suc was
advanced e command phase (out.Begin (Ok begun)) old new fit is was = absurd fit
advanced e command phase (out.Flush dead) old new fit is was = absurd fit
advanced e command phase outcome old new fit is was = is ∙ was

-- ---- a step

module _ {o : Opening} {s : State} {p : ℕ} {c : Option Command} {t : State} (sound : IsSound o s) (before : EpochCounted s) (step : Step o s p c t) where
  value_before : (r : ℕ) (d : DriverPart) (x : PeerPart) → IsDriver s r d → IsPeer s r x → x.epoch ≡ done_epoch d
  value_before r d x is_driver is_peer = ahead_same (in_gap d) x.epoch (done_epoch d) (sym (before.epoch r d x is_driver is_peer) ∙ ap (epoch_in 0) (recorded_calls s r x d is_peer is_driver) ∙ driver_epoch d)

  me_is : step.driver.me ≡ p
  me_is = sound.numbered.drivers p step.driver step.is_driver

  apart_at : (r : ℕ) → r ≢ step.at → r ≡ step.driver.me → peer_of step.driver.me (going_action step) ≢ step.driver.me
  apart_at r apart is same = apart (is ∙ sym same ∙ (parts step).is_at)

  by_event : (old new : ℕ) → old ≡ done_epoch step.driver → Advances (going_answer step) old new → new ≡ done_epoch step.new_driver
  by_event old new was event =
      value_after ℕ calls_epoch epoch_by (λ e command. refl) more_epoch step old new was
      (λ fit is. advanced (calls_epoch step.driver.calls) (parts step).command (parts step).phase (going_answer step) old new fit event is)

  own_after : (y : PeerPart) → IsPeer t p y → y.epoch ≡ done_epoch step.new_driver
  own_after y is = elim (peer_cases step p y is) [
    | inl at_it ↦
        by_event step.peer.epoch y.epoch (value_before p step.driver step.peer step.is_driver (subst (λ r. IsPeer s r step.peer) (sym at_it.0) step.is_peer))
        (subst (λ z. Advances (going_answer step) step.peer.epoch z.epoch) ((parts step).is_peer ∙ sym at_it.1) (here o step.local.memory (going step) (going_doing step) step.peer (going_action step)))
    | inr away ↦
        by_event y.epoch y.epoch (value_before p step.driver y step.is_driver away.1)
        (elsewhere o step.local.memory (going step) (going_doing step) step.peer (going_action step) y.epoch (apart_at p away.0 (sym me_is)))
  ]

  other_after : (r : ℕ) (d : DriverPart) (y : PeerPart) → r ≢ p → IsDriver s r d → IsPeer t r y → y.epoch ≡ done_epoch d
  other_after r d y apart is_driver is = elim (peer_cases step r y is) [
    | inl at_it ↦
        ap (λ z. z.epoch) (at_it.1 ∙ sym (parts step).is_peer)
        ∙ other_epoch o step.local.memory (going step) (going_doing step) step.peer (going_action step) (λ same. apart (at_it.0 ∙ sym (parts step).is_at ∙ same ∙ me_is))
        ∙ value_before r d step.peer is_driver (subst (λ q. IsPeer s q step.peer) (sym at_it.0) step.is_peer)
    | inr away ↦ value_before r d y is_driver away.1
  ]

  after : (r : ℕ) (d : DriverPart) (y : PeerPart) → IsDriver t r d → IsPeer t r y → y.epoch ≡ done_epoch d
  after r d y is_driver is = elim (driver_cases step r d is_driver) [
    | inl own ↦ own_after y (subst (λ q. IsPeer t q y) own.0 is) ∙ ap done_epoch (sym own.1)
    | inr other ↦ other_after r d y other.0 other.1 is
  ]

  pub epochs_kept : EpochCounted t
  epochs_kept = record {
    epoch = λ r d y is_driver is. ap (epoch_in 0) (recorded_calls t r y d is is_driver) ∙ driver_epoch d ∙ ap (ahead (in_gap d)) (sym (after r d y is_driver is));
  }

-- ---- the beginning

opening_epoch : (o : Opening) (q : ℕ) (x : PeerPart) → IsPeer (opening_state o) q x → x.epoch ≡ 0
opening_epoch o = opening_each (λ x. x.epoch ≡ 0) made (λ node dest x is. is) (λ node x is. is) o (λ me spec. refl)
  where
    made : (number : ℕ) (x : PeerPart) → x.epoch ≡ 0 → (wire_made number x).epoch ≡ 0
    made number x is = by (is_own number)
      where
        by : (b : Bool) → (cond b (record x { nodes = with_made x.peers number x.nodes }) x).epoch ≡ 0
        by true = is
        by false = is

pub epochs_begin : (o : Opening) → EpochCounted (opening_state o)
epochs_begin o = record {
  epoch = λ r d x is_driver is.
      let idle = opening_idle o r d is_driver in
      let none : driver_calls d ≡ [] = ap driver_calls idle in
      let gap : in_gap d ≡ false = ap in_gap idle in
      let left : epoch_in 0 (calls_of (record_of_state (opening_state o)) r) ≡ 0 = ap (epoch_in 0) (recorded_calls (opening_state o) r x d is is_driver ∙ none) in
      left ∙ sym (ap (λ b. ahead b x.epoch) gap ∙ opening_epoch o r x is);
}
