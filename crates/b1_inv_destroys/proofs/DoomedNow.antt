-- The nodes of an open destruction are of the epoch of the driver's peer.
use Rattle.std.proofs.Common.{◌≡◌, ◌⊎◌, refl, sym, subst, ◌∙◌, inl, inr, ℕ, ◌+◌, ◌≤◌, Bool, true, false, cond, ◌&&◌, nat_lt, List, [], ◌∷◌, ◌++◌, drop, get_or, length, Option, Some, None, Ok, Err}
use Rattle.std.specs.Prelude.{⊤}
use native.Mathlib.Omega.{arith}
use Rattle.b1_model.specs.declared.commands.Command.{Command}
use Rattle.b1_model.specs.declared.commands.Command.TheVariants as cmd
use Rattle.b1_model.specs.declared.commands.SendCmd.{SendCmd}
use Rattle.b1_model.specs.declared.naming.NodeRef.{NodeRef}
use Rattle.b1_model.specs.declared.naming.Opening.{Opening}
use Rattle.b1_model.specs.declared.answers.Answer.TheVariants as answer
use Rattle.b1_model.specs.declared.answers.Reason.{Reason}
use Rattle.b1_model.specs.declared.answers.Refused.{Refused}
use Rattle.b1_model.specs.declared.parts.Begun.{Begun}
use Rattle.b1_model.specs.declared.events.Action.{Action}
use Rattle.b1_model.specs.declared.events.Action.TheVariants as act
use Rattle.b1_model.specs.declared.events.Destruction.{Destruction}
use Rattle.b1_model.specs.declared.events.Doing.{Doing}
use Rattle.b1_model.specs.declared.events.OwedDrop.{OwedDrop}
use Rattle.b1_model.specs.declared.events.Outcome.{Outcome}
use Rattle.b1_model.specs.declared.events.Outcome.TheVariants as out
use Rattle.b1_model.specs.declared.events.Phase.{Phase}
use Rattle.b1_model.specs.declared.events.Phase.TheVariants.{Starting, Staging, Unstaging, Attaching, Stamping, Syncing, Committing, Visiting, Dooming, SyncingNotices, CommittingOwn, CommittingNotices, Flushing}
use Rattle.b1_model.specs.declared.events.Sending.{Sending}
use Rattle.b1_model.specs.MachineParts.{PeerPart, DriverPart, State}
use Rattle.b1_model.specs.MachineDriver.{accepted_from, is_place, attaching, with_slot, all_staged, staging, all_refused, unstaging, syncing, visiting, with_visit, syncing_notices, committing_notices, destroying, is_flushing, send_of, started, first_action, next_action, peer_of, turn, Turn, Goes, Ends}
use Rattle.b1_model.specs.MachineEvents.{happens, doomed_of, begin_by, stage_by, destroy_by, begin_refusal, begin_serials}
use Rattle.b1_model.specs.MachineStep.{Step, opening_state}
use Rattle.b1_step.specs.Rights.{Has}
use Rattle.b1_inv.specs.Notices.{doomed_now}
use Rattle.b1_inv.specs.Sound.{IsSound}
use Rattle.b1_inv_record.specs.Epochs.{first_done}
use Rattle.b1_inv_record.specs.Right.{IsRight}
use Rattle.b1_inv_tools.proofs.Leaves.{driver_cases}
use Rattle.b1_inv_tools.proofs.Openings.{opening_idle}
use Rattle.b1_inv_notices.proofs.Sets.{has_index}
use Rattle.b1_inv_notices.proofs.Turns.{doing_in, opened, OnTurn, may_end, took_leaves, parts, going, going_doing, going_action, going_answer}
use Rattle.b1_inv_destroys.specs.OwnNotices.{DoomedPresent}
use Rattle.b1_inv_destroys.proofs.Taken.{BeginPhase, number, begins_here}
use Rattle.b1_inv_destroys.proofs.FirstNode.{is_flush_action, first_other, first_same}
use Rattle.b1_inv_destroys.proofs.Present.{begun_present}

abbrev doomed_in : Option Doing → List ℕ
doomed_in doing = elim doing [ None ↦ [] | Some one ↦ doomed_of one.phase ]

-- a node that a begin dooms
abbrev Begins : Outcome → ℕ → Type 0
Begins (out.BeginDestroy (Ok visit) doomed) serial = Has doomed serial
Begins outcome serial = ⊥

module _ (command : Command) (before : Phase) (outcome : Outcome) (serial : ℕ) where
  -- a doomed node was doomed before, or the event dooms it
  abbrev WasDoomed : Option Doing → Type 0
  WasDoomed doing = Has (doomed_in doing) serial → Has (doomed_of before) serial ⊎ Begins outcome serial

  abbrev Turned : Turn → Type 0
  Turned t = OnTurn command WasDoomed t

  doomed_ends : (phase : Phase) → may_end phase ≡ true → WasDoomed (Some (doing_in command phase)) → WasDoomed None
  doomed_ends phase may h = λ has. absurd has

  none_attaching : (sending : Sending) (place slot : ℕ) → Turned (Goes (attaching sending place slot))
  none_attaching sending place slot = by (nat_lt slot (length sending.begun.with)) (nat_lt 0 (length sending.begun.with) && is_place (accepted_from (place + 1) sending.places) sending.places) (accepted_from (place + 1) sending.places)
    where
      by : (b c : Bool) (next : ℕ) → Turned (Goes (cond b (Attaching sending place slot) (cond c (Attaching sending next 0) (Stamping sending))))
      by true c next = λ has. absurd has
      by false true next = λ has. absurd has
      by false false next = λ has. absurd has

  none_staging : (begun : Begun) (places : List (Option Reason)) (collected : ℕ) → Turned (staging begun places collected)
  none_staging begun places collected = by (nat_lt (length places) (length begun.to)) (is_place (accepted_from 0 places) places)
    where
      by : (b c : Bool) → Turned (cond b (Goes (Staging begun places collected)) (cond c (Goes (attaching (all_staged begun places collected) (accepted_from 0 places) 0)) (Ends (all_refused places))))
      by true c = λ has. absurd has
      by false true = none_attaching (all_staged begun places collected) (accepted_from 0 places) 0
      by false false = λ has. absurd has

  none_unstaging : (begun : Begun) (places : List (Option Reason)) (refused : Refused) (place : ℕ) → Turned (unstaging begun places refused place)
  none_unstaging begun places refused place = elim (is_place place places) as (λ b. Turned (cond b (Goes (Unstaging begun places refused place)) (Ends (answer.Refused refused)))) [
    | true ↦ λ has. absurd has
    | false ↦ λ has. absurd has
  ]

  none_place : (r : Reason) (begun : Begun) (places : List (Option Reason)) (collected : ℕ) (go_on : Bool)
      → Turned (cond go_on (staging begun (places ++ Some r ∷ []) collected) (unstaging begun (places ++ Some r ∷ []) (record { reason = r; place = Some (length places) }) (accepted_from 0 (places ++ Some r ∷ []))))
  none_place r begun places collected true = none_staging begun (places ++ Some r ∷ []) collected
  none_place r begun places collected false = none_unstaging begun (places ++ Some r ∷ []) (record { reason = r; place = Some (length places) }) (accepted_from 0 (places ++ Some r ∷ []))

  none_syncing : (sending : Sending) (stamp place : ℕ) → Turned (Goes (syncing sending stamp place))
  none_syncing sending stamp place = elim (is_place place sending.places) as (λ b. Turned (Goes (cond b (Syncing sending stamp place) (Committing sending stamp (accepted_from 0 sending.places))))) [
    | true ↦ λ has. absurd has
    | false ↦ λ has. absurd has
  ]

  in_visiting : (d : Destruction) (left : List ℕ) → (Has d.doomed serial → Has (doomed_of before) serial ⊎ Begins outcome serial) → Turned (Goes (visiting d left))
  in_visiting d [] from = from
  in_visiting d (peer ∷ rest) from = from

  in_notices : (d : Destruction) (stamp at : ℕ) → (Has d.doomed serial → Has (doomed_of before) serial ⊎ Begins outcome serial) → Turned (Goes (syncing_notices d stamp at))
  in_notices d stamp at from = elim (nat_lt at (length d.staged)) as (λ b. Turned (Goes (cond b (SyncingNotices d stamp at) (CommittingOwn d stamp)))) [ true ↦ from | false ↦ from ]

  in_commits : (d : Destruction) (stamp at : ℕ) → (Has d.doomed serial → Has (doomed_of before) serial ⊎ Begins outcome serial) → Turned (committing_notices command d stamp at)
  in_commits d stamp at from = by (nat_lt at (length d.staged)) (is_flushing command)
    where
      by : (b c : Bool) → Turned (cond b (Goes (CommittingNotices d stamp at)) (cond c (Goes (Flushing (Some stamp))) (Ends (answer.Destroyed stamp))))
      by true c = from
      by false true = λ has. absurd has
      by false false = λ has. absurd has

  in_destroying : (doomed visit : List ℕ) → (Has doomed serial → Has (doomed_of before) serial ⊎ Begins outcome serial) → Turned (Goes (destroying doomed visit))
  in_destroying [] visit from = λ has. absurd has
  in_destroying (one ∷ rest) visit from = in_visiting (record { doomed = one ∷ rest; collected = 0; staged = [] }) visit from

started_doomed : (command : Command) (outcome : Outcome) (serial : ℕ) → Turned command Starting outcome serial (started command outcome)
started_doomed command (out.Begin (Ok begun)) serial = λ has. absurd has
started_doomed command (out.Begin (Err r)) serial = λ has. absurd has
started_doomed command (out.Recv got dead) serial = λ has. absurd has
started_doomed command (out.Release (Ok owed)) serial = λ has. absurd has
started_doomed command (out.Release (Err r)) serial = λ has. absurd has
started_doomed command (out.BeginDestroy (Ok visit) doomed) serial = in_destroying command Starting (out.BeginDestroy (Ok visit) doomed) serial doomed visit (λ has. inr has)
started_doomed command (out.BeginDestroy (Err r) doomed) serial = λ has. absurd has
started_doomed command (out.Local got) serial = λ has. absurd has
started_doomed command outcome serial = λ has. absurd has

turn_doomed : (command : Command) (me : ℕ) (phase : Phase) (outcome : Outcome) (serial : ℕ) → Turned command phase outcome serial (turn me command phase outcome)
turn_doomed command me Starting outcome serial = started_doomed command outcome serial
turn_doomed command me (Staging begun places collected) (out.Stage (Ok clock)) serial = none_staging command (Staging begun places collected) (out.Stage (Ok clock)) serial begun (places ++ None ∷ []) _
turn_doomed command me (Staging begun places collected) (out.Stage (Err r)) serial = none_place command (Staging begun places collected) (out.Stage (Err r)) serial r begun places collected (send_of command).go_on
turn_doomed command me (Unstaging begun places refused place) out.Unstage serial = none_unstaging command (Unstaging begun places refused place) out.Unstage serial begun places refused (accepted_from (place + 1) places)
turn_doomed command me (Attaching sending place slot) (out.Attach got) serial = none_attaching command (Attaching sending place slot) (out.Attach got) serial (with_slot sending place slot got) place (slot + 1)
turn_doomed command me (Stamping sending) (out.Stamp stamp) serial = none_syncing command (Stamping sending) (out.Stamp stamp) serial sending stamp (accepted_from 0 sending.places)
turn_doomed command me (Syncing sending stamp place) out.Sync serial = none_syncing command (Syncing sending stamp place) out.Sync serial sending stamp (accepted_from (place + 1) sending.places)
turn_doomed command me (Committing sending stamp place) (out.Commit found) serial = λ has. absurd has
turn_doomed command me (Visiting d left) (out.Visit got) serial = in_visiting command (Visiting d left) (out.Visit got) serial (with_visit d (get_or left 0 me) got) (drop 1 left) (λ has. inl has)
turn_doomed command me (Dooming d) (out.StampDestroy (Ok stamp)) serial = in_notices command (Dooming d) (out.StampDestroy (Ok stamp)) serial d stamp 0 (λ has. inl has)
turn_doomed command me (Dooming d) (out.StampDestroy (Err late)) serial = in_visiting command (Dooming d) (out.StampDestroy (Err late)) serial d late (λ has. inl has)
turn_doomed command me (SyncingNotices d stamp at) out.Sync serial = in_notices command (SyncingNotices d stamp at) out.Sync serial d stamp (at + 1) (λ has. inl has)
turn_doomed command me (CommittingOwn d stamp) out.CommitNotices serial = in_commits command (CommittingOwn d stamp) out.CommitNotices serial d stamp 0 (λ has. inl has)
turn_doomed command me (CommittingNotices d stamp at) out.CommitNotices serial = in_commits command (CommittingNotices d stamp at) out.CommitNotices serial d stamp (at + 1) (λ has. inl has)
turn_doomed command me (Flushing stamp) (out.Flush dead) serial = λ has. absurd has
turn_doomed command me phase outcome serial = λ has. inl has

-- ---- events

destroy_begins : (r : Option Reason) (doomed : List ℕ) (x : PeerPart) (serial : ℕ) → Begins (destroy_by r doomed x).0 serial → Has doomed serial
destroy_begins (Some r) doomed x serial h = absurd h
destroy_begins None doomed x serial h = h

begin_none : (r : Option Reason) (memory : Bool) (c : SendCmd) (x : PeerPart) (serial : ℕ) → Begins (begin_by r memory c x).0 serial → ⊥
begin_none (Some r) memory c x serial h = h
begin_none None true c x serial h = h
begin_none None false c x serial h = h

stage_none : (r : Option Reason) (memory : Bool) (origin user place serial : ℕ) (payload : List ℕ) (nodes : List NodeRef) (x : PeerPart) (one : ℕ) → Begins (stage_by r memory origin user place serial payload nodes x).0 one → ⊥
stage_none (Some r) memory origin user place serial payload nodes x one h = h
stage_none None true origin user place serial payload nodes x one h = h
stage_none None false origin user place serial payload nodes x one h = h

-- a flush is done where nothing is doomed
abbrev FlushPhase : Phase → Action → Type 0
FlushPhase phase act.Flush = doomed_of phase ≡ []
FlushPhase phase action = ⊤

flush_phase : (d : DriverPart) (command : Command) (phase : Phase) (owed : List OwedDrop) → FlushPhase phase (next_action (opened d command phase owed))
flush_phase d command phase (one ∷ rest) = tt
flush_phase d command Starting [] = first d.shut command
  where
    first : (b : Bool) (command : Command) → FlushPhase Starting (cond b act.Local (first_action command))
    first true command = tt
    first false cmd.Disconnect = tt
    first false command = tt
flush_phase d command (Flushing stamp) [] = refl
flush_phase d command phase [] = tt

module _ {o : Opening} {s : State} {p : ℕ} {c : Option Command} {t : State} (sound : IsSound o s) (right : IsRight o s) (step : Step o s p c t) where
  abbrev answer_at : Action → Outcome
  answer_at action = (happens o step.local.memory (going step) (going_doing step) action step.peer).0

  begins_low : (action : Action) (serial : ℕ) → BeginPhase (parts step).phase action → peer_of step.driver.me action ≡ step.at → Begins (answer_at action) serial → first_done o s p ≤ serial
  begins_low act.BeginDestroy serial begins at h =
      let has = destroy_begins (begin_refusal (parts step).command step.peer) (begin_serials (parts step).command step.peer) step.peer serial h in
      let place = has_index (begin_serials (parts step).command step.peer) serial has in
      begun_present sound right step place.0 serial begins (sym at ∙ number sound right step) place.1
  begins_low act.Begin serial begins at h = absurd (begin_none _ step.local.memory (send_of (parts step).command) step.peer serial h)
  begins_low (act.Stage peer place) serial begins at h = absurd (stage_none _ step.local.memory _ _ _ _ _ _ step.peer serial h)
  begins_low action serial begins at h = absurd h

  old_low : (serial : ℕ) → Has (doomed_of (parts step).phase) serial → first_done o s p ≤ serial
  old_low serial has = elim (parts step).was [
    | inl open_is ↦ right.destructions.dying.present p serial step.driver step.is_driver (subst (λ z. Has (doomed_in z) serial) (sym open_is) has)
    | inr new ↦ absurd (subst (λ z. Has (doomed_of z) serial) new.1 has)
  ]

  source : (serial : ℕ) → Has (doomed_now step.new_driver) serial → Has (doomed_of (parts step).phase) serial ⊎ Begins (going_answer step) serial
  source serial =
      subst (λ e. WasDoomed (parts step).command (parts step).phase (going_answer step) serial e.doing) (parts step).is_driver
      (took_leaves (WasDoomed (parts step).command (parts step).phase (going_answer step) serial) (parts step).command (doomed_ends (parts step).command (parts step).phase (going_answer step) serial) step.driver (parts step).phase step.driver.owed (going_answer step)
      (turn_doomed (parts step).command step.driver.me (parts step).phase (going_answer step) serial))

  own_low : (serial : ℕ) → Has (doomed_now step.new_driver) serial → first_done o s p ≤ serial
  own_low serial has = elim (source serial has) [
    | inl old ↦ old_low serial old
    | inr new ↦ begins_low (going_action step) serial (begins_here sound right step) (parts step).is_at new
  ]

  flush_none : (action : Action) (serial : ℕ) → is_flush_action action ≡ true → FlushPhase (parts step).phase action → Has (doomed_of (parts step).phase) serial ⊎ Begins (answer_at action) serial → ⊥
  flush_none act.Flush serial is empty (inl old) = subst (λ list. Has list serial) empty old
  flush_none act.Flush serial is empty (inr new) = new
  flush_none action serial is empty h = absurd (cc is)

  pub doomed_present : DoomedPresent o t
  doomed_present r serial e is has = elim (driver_cases step r e is) [
    | inr other ↦ let low = right.destructions.dying.present r serial e other.1 has in let same = first_other step r other.0 in omega (arith, low, same)
    | inl own ↦ by (is_flush_action (going_action step)) refl own.0 (subst (λ d. Has (doomed_now d) serial) own.1 has)
  ]
    where
      by : (b : Bool) → is_flush_action (going_action step) ≡ b → r ≡ p → Has (doomed_now step.new_driver) serial → first_done o t r ≤ serial
      by true flush here doomed = absurd (flush_none (going_action step) serial flush (flush_phase step.driver (parts step).command (parts step).phase step.driver.owed) (source serial doomed))
      by false calm here doomed = subst (λ q. first_done o t q ≤ serial) (sym here) (let low = own_low serial doomed in let same = first_same step calm p in omega (arith, low, same))

pub doomed_begins : (o : Opening) → DoomedPresent o (opening_state o)
doomed_begins o p serial d is has = absurd (subst (λ e. Has (doomed_now e) serial) (opening_idle o p d is) has)
