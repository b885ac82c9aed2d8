-- What answers make of the clocks collected, of the drops owed, and of whether a command waits for its stamp.
use Rattle.std.proofs.Common.{◌≡◌, ◌⊎◌, refl, sym, ap, subst, ◌∙◌, inl, inr, ℕ, ◌+◌, ◌≤◌, max, Bool, true, false, cond, ◌&&◌, List, [], ◌∷◌, ◌++◌, drop, length, get_or, Option, Some, None, Ok, Err, nat_lt}
use Rattle.std.specs.Prelude.{⊤}
use native.Mathlib.Omega.{arith}
use Rattle.b1_model.specs.declared.naming.NodeRef.{NodeRef}
use Rattle.b1_model.specs.declared.commands.Command.{Command}
use Rattle.b1_model.specs.declared.answers.Answer.{Answer}
use Rattle.b1_model.specs.declared.answers.Answer.TheVariants as answer
use Rattle.b1_model.specs.declared.answers.Reason.{Reason}
use Rattle.b1_model.specs.declared.answers.Refused.{Refused}
use Rattle.b1_model.specs.declared.parts.Attach.TheVariants as attach
use Rattle.b1_model.specs.declared.parts.Attach.{Attach}
use Rattle.b1_model.specs.declared.parts.Begun.{Begun}
use Rattle.b1_model.specs.declared.events.Outcome.{Outcome}
use Rattle.b1_model.specs.declared.events.Outcome.TheVariants as out
use Rattle.b1_model.specs.declared.events.Phase.{Phase}
use Rattle.b1_model.specs.declared.events.Phase.TheVariants.{Starting, Staging, Unstaging, Attaching, Stamping, Syncing, Committing, Visiting, Dooming, SyncingNotices, CommittingOwn, CommittingNotices, Flushing}
use Rattle.b1_model.specs.declared.events.Doing.{Doing}
use Rattle.b1_model.specs.declared.events.Destruction.{Destruction}
use Rattle.b1_model.specs.declared.events.Sending.{Sending}
use Rattle.b1_model.specs.declared.events.OwedDrop.{OwedDrop}
use Rattle.b1_model.specs.MachineParts.{DriverPart}
use Rattle.b1_model.specs.MachineDriver.{accepted_from, is_place, attaching, with_slot, all_staged, staging, all_refused, unstaging, syncing, visiting, with_visit, syncing_notices, committing_notices, destroying, is_flushing, send_of, started, turn, Turn, Goes, Ends}
use Rattle.b1_model.specs.MachineTook.{drops_of, cancelled_drops, owed_after, goes_by, is_done, answer_of, turned, with_facts, took}
use Rattle.b1_model.specs.MachineEvents.{collected_of}
use Rattle.b1_step.specs.Rights.{Has}
use Rattle.b1_inv.specs.Words.{stamp_of_phase}
use Rattle.b1_inv.specs.Clocks.{IsClock, can_be_stamped}
use Rattle.b1_inv_notices.proofs.Turns.{doing_in, opened, OnTurn, may_end}
use Rattle.b1_inv_notices.proofs.Sets.{drop_has}
use Rattle.b1_step.proofs.Lists.{has_append}

-- ---- clocks within a bound

pub clock_zero : (bound : ℕ) → IsClock bound 0
clock_zero bound = (refl, omega arith)

pub clock_max : (bound a b : ℕ) → IsClock bound a → IsClock bound b → IsClock bound (max a b)
clock_max bound a b h k = (omega (arith, h.0, k.0), omega (arith, h.1, k.1))

pub clock_more : (bound more n : ℕ) → bound ≤ more → IsClock bound n → IsClock more n
clock_more bound more n above h = (h.0, omega (arith, h.1, above))

-- ---- the clocks that answers bring

-- what an answer brings to be collected or owed is a clock within the bound
abbrev pub BringsClock : ℕ → Outcome → Type 0
BringsClock bound (out.Stage (Ok clock)) = IsClock bound clock
BringsClock bound (out.Attach (attach.Void stamp)) = IsClock bound stamp
BringsClock bound (out.Visit got) = IsClock bound got.clock
BringsClock bound (out.Reap (Some item) dead) = IsClock bound item.clock
BringsClock bound (out.Release (Ok owed)) = IsClock bound owed.clock
BringsClock bound outcome = ⊤

-- the greatest clock collected by what is open
abbrev pub collected_in : Option Doing → ℕ
collected_in doing = elim doing [ None ↦ 0 | Some one ↦ collected_of one.phase ]

module _ (command : Command) (bound : ℕ) where
  abbrev pub Collected : Option Doing → Type 0
  Collected doing = IsClock bound (collected_in doing)

  in_attaching : (sending : Sending) (place slot : ℕ) → IsClock bound sending.collected → IsClock bound (collected_of (attaching sending place slot))
  in_attaching sending place slot h = by (nat_lt slot (length sending.begun.with)) (nat_lt 0 (length sending.begun.with) && is_place (accepted_from (place + 1) sending.places) sending.places) (accepted_from (place + 1) sending.places)
    where
      by : (b c : Bool) (next : ℕ) → IsClock bound (collected_of (cond b (Attaching sending place slot) (cond c (Attaching sending next 0) (Stamping sending))))
      by true c next = h
      by false true next = h
      by false false next = h

  in_staging : (begun : Begun) (places : List (Option Reason)) (collected : ℕ) → IsClock bound collected → OnTurn command Collected (staging begun places collected)
  in_staging begun places collected h = by (nat_lt (length places) (length begun.to)) (is_place (accepted_from 0 places) places)
    where
      by : (b c : Bool) → OnTurn command Collected (cond b (Goes (Staging begun places collected)) (cond c (Goes (attaching (all_staged begun places collected) (accepted_from 0 places) 0)) (Ends (all_refused places))))
      by true c = h
      by false true = in_attaching (all_staged begun places collected) (accepted_from 0 places) 0 h
      by false false = clock_zero bound

  in_unstaging : (begun : Begun) (places : List (Option Reason)) (refused : Refused) (place : ℕ) → OnTurn command Collected (unstaging begun places refused place)
  in_unstaging begun places refused place = elim (is_place place places) as (λ b. OnTurn command Collected (cond b (Goes (Unstaging begun places refused place)) (Ends (answer.Refused refused)))) [ true ↦ clock_zero bound | false ↦ clock_zero bound ]

  in_refused : (r : Reason) (begun : Begun) (places : List (Option Reason)) (collected : ℕ) (go_on : Bool) → IsClock bound collected
      → OnTurn command Collected (cond go_on (staging begun (places ++ Some r ∷ []) collected) (unstaging begun (places ++ Some r ∷ []) (record { reason = r; place = Some (length places) }) (accepted_from 0 (places ++ Some r ∷ []))))
  in_refused r begun places collected true h = in_staging begun (places ++ Some r ∷ []) collected h
  in_refused r begun places collected false h = in_unstaging begun (places ++ Some r ∷ []) (record { reason = r; place = Some (length places) }) (accepted_from 0 (places ++ Some r ∷ []))

  in_slot : (sending : Sending) (place slot : ℕ) (got : Attach) → IsClock bound sending.collected → BringsClock bound (out.Attach got) → IsClock bound (with_slot sending place slot got).collected
  in_slot sending place slot attach.Counted h brings = h
  in_slot sending place slot attach.Own h brings = h
  in_slot sending place slot (attach.Void stamp) h brings = clock_max bound sending.collected stamp h brings

  in_syncing : (sending : Sending) (stamp place : ℕ) → IsClock bound sending.collected → IsClock bound (collected_of (syncing sending stamp place))
  in_syncing sending stamp place h = elim (is_place place sending.places) as (λ b. IsClock bound (collected_of (cond b (Syncing sending stamp place) (Committing sending stamp (accepted_from 0 sending.places))))) [ true ↦ h | false ↦ h ]

  in_visiting : (d : Destruction) (left : List ℕ) → IsClock bound d.collected → IsClock bound (collected_of (visiting d left))
  in_visiting d [] h = h
  in_visiting d (peer ∷ rest) h = h

  in_destroying : (doomed visit : List ℕ) → IsClock bound (collected_of (destroying doomed visit))
  in_destroying [] visit = clock_zero bound
  in_destroying (serial ∷ rest) visit = in_visiting (record { doomed = serial ∷ rest; collected = 0; staged = [] }) visit (clock_zero bound)

  in_notices : (d : Destruction) (stamp at : ℕ) → IsClock bound d.collected → IsClock bound (collected_of (syncing_notices d stamp at))
  in_notices d stamp at h = elim (nat_lt at (length d.staged)) as (λ b. IsClock bound (collected_of (cond b (SyncingNotices d stamp at) (CommittingOwn d stamp)))) [ true ↦ h | false ↦ h ]

  in_commits : (d : Destruction) (stamp at : ℕ) → IsClock bound d.collected → OnTurn command Collected (committing_notices command d stamp at)
  in_commits d stamp at h = by (nat_lt at (length d.staged)) (is_flushing command)
    where
      by : (b c : Bool) → OnTurn command Collected (cond b (Goes (CommittingNotices d stamp at)) (cond c (Goes (Flushing (Some stamp))) (Ends (answer.Destroyed stamp))))
      by true c = h
      by false true = clock_zero bound
      by false false = clock_zero bound

  in_started : (outcome : Outcome) → OnTurn command Collected (started command outcome)
  in_started (out.Begin (Ok begun)) = clock_zero bound
  in_started (out.Begin (Err r)) = clock_zero bound
  in_started (out.Recv got dead) = clock_zero bound
  in_started (out.Release (Ok owed)) = clock_zero bound
  in_started (out.Release (Err r)) = clock_zero bound
  in_started (out.BeginDestroy (Ok visit) doomed) = in_destroying doomed visit
  in_started (out.BeginDestroy (Err r) doomed) = clock_zero bound
  in_started (out.Local got) = clock_zero bound
  in_started outcome = clock_zero bound

  pub collected_turn : (me : ℕ) (phase : Phase) (outcome : Outcome) → BringsClock bound outcome → IsClock bound (collected_of phase) → OnTurn command Collected (turn me command phase outcome)
  collected_turn me Starting outcome brings h = in_started outcome
  collected_turn me (Staging begun places collected) (out.Stage (Ok clock)) brings h = in_staging begun (places ++ None ∷ []) (max collected clock) (clock_max bound collected clock h brings)
  collected_turn me (Staging begun places collected) (out.Stage (Err r)) brings h = in_refused r begun places collected (send_of command).go_on h
  collected_turn me (Unstaging begun places refused place) out.Unstage brings h = in_unstaging begun places refused (accepted_from (place + 1) places)
  collected_turn me (Attaching sending place slot) (out.Attach got) brings h = in_attaching (with_slot sending place slot got) place (slot + 1) (in_slot sending place slot got h brings)
  collected_turn me (Stamping sending) (out.Stamp stamp) brings h = in_syncing sending stamp (accepted_from 0 sending.places) h
  collected_turn me (Syncing sending stamp place) out.Sync brings h = in_syncing sending stamp (accepted_from (place + 1) sending.places) h
  collected_turn me (Committing sending stamp place) (out.Commit found) brings h = h
  collected_turn me (Visiting d left) (out.Visit got) brings h = in_visiting (with_visit d (get_or left 0 me) got) (drop 1 left) (clock_max bound d.collected got.clock h brings)
  collected_turn me (Dooming d) (out.StampDestroy (Ok stamp)) brings h = in_notices d stamp 0 h
  collected_turn me (Dooming d) (out.StampDestroy (Err late)) brings h = in_visiting d late h
  collected_turn me (SyncingNotices d stamp at) out.Sync brings h = in_notices d stamp (at + 1) h
  collected_turn me (CommittingOwn d stamp) out.CommitNotices brings h = in_commits d stamp 0 h
  collected_turn me (CommittingNotices d stamp at) out.CommitNotices brings h = in_commits d stamp (at + 1) h
  collected_turn me (Flushing stamp) (out.Flush dead) brings h = clock_zero bound
  collected_turn me phase outcome brings h = h

  pub ends_collected : (phase : Phase) → may_end phase ≡ true → Collected (Some (doing_in command phase)) → Collected None
  ends_collected phase may h = clock_zero bound

-- ---- the drops that are owed

goes_owed : (b : Bool) (got : Option Answer) (d : DriverPart) (command : Command) (phase : Phase) → (goes_by b got d command phase).owed ≡ d.owed
goes_owed false got d command phase = refl
goes_owed true None d command phase = refl
goes_owed true (Some got) d command phase = refl

turned_owed : (d : DriverPart) (command : Command) (t : Turn) → (turned d command t).owed ≡ d.owed
turned_owed d command (Goes phase) = goes_owed (is_done d.owed d.told phase) (answer_of command phase) d command phase
turned_owed d command (Ends got) = refl

pub took_owed : (d : DriverPart) (command : Command) (phase : Phase) (owed : List OwedDrop) (outcome : Outcome) → (took (opened d command phase owed) outcome).owed ≡ owed_after d.me phase owed outcome
took_owed d command phase owed outcome = turned_owed (with_facts (opened d command phase owed) (doing_in command phase) outcome) command (turn d.me command phase outcome)

drop_clock : (holder clock : ℕ) (refs : List (NodeRef × ℕ)) (one : OwedDrop) → Has (drops_of holder clock refs) one → one.clock ≡ clock
drop_clock holder clock [] one h = absurd h
drop_clock holder clock (r ∷ rest) one (inl same) = ap (λ z. z.clock) same
drop_clock holder clock (r ∷ rest) one (inr further) = drop_clock holder clock rest one further

module _ (bound : ℕ) (me : ℕ) (owed : List OwedDrop) (old : (one : OwedDrop) → Has owed one → IsClock bound one.clock) where
  cancelled_clock : (phase : Phase) → ((stamp : ℕ) → stamp_of_phase phase ≡ Some stamp → IsClock bound stamp) → (one : OwedDrop) → Has (cancelled_drops phase) one → IsClock bound one.clock
  cancelled_clock (Committing sending stamp place) stamps one h = subst (IsClock bound) (sym (drop_clock _ stamp _ one h)) (stamps stamp refl)
  cancelled_clock phase stamps one h = absurd h

  -- what is owed after an answer has clocks within the bound
  pub owed_clock : (phase : Phase) (outcome : Outcome) → ((stamp : ℕ) → stamp_of_phase phase ≡ Some stamp → IsClock bound stamp) → BringsClock bound outcome → (one : OwedDrop) → Has (owed_after me phase owed outcome) one → IsClock bound one.clock
  owed_clock phase (out.Commit false) stamps brings one h = elim (has_append owed (cancelled_drops phase) one h) [ inl before ↦ old one before | inr new ↦ cancelled_clock phase stamps one new ]
  owed_clock phase (out.Reap (Some item) dead) stamps brings one h = subst (IsClock bound) (sym (drop_clock me item.clock item.drops one h)) brings
  owed_clock phase (out.Release (Ok given)) stamps brings one h = subst (IsClock bound) (sym (drop_clock me given.clock ((given.node, 1) ∷ []) one h)) brings
  owed_clock phase out.DropRefs stamps brings one h = old one (drop_has 1 owed one h)
  owed_clock phase outcome stamps brings one h = old one h

-- ---- whether a command waits for its stamp

abbrev pub waits_in : Option Doing → Bool
waits_in doing = elim doing [ None ↦ false | Some one ↦ can_be_stamped one.phase ]

-- an accepted begin
abbrev pub Begins : Outcome → Type 0
Begins (out.Begin (Ok begun)) = ⊤
Begins (out.BeginDestroy (Ok visit) doomed) = ⊤
Begins outcome = ⊥

module _ (command : Command) where
  -- it waited before, or has begun
  abbrev pub WaitsStill : Phase → Outcome → Option Doing → Type 0
  WaitsStill phase outcome doing = waits_in doing ≡ true → (can_be_stamped phase ≡ true) ⊎ Begins outcome

  all_waited : (phase : Phase) (outcome : Outcome) (t : Turn) → can_be_stamped phase ≡ true → OnTurn command (WaitsStill phase outcome) t
  all_waited phase outcome (Goes next) is = λ waits. inl is
  all_waited phase outcome (Ends got) is = λ waits. inl is

  idle_unstaging : (phase : Phase) (outcome : Outcome) (begun : Begun) (places : List (Option Reason)) (refused : Refused) (place : ℕ) → OnTurn command (WaitsStill phase outcome) (unstaging begun places refused place)
  idle_unstaging phase outcome begun places refused place = elim (is_place place places) as (λ b. OnTurn command (WaitsStill phase outcome) (cond b (Goes (Unstaging begun places refused place)) (Ends (answer.Refused refused)))) [ true ↦ λ waits. absurd (cc waits) | false ↦ λ waits. absurd (cc waits) ]

  pub idle_syncing : (sending : Sending) (stamp place : ℕ) → can_be_stamped (syncing sending stamp place) ≡ false
  idle_syncing sending stamp place = elim (is_place place sending.places) as (λ b. can_be_stamped (cond b (Syncing sending stamp place) (Committing sending stamp (accepted_from 0 sending.places))) ≡ false) [ true ↦ refl | false ↦ refl ]

  pub idle_notices : (d : Destruction) (stamp at : ℕ) → can_be_stamped (syncing_notices d stamp at) ≡ false
  idle_notices d stamp at = elim (nat_lt at (length d.staged)) as (λ b. can_be_stamped (cond b (SyncingNotices d stamp at) (CommittingOwn d stamp)) ≡ false) [ true ↦ refl | false ↦ refl ]

  idle_commits : (phase : Phase) (outcome : Outcome) (d : Destruction) (stamp at : ℕ) → OnTurn command (WaitsStill phase outcome) (committing_notices command d stamp at)
  idle_commits phase outcome d stamp at = by (nat_lt at (length d.staged)) (is_flushing command)
    where
      by : (b c : Bool) → OnTurn command (WaitsStill phase outcome) (cond b (Goes (CommittingNotices d stamp at)) (cond c (Goes (Flushing (Some stamp))) (Ends (answer.Destroyed stamp))))
      by true c = λ waits. absurd (cc waits)
      by false true = λ waits. absurd (cc waits)
      by false false = λ waits. absurd (cc waits)

  begins_waiting : (phase : Phase) (outcome : Outcome) → OnTurn command (WaitsStill phase outcome) (started command outcome)
  begins_waiting phase (out.Begin (Ok begun)) = λ waits. inr tt
  begins_waiting phase (out.Begin (Err r)) = λ waits. absurd (cc waits)
  begins_waiting phase (out.Recv got dead) = λ waits. absurd (cc waits)
  begins_waiting phase (out.Release (Ok owed)) = λ waits. absurd (cc waits)
  begins_waiting phase (out.Release (Err r)) = λ waits. absurd (cc waits)
  begins_waiting phase (out.BeginDestroy (Ok visit) doomed) = λ waits. inr tt
  begins_waiting phase (out.BeginDestroy (Err r) doomed) = λ waits. absurd (cc waits)
  begins_waiting phase (out.Local got) = λ waits. absurd (cc waits)
  begins_waiting phase outcome = λ waits. absurd (cc waits)

  pub waits_turn : (me : ℕ) (phase : Phase) (outcome : Outcome) → OnTurn command (WaitsStill phase outcome) (turn me command phase outcome)
  waits_turn me Starting outcome = begins_waiting Starting outcome
  waits_turn me (Staging begun places collected) outcome = all_waited (Staging begun places collected) outcome (turn me command (Staging begun places collected) outcome) refl
  waits_turn me (Attaching sending place slot) outcome = all_waited (Attaching sending place slot) outcome (turn me command (Attaching sending place slot) outcome) refl
  waits_turn me (Stamping sending) outcome = all_waited (Stamping sending) outcome (turn me command (Stamping sending) outcome) refl
  waits_turn me (Visiting d left) outcome = all_waited (Visiting d left) outcome (turn me command (Visiting d left) outcome) refl
  waits_turn me (Dooming d) outcome = all_waited (Dooming d) outcome (turn me command (Dooming d) outcome) refl
  waits_turn me (Unstaging begun places refused place) out.Unstage = idle_unstaging (Unstaging begun places refused place) out.Unstage begun places refused (accepted_from (place + 1) places)
  waits_turn me (Syncing sending stamp place) out.Sync = λ waits. let both : true ≡ false = sym waits ∙ idle_syncing sending stamp (accepted_from (place + 1) sending.places) in absurd (cc both)
  waits_turn me (Committing sending stamp place) (out.Commit found) = λ waits. absurd (cc waits)
  waits_turn me (SyncingNotices d stamp at) out.Sync = λ waits. let both : true ≡ false = sym waits ∙ idle_notices d stamp (at + 1) in absurd (cc both)
  waits_turn me (CommittingOwn d stamp) out.CommitNotices = idle_commits (CommittingOwn d stamp) out.CommitNotices d stamp 0
  waits_turn me (CommittingNotices d stamp at) out.CommitNotices = idle_commits (CommittingNotices d stamp at) out.CommitNotices d stamp (at + 1)
  waits_turn me (Flushing stamp) (out.Flush dead) = λ waits. absurd (cc waits)
  waits_turn me phase outcome = λ waits. absurd (cc waits)

  pub ends_waiting : (before : Phase) (outcome : Outcome) (phase : Phase) → may_end phase ≡ true → WaitsStill before outcome (Some (doing_in command phase)) → WaitsStill before outcome None
  ends_waiting before outcome phase may h = λ waits. absurd (cc waits)
