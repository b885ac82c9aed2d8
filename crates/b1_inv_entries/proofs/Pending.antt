-- A place of a SEND that waits after an event waited before it and wasn't the event's, or the event staged its message.
use Rattle.std.proofs.Common.{◌≡◌, ◌⊎◌, refl, ap, subst, inl, inr, ℕ, zero, suc, ◌+◌, ◌<◌, ◌≤◌, max, Bool, true, false, cond, ◌&&◌, nat_lt, nat_le, List, [], ◌∷◌, ◌++◌, drop, get_or, length, Option, Some, None, Ok, Err}
use Rattle.std.specs.Prelude.{⊤}
use Rattle.std.proofs.lemmas.Bool.{and_parts, and_from, leb-true, le-leb}
use native.Mathlib.Omega.{arith}
use Rattle.b1_model.specs.declared.commands.Command.{Command}
use Rattle.b1_model.specs.declared.naming.Opening.{Opening}
use Rattle.b1_model.specs.declared.answers.Answer.TheVariants as answer
use Rattle.b1_model.specs.declared.answers.Reason.{Reason}
use Rattle.b1_model.specs.declared.answers.Refused.{Refused}
use Rattle.b1_model.specs.declared.parts.Begun.{Begun}
use Rattle.b1_model.specs.declared.events.Destruction.{Destruction}
use Rattle.b1_model.specs.declared.events.Doing.{Doing}
use Rattle.b1_model.specs.declared.events.Outcome.{Outcome}
use Rattle.b1_model.specs.declared.events.Outcome.TheVariants as out
use Rattle.b1_model.specs.declared.events.Phase.{Phase}
use Rattle.b1_model.specs.declared.events.Phase.TheVariants.{Starting, Staging, Unstaging, Attaching, Stamping, Syncing, Committing, Visiting, Dooming, SyncingNotices, CommittingOwn, CommittingNotices, Flushing}
use Rattle.b1_model.specs.declared.events.Sending.{Sending}
use Rattle.b1_model.specs.MachineParts.{State}
use Rattle.b1_model.specs.MachineDriver.{accepted_from, is_place, attaching, with_slot, all_staged, staging, all_refused, unstaging, syncing, visiting, with_visit, syncing_notices, committing_notices, destroying, is_flushing, send_of, started, turn, Turn, Goes, Ends}
use Rattle.b1_model.specs.MachineEvents.{begun_of}
use Rattle.b1_model.specs.MachineStep.{Step}
use Rattle.b1_inv.specs.Words.{is_accepted_place, waits_at}
use Rattle.b1_inv_sends.proofs.Places.{accepted_within, next_accepted_place, next_cases}
use Rattle.b1_inv_notices.proofs.Turns.{doing_in, OnTurn, may_end, took_leaves, parts, going_answer}

-- an accepted place of some places and one more is an old one, or the new one
pub accepted_cases : (places : List (Option Reason)) (one : Option Reason) (at : ℕ) → is_accepted_place (places ++ one ∷ []) at ≡ true → (is_accepted_place places at ≡ true) ⊎ ((at ≡ length places) × (one ≡ None))
accepted_cases [] None zero is = inr (refl, refl)
accepted_cases [] (Some r) zero is = absurd (cc is)
accepted_cases [] one (suc at) is = absurd (cc is)
accepted_cases (first ∷ rest) one zero is = inl is
accepted_cases (first ∷ rest) one (suc at) is = elim (accepted_cases rest one at is) [ inl old ↦ inl old | inr new ↦ inr (ap suc new.0, new.1) ]

-- the event isn't the one that takes back or commits the message of a place
abbrev pub Passed : Phase → Outcome → ℕ → Type 0
Passed (Unstaging begun places refused place) out.Unstage at = place < at
Passed (Committing sending stamp place) (out.Commit found) at = place < at
Passed phase outcome at = ⊤

-- the event staged the message of a place
abbrev pub Placed : Phase → Outcome → ℕ → Begun → Type 0
Placed (Staging begun places collected) (out.Stage (Ok clock)) at after = (at ≡ length places) × (after ≡ begun)
Placed phase outcome at after = ⊥

-- what a waiting place of a phase comes from
abbrev pub Waited : Phase → Outcome → ℕ → Phase → Type 0
Waited before outcome at phase = ((waits_at before at ≡ true) × (begun_of phase ≡ begun_of before) × Passed before outcome at) ⊎ Placed before outcome at (begun_of phase)

module _ (command : Command) (before : Phase) (outcome : Outcome) (at : ℕ) where
  -- the same of what is open
  abbrev pub WaitedIn : Option Doing → Type 0
  WaitedIn None = ⊤
  WaitedIn (Some one) = waits_at one.phase at ≡ true → Waited before outcome at one.phase

  abbrev pub Turned : Turn → Type 0
  Turned t = OnTurn command WaitedIn t

  waited_ends : (phase : Phase) → may_end phase ≡ true → WaitedIn (Some (doing_in command phase)) → WaitedIn None
  waited_ends phase may h = tt

  in_attaching : (sending : Sending) (place slot : ℕ) → ((phase : Phase) → begun_of phase ≡ sending.begun → is_accepted_place sending.places at ≡ true → Waited before outcome at phase) → Turned (Goes (attaching sending place slot))
  in_attaching sending place slot each = by (nat_lt slot (length sending.begun.with)) (nat_lt 0 (length sending.begun.with) && is_place (accepted_from (place + 1) sending.places) sending.places) (accepted_from (place + 1) sending.places)
    where
      by : (b c : Bool) (next : ℕ) → Turned (Goes (cond b (Attaching sending place slot) (cond c (Attaching sending next 0) (Stamping sending))))
      by true c next = λ waits. each (Attaching sending place slot) refl waits
      by false true next = λ waits. each (Attaching sending next 0) refl waits
      by false false next = λ waits. each (Stamping sending) refl waits

  in_staging : (begun : Begun) (places : List (Option Reason)) (collected : ℕ) → ((phase : Phase) → begun_of phase ≡ begun → is_accepted_place places at ≡ true → Waited before outcome at phase) → Turned (staging begun places collected)
  in_staging begun places collected each = by (nat_lt (length places) (length begun.to)) (is_place (accepted_from 0 places) places)
    where
      by : (b c : Bool) → Turned (cond b (Goes (Staging begun places collected)) (cond c (Goes (attaching (all_staged begun places collected) (accepted_from 0 places) 0)) (Ends (all_refused places))))
      by true c = λ waits. each (Staging begun places collected) refl waits
      by false true = in_attaching (all_staged begun places collected) (accepted_from 0 places) 0 each
      by false false = tt

  in_unstaging : (begun : Begun) (places : List (Option Reason)) (refused : Refused) (from : ℕ) → ((phase : Phase) → begun_of phase ≡ begun → from ≤ at → is_accepted_place places at ≡ true → Waited before outcome at phase) → Turned (unstaging begun places refused (accepted_from from places))
  in_unstaging begun places refused from each = by (is_place (accepted_from from places) places) refl
    where
      by : (b : Bool) → is_place (accepted_from from places) places ≡ b → Turned (cond b (Goes (Unstaging begun places refused (accepted_from from places))) (Ends (answer.Refused refused)))
      by false is = tt
      by true is = λ waits.
          let both = and_parts (nat_le (accepted_from from places) at) (is_accepted_place places at) waits in
          let most = leb-true (accepted_from from places) at both.0 in
          let next = (next_accepted_place from places is).behind in
          each (Unstaging begun places refused (accepted_from from places)) refl (omega (arith, most, next)) both.1

  in_place : (r : Reason) (begun : Begun) (places : List (Option Reason)) (collected : ℕ) (go_on : Bool) → ((phase : Phase) → begun_of phase ≡ begun → is_accepted_place (places ++ Some r ∷ []) at ≡ true → Waited before outcome at phase)
      → Turned (cond go_on (staging begun (places ++ Some r ∷ []) collected) (unstaging begun (places ++ Some r ∷ []) (record { reason = r; place = Some (length places) }) (accepted_from 0 (places ++ Some r ∷ []))))
  in_place r begun places collected true each = in_staging begun (places ++ Some r ∷ []) collected each
  in_place r begun places collected false each = in_unstaging begun (places ++ Some r ∷ []) (record { reason = r; place = Some (length places) }) 0 (λ phase same low is. each phase same is)

  in_syncing : (sending : Sending) (stamp place : ℕ) → ((phase : Phase) → begun_of phase ≡ sending.begun → is_accepted_place sending.places at ≡ true → Waited before outcome at phase) → Turned (Goes (syncing sending stamp place))
  in_syncing sending stamp place each = elim (is_place place sending.places) as (λ b. Turned (Goes (cond b (Syncing sending stamp place) (Committing sending stamp (accepted_from 0 sending.places))))) [
    | true ↦ λ waits. each (Syncing sending stamp place) refl waits
    | false ↦ λ waits. each (Committing sending stamp (accepted_from 0 sending.places)) refl (and_parts (nat_le (accepted_from 0 sending.places) at) (is_accepted_place sending.places at) waits).1
  ]

  in_committing : (sending : Sending) (stamp from : ℕ) → ((phase : Phase) → begun_of phase ≡ sending.begun → from ≤ at → is_accepted_place sending.places at ≡ true → Waited before outcome at phase) → Turned (Goes (Committing sending stamp (accepted_from from sending.places)))
  in_committing sending stamp from each = λ waits.
      let both = and_parts (nat_le (accepted_from from sending.places) at) (is_accepted_place sending.places at) waits in
      let most = leb-true (accepted_from from sending.places) at both.0 in
      elim (next_cases from sending.places) [
        | inl end ↦ let within = accepted_within sending.places at both.1 in absurd (omega (arith, end, most, within))
        | inr next ↦ let low = next.behind in each (Committing sending stamp (accepted_from from sending.places)) refl (omega (arith, most, low)) both.1
      ]

  none_visiting : (d : Destruction) (left : List ℕ) → Turned (Goes (visiting d left))
  none_visiting d [] = λ waits. absurd (cc waits)
  none_visiting d (peer ∷ rest) = λ waits. absurd (cc waits)

  none_notices : (d : Destruction) (stamp place : ℕ) → Turned (Goes (syncing_notices d stamp place))
  none_notices d stamp place = elim (nat_lt place (length d.staged)) as (λ b. Turned (Goes (cond b (SyncingNotices d stamp place) (CommittingOwn d stamp)))) [ true ↦ λ waits. absurd (cc waits) | false ↦ λ waits. absurd (cc waits) ]

  none_commits : (d : Destruction) (stamp place : ℕ) → Turned (committing_notices command d stamp place)
  none_commits d stamp place = by (nat_lt place (length d.staged)) (is_flushing command)
    where
      by : (b c : Bool) → Turned (cond b (Goes (CommittingNotices d stamp place)) (cond c (Goes (Flushing (Some stamp))) (Ends (answer.Destroyed stamp))))
      by true c = λ waits. absurd (cc waits)
      by false true = λ waits. absurd (cc waits)
      by false false = tt

  none_destroying : (doomed visit : List ℕ) → Turned (Goes (destroying doomed visit))
  none_destroying [] visit = λ waits. absurd (cc waits)
  none_destroying (serial ∷ rest) visit = none_visiting (record { doomed = serial ∷ rest; collected = 0; staged = [] }) visit

started_waited : (command : Command) (outcome : Outcome) (at : ℕ) → Turned command Starting outcome at (started command outcome)
started_waited command (out.Begin (Ok begun)) at = λ waits. absurd (cc waits)
started_waited command (out.Begin (Err r)) at = tt
started_waited command (out.Recv got dead) at = λ waits. absurd (cc waits)
started_waited command (out.Release (Ok owed)) at = λ waits. absurd (cc waits)
started_waited command (out.Release (Err r)) at = tt
started_waited command (out.BeginDestroy (Ok visit) doomed) at = none_destroying command Starting (out.BeginDestroy (Ok visit) doomed) at doomed visit
started_waited command (out.BeginDestroy (Err r) doomed) at = tt
started_waited command (out.Local got) at = tt
started_waited command outcome at = λ waits. absurd (cc waits)

turn_waited : (command : Command) (me : ℕ) (phase : Phase) (outcome : Outcome) (at : ℕ) → Turned command phase outcome at (turn me command phase outcome)
turn_waited command me Starting outcome at = started_waited command outcome at
turn_waited command me (Staging begun places collected) (out.Stage (Ok clock)) at =
    in_staging command (Staging begun places collected) (out.Stage (Ok clock)) at begun (places ++ None ∷ []) (max collected clock)
    (λ phase same is. elim (accepted_cases places None at is) [ inl old ↦ inl (old, same, tt) | inr new ↦ inr (new.0, same) ])
turn_waited command me (Staging begun places collected) (out.Stage (Err r)) at =
    in_place command (Staging begun places collected) (out.Stage (Err r)) at r begun places collected (send_of command).go_on
    (λ phase same is. elim (accepted_cases places (Some r) at is) [ inl old ↦ inl (old, same, tt) | inr new ↦ let none : Some r ≡ None = new.1 in absurd (cc none) ])
turn_waited command me (Unstaging begun places refused place) out.Unstage at =
    in_unstaging command (Unstaging begun places refused place) out.Unstage at begun places refused (place + 1)
    (λ phase same low is. inl (and_from (nat_le place at) (is_accepted_place places at) (le-leb place at (omega (arith, low))) is, same, omega (arith, low)))
turn_waited command me (Attaching sending place slot) (out.Attach got) at = in_attaching command (Attaching sending place slot) (out.Attach got) at (with_slot sending place slot got) place (slot + 1) (λ phase same is. inl (is, same, tt))
turn_waited command me (Stamping sending) (out.Stamp stamp) at = in_syncing command (Stamping sending) (out.Stamp stamp) at sending stamp (accepted_from 0 sending.places) (λ phase same is. inl (is, same, tt))
turn_waited command me (Syncing sending stamp place) out.Sync at = in_syncing command (Syncing sending stamp place) out.Sync at sending stamp (accepted_from (place + 1) sending.places) (λ phase same is. inl (is, same, tt))
turn_waited command me (Committing sending stamp place) (out.Commit found) at =
    in_committing command (Committing sending stamp place) (out.Commit found) at sending stamp (place + 1)
    (λ phase same low is. inl (and_from (nat_le place at) (is_accepted_place sending.places at) (le-leb place at (omega (arith, low))) is, same, omega (arith, low)))
turn_waited command me (Visiting d left) (out.Visit got) at = none_visiting command (Visiting d left) (out.Visit got) at (with_visit d (get_or left 0 me) got) (drop 1 left)
turn_waited command me (Dooming d) (out.StampDestroy (Ok stamp)) at = none_notices command (Dooming d) (out.StampDestroy (Ok stamp)) at d stamp 0
turn_waited command me (Dooming d) (out.StampDestroy (Err late)) at = none_visiting command (Dooming d) (out.StampDestroy (Err late)) at d late
turn_waited command me (SyncingNotices d stamp place) out.Sync at = none_notices command (SyncingNotices d stamp place) out.Sync at d stamp (place + 1)
turn_waited command me (CommittingOwn d stamp) out.CommitNotices at = none_commits command (CommittingOwn d stamp) out.CommitNotices at d stamp 0
turn_waited command me (CommittingNotices d stamp place) out.CommitNotices at = none_commits command (CommittingNotices d stamp place) out.CommitNotices at d stamp (place + 1)
turn_waited command me (Flushing stamp) (out.Flush dead) at = λ waits. absurd (cc waits)
turn_waited command me phase outcome at = λ waits. inl (waits, refl, tt)

module _ {o : Opening} {s : State} {p : ℕ} {c : Option Command} {t : State} (step : Step o s p c t) where
  -- a place of the stepping driver's open SEND that waits after the step
  pub place_waited : (at : ℕ) (doing : Doing) → step.new_driver.doing ≡ Some doing → waits_at doing.phase at ≡ true → Waited (parts step).phase (going_answer step) at doing.phase
  place_waited at doing is =
      subst (WaitedIn (parts step).command (parts step).phase (going_answer step) at) is
      (subst (λ e. WaitedIn (parts step).command (parts step).phase (going_answer step) at e.doing) (parts step).is_driver
      (took_leaves (WaitedIn (parts step).command (parts step).phase (going_answer step) at) (parts step).command (waited_ends (parts step).command (parts step).phase (going_answer step) at) step.driver (parts step).phase step.driver.owed (going_answer step)
      (turn_waited (parts step).command step.driver.me (parts step).phase (going_answer step) at)))
