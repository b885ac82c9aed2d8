-- A command's collected clock doesn't fall while it has entries staged, and takes in the clock of each peer where it stages.
use Rattle.std.proofs.Common.{◌≡◌, refl, subst, ℕ, ◌+◌, ◌≤◌, max, Bool, true, false, cond, ◌&&◌, nat_lt, List, [], ◌∷◌, ◌++◌, drop, length, get_or, Option, Some, None, Ok, Err}
use Rattle.std.specs.Prelude.{⊤}
use native.Mathlib.Omega.{arith}
use Rattle.b1_model.specs.declared.commands.Command.{Command}
use Rattle.b1_model.specs.declared.answers.Answer.TheVariants as answer
use Rattle.b1_model.specs.declared.answers.Reason.{Reason}
use Rattle.b1_model.specs.declared.answers.Refused.{Refused}
use Rattle.b1_model.specs.declared.parts.Attach.{Attach}
use Rattle.b1_model.specs.declared.parts.Attach.TheVariants as attach
use Rattle.b1_model.specs.declared.parts.Begun.{Begun}
use Rattle.b1_model.specs.declared.events.Destruction.{Destruction}
use Rattle.b1_model.specs.declared.events.Doing.{Doing}
use Rattle.b1_model.specs.declared.events.Outcome.{Outcome}
use Rattle.b1_model.specs.declared.events.Outcome.TheVariants as out
use Rattle.b1_model.specs.declared.events.Phase.{Phase}
use Rattle.b1_model.specs.declared.events.Phase.TheVariants.{Starting, Staging, Unstaging, Attaching, Stamping, Syncing, Committing, Visiting, Dooming, SyncingNotices, CommittingOwn, CommittingNotices, Flushing}
use Rattle.b1_model.specs.declared.events.Sending.{Sending}
use Rattle.b1_model.specs.MachineDriver.{accepted_from, is_place, attaching, with_slot, all_staged, staging, all_refused, unstaging, syncing, visiting, with_visit, syncing_notices, committing_notices, is_flushing, send_of, turn, Turn, Goes, Ends}
use Rattle.b1_model.specs.MachineEvents.{collected_of}
use Rattle.b1_inv_record.specs.Epochs.{is_unstaging}
use Rattle.b1_inv_notices.proofs.Turns.{doing_in, OnTurn}

-- a phase in which a command can have entries staged
abbrev pub holds : Phase → Bool
holds (Staging begun places collected) = true
holds (Unstaging begun places refused place) = true
holds (Attaching sending place slot) = true
holds (Stamping sending) = true
holds (Syncing sending stamp place) = true
holds (Committing sending stamp place) = true
holds (Visiting destruction left) = true
holds (Dooming destruction) = true
holds (SyncingNotices destruction stamp at) = true
holds (CommittingOwn destruction stamp) = true
holds (CommittingNotices destruction stamp at) = true
holds phase = false

-- the clock that an answer brings is collected
abbrev pub Collected : Phase → Outcome → Phase → Type 0
Collected (Staging begun places collected) (out.Stage (Ok clock)) after = clock ≤ collected_of after
Collected (Visiting destruction left) (out.Visit got) after = got.clock ≤ collected_of after
Collected phase outcome after = ⊤

-- where entries can stand staged after an answer, no less is collected than before
abbrev pub More : Phase → Outcome → Phase → Type 0
More phase outcome after = holds after ≡ true → is_unstaging after ≡ false → (is_unstaging phase ≡ false) × (collected_of phase ≤ collected_of after) × Collected phase outcome after

module _ (command : Command) (before : Phase) (outcome : Outcome) where
  -- the same of what is open
  abbrev pub MoreIn : Option Doing → Type 0
  MoreIn doing = (one : Doing) → doing ≡ Some one → More before outcome one.phase

  pub more_phase : (phase : Phase) → More before outcome phase → MoreIn (Some (doing_in command phase))
  more_phase phase h one is = let same : doing_in command phase ≡ one = cc is in subst {A = Doing} (λ z. More before outcome z.phase) same h

  pub more_none : MoreIn None
  more_none one is = absurd (cc is)

  -- whatever follows
  all_more : (t : Turn) → ((after : Phase) → More before outcome after) → OnTurn command MoreIn t
  all_more (Goes phase) each = more_phase phase (each phase)
  all_more (Ends got) each = more_none

  more_attaching : (sending : Sending) (place slot : ℕ) → ((after : Phase) → collected_of after ≡ sending.collected → More before outcome after) → MoreIn (Some (doing_in command (attaching sending place slot)))
  more_attaching sending place slot each = by (nat_lt slot (length sending.begun.with)) (nat_lt 0 (length sending.begun.with) && is_place (accepted_from (place + 1) sending.places) sending.places) (accepted_from (place + 1) sending.places)
    where
      by : (b c : Bool) (next : ℕ) → MoreIn (Some (doing_in command (cond b (Attaching sending place slot) (cond c (Attaching sending next 0) (Stamping sending)))))
      by true c next = more_phase (Attaching sending place slot) (each (Attaching sending place slot) refl)
      by false true next = more_phase (Attaching sending next 0) (each (Attaching sending next 0) refl)
      by false false next = more_phase (Stamping sending) (each (Stamping sending) refl)

  more_staging : (begun : Begun) (places : List (Option Reason)) (collected : ℕ) → ((after : Phase) → collected_of after ≡ collected → More before outcome after) → OnTurn command MoreIn (staging begun places collected)
  more_staging begun places collected each = by (nat_lt (length places) (length begun.to)) (is_place (accepted_from 0 places) places)
    where
      by : (b c : Bool) → OnTurn command MoreIn (cond b (Goes (Staging begun places collected)) (cond c (Goes (attaching (all_staged begun places collected) (accepted_from 0 places) 0)) (Ends (all_refused places))))
      by true c = more_phase (Staging begun places collected) (each (Staging begun places collected) refl)
      by false true = more_attaching (all_staged begun places collected) (accepted_from 0 places) 0 each
      by false false = more_none

  more_unstaging : (begun : Begun) (places : List (Option Reason)) (refused : Refused) (place : ℕ) → OnTurn command MoreIn (unstaging begun places refused place)
  more_unstaging begun places refused place = elim (is_place place places) as (λ b. OnTurn command MoreIn (cond b (Goes (Unstaging begun places refused place)) (Ends (answer.Refused refused)))) [
    | true ↦ more_phase (Unstaging begun places refused place) (λ held un. absurd (cc un))
    | false ↦ more_none
  ]

  more_refused : (r : Reason) (begun : Begun) (places : List (Option Reason)) (collected : ℕ) (go_on : Bool) → ((after : Phase) → collected_of after ≡ collected → More before outcome after)
      → OnTurn command MoreIn (cond go_on (staging begun (places ++ Some r ∷ []) collected) (unstaging begun (places ++ Some r ∷ []) (record { reason = r; place = Some (length places) }) (accepted_from 0 (places ++ Some r ∷ []))))
  more_refused r begun places collected true each = more_staging begun (places ++ Some r ∷ []) collected each
  more_refused r begun places collected false each = more_unstaging begun (places ++ Some r ∷ []) (record { reason = r; place = Some (length places) }) (accepted_from 0 (places ++ Some r ∷ []))

  more_syncing : (sending : Sending) (stamp place : ℕ) → ((after : Phase) → collected_of after ≡ sending.collected → More before outcome after) → MoreIn (Some (doing_in command (syncing sending stamp place)))
  more_syncing sending stamp place each = elim (is_place place sending.places) as (λ b. MoreIn (Some (doing_in command (cond b (Syncing sending stamp place) (Committing sending stamp (accepted_from 0 sending.places)))))) [
    | true ↦ more_phase (Syncing sending stamp place) (each (Syncing sending stamp place) refl)
    | false ↦ more_phase (Committing sending stamp (accepted_from 0 sending.places)) (each (Committing sending stamp (accepted_from 0 sending.places)) refl)
  ]

  more_visiting : (d : Destruction) (left : List ℕ) → ((after : Phase) → collected_of after ≡ d.collected → More before outcome after) → MoreIn (Some (doing_in command (visiting d left)))
  more_visiting d [] each = more_phase (Dooming d) (each (Dooming d) refl)
  more_visiting d (peer ∷ rest) each = more_phase (Visiting d (peer ∷ rest)) (each (Visiting d (peer ∷ rest)) refl)

  more_notices : (d : Destruction) (stamp at : ℕ) → ((after : Phase) → collected_of after ≡ d.collected → More before outcome after) → MoreIn (Some (doing_in command (syncing_notices d stamp at)))
  more_notices d stamp at each = elim (nat_lt at (length d.staged)) as (λ b. MoreIn (Some (doing_in command (cond b (SyncingNotices d stamp at) (CommittingOwn d stamp))))) [
    | true ↦ more_phase (SyncingNotices d stamp at) (each (SyncingNotices d stamp at) refl)
    | false ↦ more_phase (CommittingOwn d stamp) (each (CommittingOwn d stamp) refl)
  ]

  more_commits : (d : Destruction) (stamp at : ℕ) → ((after : Phase) → collected_of after ≡ d.collected → More before outcome after) → OnTurn command MoreIn (committing_notices command d stamp at)
  more_commits d stamp at each = by (nat_lt at (length d.staged)) (is_flushing command)
    where
      by : (b c : Bool) → OnTurn command MoreIn (cond b (Goes (CommittingNotices d stamp at)) (cond c (Goes (Flushing (Some stamp))) (Ends (answer.Destroyed stamp))))
      by true c = more_phase (CommittingNotices d stamp at) (each (CommittingNotices d stamp at) refl)
      by false true = more_phase (Flushing (Some stamp)) (λ held un. absurd (cc held))
      by false false = more_none

-- an attach collects no less
slot_more : (sending : Sending) (place slot : ℕ) (got : Attach) → sending.collected ≤ (with_slot sending place slot got).collected
slot_more sending place slot attach.Counted = omega arith
slot_more sending place slot attach.Own = omega arith
slot_more sending place slot (attach.Void stamp) = omega arith

module _ (command : Command) where
  pub more_turn : (me : ℕ) (phase : Phase) (outcome : Outcome) → OnTurn command (MoreIn command phase outcome) (turn me command phase outcome)
  more_turn me Starting outcome = all_more command Starting outcome (turn me command Starting outcome) (λ after held un. (refl, omega arith, tt))
  more_turn me (Staging begun places collected) (out.Stage (Ok clock)) =
      more_staging command (Staging begun places collected) (out.Stage (Ok clock)) begun (places ++ None ∷ []) (max collected clock) (λ after is held un. (refl, omega (arith, is), omega (arith, is)))
  more_turn me (Staging begun places collected) (out.Stage (Err r)) =
      more_refused command (Staging begun places collected) (out.Stage (Err r)) r begun places collected (send_of command).go_on (λ after is held un. (refl, omega (arith, is), tt))
  more_turn me (Unstaging begun places refused place) out.Unstage = more_unstaging command (Unstaging begun places refused place) out.Unstage begun places refused (accepted_from (place + 1) places)
  more_turn me (Attaching sending place slot) (out.Attach got) =
      let more = slot_more sending place slot got in
      more_attaching command (Attaching sending place slot) (out.Attach got) (with_slot sending place slot got) place (slot + 1) (λ after is held un. (refl, omega (arith, is, more), tt))
  more_turn me (Stamping sending) (out.Stamp stamp) = more_syncing command (Stamping sending) (out.Stamp stamp) sending stamp (accepted_from 0 sending.places) (λ after is held un. (refl, omega (arith, is), tt))
  more_turn me (Syncing sending stamp place) out.Sync = more_syncing command (Syncing sending stamp place) out.Sync sending stamp (accepted_from (place + 1) sending.places) (λ after is held un. (refl, omega (arith, is), tt))
  more_turn me (Committing sending stamp place) (out.Commit found) =
      more_phase command (Committing sending stamp place) (out.Commit found) (Committing sending stamp (accepted_from (place + 1) sending.places)) (λ held un. (refl, omega arith, tt))
  more_turn me (Visiting d left) (out.Visit got) =
      more_visiting command (Visiting d left) (out.Visit got) (with_visit d (get_or left 0 me) got) (drop 1 left) (λ after is held un. (refl, omega (arith, is), omega (arith, is)))
  more_turn me (Dooming d) (out.StampDestroy (Ok stamp)) = more_notices command (Dooming d) (out.StampDestroy (Ok stamp)) d stamp 0 (λ after is held un. (refl, omega (arith, is), tt))
  more_turn me (Dooming d) (out.StampDestroy (Err late)) = more_visiting command (Dooming d) (out.StampDestroy (Err late)) d late (λ after is held un. (refl, omega (arith, is), tt))
  more_turn me (SyncingNotices d stamp at) out.Sync = more_notices command (SyncingNotices d stamp at) out.Sync d stamp (at + 1) (λ after is held un. (refl, omega (arith, is), tt))
  more_turn me (CommittingOwn d stamp) out.CommitNotices = more_commits command (CommittingOwn d stamp) out.CommitNotices d stamp 0 (λ after is held un. (refl, omega (arith, is), tt))
  more_turn me (CommittingNotices d stamp at) out.CommitNotices = more_commits command (CommittingNotices d stamp at) out.CommitNotices d stamp (at + 1) (λ after is held un. (refl, omega (arith, is), tt))
  more_turn me (Flushing stamp) (out.Flush dead) = all_more command (Flushing stamp) (out.Flush dead) (turn me command (Flushing stamp) (out.Flush dead)) (λ after held un. (refl, omega arith, tt))
  more_turn me phase outcome = more_phase command phase outcome phase (λ held un. (un, omega arith, tt))
