-- A stamp, once fixed, stays until the command ends; and what stands committed with it stays so.
use Rattle.std.proofs.Common.{◌≡◌, ◌⊎◌, refl, sym, ◌∙◌, inl, inr, ℕ, suc, ◌+◌, ◌<◌, ◌≤◌, max, Bool, true, false, cond, ◌&&◌, List, [], ◌∷◌, ◌++◌, drop, length, get_or, Option, Some, None, Ok, Err, nat_lt, nat_le}
use Rattle.std.proofs.lemmas.Bool.{leb-true, and_parts}
use native.Mathlib.Omega.{arith}
use Rattle.b1_model.specs.declared.naming.Key.{Key}
use Rattle.b1_model.specs.declared.commands.Command.{Command}
use Rattle.b1_model.specs.declared.answers.Answer.TheVariants as answer
use Rattle.b1_model.specs.declared.answers.Reason.{Reason}
use Rattle.b1_model.specs.declared.answers.Refused.{Refused}
use Rattle.b1_model.specs.declared.parts.Begun.{Begun}
use Rattle.b1_model.specs.declared.entries.Entry.{Entry}
use Rattle.b1_model.specs.declared.events.Outcome.{Outcome}
use Rattle.b1_model.specs.declared.events.Outcome.TheVariants as out
use Rattle.b1_model.specs.declared.events.Phase.{Phase}
use Rattle.b1_model.specs.declared.events.Phase.TheVariants.{Starting, Staging, Unstaging, Attaching, Stamping, Syncing, Committing, Visiting, Dooming, SyncingNotices, CommittingOwn, CommittingNotices, Flushing}
use Rattle.b1_model.specs.declared.events.Doing.{Doing}
use Rattle.b1_model.specs.declared.events.Destruction.{Destruction}
use Rattle.b1_model.specs.declared.events.Sending.{Sending}
use Rattle.b1_model.specs.MachineParts.{is_data}
use Rattle.b1_model.specs.MachineDriver.{next_accepted, accepted_from, is_place, attaching, with_slot, all_staged, staging, all_refused, unstaging, syncing, visiting, with_visit, syncing_notices, committing_notices, destroying, is_flushing, send_of, place_done, started, turn, Turn, Goes, Ends}
use Rattle.b1_inv.specs.Words.{is_accepted_place, stamp_of_phase, waits_at, phase_uncommitted}
use Rattle.b1_inv.specs.Stamps.{is_committing, is_committing_notices}
use Rattle.b1_inv_notices.proofs.Turns.{doing_in, OnTurn, may_end}
use Rattle.b1_inv_tools.proofs.Facts.{accepted_within}

-- the fixed stamp of what is open
abbrev pub fixed_in : Option Doing → Option ℕ
fixed_in doing = elim doing [ None ↦ None | Some one ↦ stamp_of_phase one.phase ]

-- an answer that gives a stamp
abbrev pub Gave : Outcome → ℕ → Type 0
Gave (out.Stamp given) stamp = given ≡ stamp
Gave (out.StampDestroy (Ok given)) stamp = given ≡ stamp
Gave outcome stamp = ⊥

-- ---- a stamp is the same as before, or was given

module _ (command : Command) where
  pub on_map : (P Q : Option Doing → Type 0) → ((doing : Option Doing) → P doing → Q doing) → (t : Turn) → OnTurn command P t → OnTurn command Q t
  on_map P Q f (Goes phase) h = f (Some (doing_in command phase)) h
  on_map P Q f (Ends got) h = f None h

  abbrev NoStamp : Option Doing → Type 0
  NoStamp doing = fixed_in doing ≡ None

  none_attaching : (sending : Sending) (place slot : ℕ) → stamp_of_phase (attaching sending place slot) ≡ None
  none_attaching sending place slot = by (nat_lt slot (length sending.begun.with)) (nat_lt 0 (length sending.begun.with) && is_place (accepted_from (place + 1) sending.places) sending.places) (accepted_from (place + 1) sending.places)
    where
      by : (b c : Bool) (next : ℕ) → stamp_of_phase (cond b (Attaching sending place slot) (cond c (Attaching sending next 0) (Stamping sending))) ≡ None
      by true c next = refl
      by false true next = refl
      by false false next = refl

  none_staging : (begun : Begun) (places : List (Option Reason)) (collected : ℕ) → OnTurn command NoStamp (staging begun places collected)
  none_staging begun places collected = by (nat_lt (length places) (length begun.to)) (is_place (accepted_from 0 places) places)
    where
      by : (b c : Bool) → OnTurn command NoStamp (cond b (Goes (Staging begun places collected)) (cond c (Goes (attaching (all_staged begun places collected) (accepted_from 0 places) 0)) (Ends (all_refused places))))
      by true c = refl
      by false true = none_attaching (all_staged begun places collected) (accepted_from 0 places) 0
      by false false = refl

  none_unstaging : (begun : Begun) (places : List (Option Reason)) (refused : Refused) (place : ℕ) → OnTurn command NoStamp (unstaging begun places refused place)
  none_unstaging begun places refused place = elim (is_place place places) as (λ b. OnTurn command NoStamp (cond b (Goes (Unstaging begun places refused place)) (Ends (answer.Refused refused)))) [ true ↦ refl | false ↦ refl ]

  none_refused : (r : Reason) (begun : Begun) (places : List (Option Reason)) (collected : ℕ) (go_on : Bool)
      → OnTurn command NoStamp (cond go_on (staging begun (places ++ Some r ∷ []) collected) (unstaging begun (places ++ Some r ∷ []) (record { reason = r; place = Some (length places) }) (accepted_from 0 (places ++ Some r ∷ []))))
  none_refused r begun places collected true = none_staging begun (places ++ Some r ∷ []) collected
  none_refused r begun places collected false = none_unstaging begun (places ++ Some r ∷ []) (record { reason = r; place = Some (length places) }) (accepted_from 0 (places ++ Some r ∷ []))

  none_visiting : (d : Destruction) (left : List ℕ) → stamp_of_phase (visiting d left) ≡ None
  none_visiting d [] = refl
  none_visiting d (peer ∷ rest) = refl

  none_destroying : (doomed visit : List ℕ) → stamp_of_phase (destroying doomed visit) ≡ None
  none_destroying [] visit = refl
  none_destroying (serial ∷ rest) visit = none_visiting (record { doomed = serial ∷ rest; collected = 0; staged = [] }) visit

  none_started : (outcome : Outcome) → OnTurn command NoStamp (started command outcome)
  none_started (out.Begin (Ok begun)) = refl
  none_started (out.Begin (Err r)) = refl
  none_started (out.Recv got dead) = refl
  none_started (out.Release (Ok owed)) = refl
  none_started (out.Release (Err r)) = refl
  none_started (out.BeginDestroy (Ok visit) doomed) = none_destroying doomed visit
  none_started (out.BeginDestroy (Err r) doomed) = refl
  none_started (out.Local got) = refl
  none_started outcome = refl

  -- the stamp of a phase, or the one that the answer gave
  abbrev pub SameOr : Phase → Outcome → Option Doing → Type 0
  SameOr phase outcome doing = (stamp : ℕ) → fixed_in doing ≡ Some stamp → (stamp_of_phase phase ≡ Some stamp) ⊎ Gave outcome stamp

  none_same : (phase : Phase) (outcome : Outcome) (t : Turn) → OnTurn command NoStamp t → OnTurn command (SameOr phase outcome) t
  none_same phase outcome t h = on_map NoStamp (SameOr phase outcome) (λ doing none stamp is. let both : Some stamp ≡ None = sym is ∙ none in absurd (cc both)) t h

  some_syncing : (sending : Sending) (stamp place : ℕ) → stamp_of_phase (syncing sending stamp place) ≡ Some stamp
  some_syncing sending stamp place = elim (is_place place sending.places) as (λ b. stamp_of_phase (cond b (Syncing sending stamp place) (Committing sending stamp (accepted_from 0 sending.places))) ≡ Some stamp) [ true ↦ refl | false ↦ refl ]

  some_notices : (d : Destruction) (stamp at : ℕ) → stamp_of_phase (syncing_notices d stamp at) ≡ Some stamp
  some_notices d stamp at = elim (nat_lt at (length d.staged)) as (λ b. stamp_of_phase (cond b (SyncingNotices d stamp at) (CommittingOwn d stamp)) ≡ Some stamp) [ true ↦ refl | false ↦ refl ]

  same_commits : (phase : Phase) (outcome : Outcome) (d : Destruction) (stamp at : ℕ) → stamp_of_phase phase ≡ Some stamp → OnTurn command (SameOr phase outcome) (committing_notices command d stamp at)
  same_commits phase outcome d stamp at is = by (nat_lt at (length d.staged)) (is_flushing command)
    where
      by : (b c : Bool) → OnTurn command (SameOr phase outcome) (cond b (Goes (CommittingNotices d stamp at)) (cond c (Goes (Flushing (Some stamp))) (Ends (answer.Destroyed stamp))))
      by true c = λ other same. inl (is ∙ same)
      by false true = λ other same. absurd (cc same)
      by false false = λ other same. absurd (cc same)

  pub stamp_turn : (me : ℕ) (phase : Phase) (outcome : Outcome) → OnTurn command (SameOr phase outcome) (turn me command phase outcome)
  stamp_turn me Starting outcome = none_same Starting outcome (started command outcome) (none_started outcome)
  stamp_turn me (Staging begun places collected) (out.Stage (Ok clock)) = none_same (Staging begun places collected) (out.Stage (Ok clock)) (staging begun (places ++ None ∷ []) (max collected clock)) (none_staging begun (places ++ None ∷ []) (max collected clock))
  stamp_turn me (Staging begun places collected) (out.Stage (Err r)) = none_same (Staging begun places collected) (out.Stage (Err r)) (place_done command begun places collected (Err r)) (none_refused r begun places collected (send_of command).go_on)
  stamp_turn me (Unstaging begun places refused place) out.Unstage = none_same (Unstaging begun places refused place) out.Unstage (unstaging begun places refused (accepted_from (place + 1) places)) (none_unstaging begun places refused (accepted_from (place + 1) places))
  stamp_turn me (Attaching sending place slot) (out.Attach got) = λ stamp is. let both : Some stamp ≡ None = sym is ∙ none_attaching (with_slot sending place slot got) place (slot + 1) in absurd (cc both)
  stamp_turn me (Stamping sending) (out.Stamp given) = λ stamp is. let same : Some given ≡ Some stamp = sym (some_syncing sending given _) ∙ is in inr (cc same)
  stamp_turn me (Syncing sending fixed place) out.Sync = λ stamp is. inl (sym (some_syncing sending fixed _) ∙ is)
  stamp_turn me (Committing sending fixed place) (out.Commit found) = λ stamp is. inl is
  stamp_turn me (Visiting d left) (out.Visit got) = λ stamp is. let both : Some stamp ≡ None = sym is ∙ none_visiting (with_visit d (get_or left 0 me) got) (drop 1 left) in absurd (cc both)
  stamp_turn me (Dooming d) (out.StampDestroy (Ok given)) = λ stamp is. let same : Some given ≡ Some stamp = sym (some_notices d given 0) ∙ is in inr (cc same)
  stamp_turn me (Dooming d) (out.StampDestroy (Err late)) = λ stamp is. let both : Some stamp ≡ None = sym is ∙ none_visiting d late in absurd (cc both)
  stamp_turn me (SyncingNotices d fixed at) out.Sync = λ stamp is. inl (sym (some_notices d fixed (at + 1)) ∙ is)
  stamp_turn me (CommittingOwn d fixed) out.CommitNotices = same_commits (CommittingOwn d fixed) out.CommitNotices d fixed 0 refl
  stamp_turn me (CommittingNotices d fixed at) out.CommitNotices = same_commits (CommittingNotices d fixed at) out.CommitNotices d fixed (at + 1) refl
  stamp_turn me (Flushing stamp) (out.Flush dead) = λ other is. absurd (cc is)
  stamp_turn me phase outcome = λ stamp is. inl is

  pub ends_same : (before : Phase) (outcome : Outcome) (phase : Phase) → may_end phase ≡ true → SameOr before outcome (Some (doing_in command phase)) → SameOr before outcome None
  ends_same before outcome phase may h = λ stamp is. absurd (cc is)

-- ---- what was committed with a stamp

-- an entry at peer q that a driver in a phase has committed
abbrev pub WasDone : ℕ → Phase → ℕ → Key × Entry → Type 0
WasDone me phase q f =
    ((is_data f.1 ≡ true) × (is_committing phase ≡ true) × (waits_at phase f.0.index ≡ false))
    ⊎ ((is_data f.1 ≡ false) × (is_committing_notices phase ≡ true) × (phase_uncommitted me phase q ≡ false))

-- an entry with the stamp of what is open was committed by it
abbrev pub NotAhead : ℕ → Option Doing → ℕ → Key × Entry → Type 0
NotAhead me doing q f = (one : Doing) → doing ≡ Some one → stamp_of_phase one.phase ≡ Some f.0.stamp → WasDone me one.phase q f

next_from : (here from : ℕ) (places : List (Option Reason)) → (from ≤ next_accepted here from places) ⊎ (next_accepted here from places ≡ here + length places)
next_from here from [] = inr (omega arith)
next_from here from (Some r ∷ rest) = elim (next_from (here + 1) from rest) [ inl above ↦ inl above | inr same ↦ inr (omega (arith, same)) ]
next_from here from (None ∷ rest) = by (nat_le from here) refl (next_from (here + 1) from rest)
  where
    by : (b : Bool) → nat_le from here ≡ b → (from ≤ next_accepted (here + 1) from rest) ⊎ (next_accepted (here + 1) from rest ≡ here + 1 + length rest) → (from ≤ cond b here (next_accepted (here + 1) from rest)) ⊎ (cond b here (next_accepted (here + 1) from rest) ≡ here + suc (length rest))
    by true is k = inl (leb-true from here is)
    by false is (inl above) = inl above
    by false is (inr same) = inr (omega (arith, same))

-- the places that wait after a commit are behind it, and waited before
pub later_waits : (places : List (Option Reason)) (place at : ℕ) → (nat_le (accepted_from (place + 1) places) at && is_accepted_place places at) ≡ true → (place < at) × (is_accepted_place places at ≡ true)
later_waits places place at is =
    let k = and_parts (nat_le (accepted_from (place + 1) places) at) (is_accepted_place places at) is in
    let below = leb-true (accepted_from (place + 1) places) at k.0 in
    let within = accepted_within places at k.1 in
    (elim (next_from 0 (place + 1) places) [ inl above ↦ omega (arith, above, below) | inr same ↦ absurd (omega (arith, same, below, within)) ], k.1)
