-- A destruction with a stamp has the nodes that it had, and its stamp, since it got it.
use Rattle.std.proofs.Common.{◌≡◌, refl, sym, ap, subst, ◌∙◌, ℕ, ◌+◌, Bool, true, false, cond, ◌&&◌, nat_lt, List, [], ◌∷◌, ◌++◌, drop, get_or, length, max, Option, Some, None, Ok, Err}
use Rattle.std.specs.Prelude.{slice_get, ⊤}
use Rattle.b1_model.specs.declared.commands.Command.{Command}
use Rattle.b1_model.specs.declared.answers.Answer.TheVariants as answer
use Rattle.b1_model.specs.declared.answers.Reason.{Reason}
use Rattle.b1_model.specs.declared.answers.Refused.{Refused}
use Rattle.b1_model.specs.declared.parts.Begun.{Begun}
use Rattle.b1_model.specs.declared.events.Destruction.{Destruction}
use Rattle.b1_model.specs.declared.events.Doing.{Doing}
use Rattle.b1_model.specs.declared.events.Outcome.{Outcome}
use Rattle.b1_model.specs.declared.events.Outcome.TheVariants as out
use Rattle.b1_model.specs.declared.events.Phase.{Phase}
use Rattle.b1_model.specs.declared.events.Phase.TheVariants.{Starting, Staging, Unstaging, Attaching, Stamping, Syncing, Committing, Dropping, Reaping, Visiting, Dooming, SyncingNotices, CommittingOwn, CommittingNotices, Flushing}
use Rattle.b1_model.specs.declared.events.Sending.{Sending}
use Rattle.b1_model.specs.MachineDriver.{accepted_from, is_place, attaching, with_slot, all_staged, staging, all_refused, unstaging, syncing, visiting, with_visit, syncing_notices, committing_notices, destroying, is_flushing, send_of, recv_answer, started, turn, Turn, Goes, Ends}
use Rattle.b1_model.specs.MachineEvents.{doomed_of}
use Rattle.b1_inv.specs.Words.{stamp_of_phase}
use Rattle.b1_inv_notices.proofs.Turns.{OnTurn}
use Rattle.b1_inv_doomed.proofs.CalmCalls.{NoStamp}

-- what is open has this stamp and dooms this node at this place only where P says so
abbrev pub PlacedBy : (ℕ → ℕ → ℕ → Type 0) → Option Doing → Type 0
PlacedBy P None = ⊤
PlacedBy P (Some doing) = (stamp i serial : ℕ) → stamp_of_phase doing.phase ≡ Some stamp → slice_get (doomed_of doing.phase) i ≡ Some serial → P stamp i serial

-- it was so before
abbrev pub WasPlaced : Phase → ℕ → ℕ → ℕ → Type 0
WasPlaced before stamp i serial = (stamp_of_phase before ≡ Some stamp) × (slice_get (doomed_of before) i ≡ Some serial)

module _ (P : ℕ → ℕ → ℕ → Type 0) (command : Command) where
  abbrev pub Placed : Turn → Type 0
  Placed to = OnTurn command (PlacedBy P) to

  unstamped : (phase : Phase) → stamp_of_phase phase ≡ None → Placed (Goes phase)
  unstamped phase none = λ stamp i serial is at. let both : None ≡ Some stamp = sym none ∙ is in absurd (cc both)

  undoomed : (phase : Phase) → doomed_of phase ≡ [] → Placed (Goes phase)
  undoomed phase none = λ stamp i serial is at. let both : slice_get {X = ℕ} [] i ≡ Some serial = ap (λ l. slice_get l i) (sym none) ∙ at in absurd (cc both)

  placed_attaching : (sending : Sending) (place slot : ℕ) → Placed (Goes (attaching sending place slot))
  placed_attaching sending place slot = by (nat_lt slot (length sending.begun.with)) (nat_lt 0 (length sending.begun.with) && is_place (accepted_from (place + 1) sending.places) sending.places) (accepted_from (place + 1) sending.places)
    where
      by : (b c : Bool) (next : ℕ) → Placed (Goes (cond b (Attaching sending place slot) (cond c (Attaching sending next 0) (Stamping sending))))
      by true c next = unstamped (Attaching sending place slot) refl
      by false true next = unstamped (Attaching sending next 0) refl
      by false false next = unstamped (Stamping sending) refl

  placed_staging : (begun : Begun) (places : List (Option Reason)) (collected : ℕ) → Placed (staging begun places collected)
  placed_staging begun places collected = by (nat_lt (length places) (length begun.to)) (is_place (accepted_from 0 places) places)
    where
      by : (b c : Bool) → Placed (cond b (Goes (Staging begun places collected)) (cond c (Goes (attaching (all_staged begun places collected) (accepted_from 0 places) 0)) (Ends (all_refused places))))
      by true c = unstamped (Staging begun places collected) refl
      by false true = placed_attaching (all_staged begun places collected) (accepted_from 0 places) 0
      by false false = tt

  placed_unstaging : (begun : Begun) (places : List (Option Reason)) (refused : Refused) (place : ℕ) → Placed (unstaging begun places refused place)
  placed_unstaging begun places refused place = by (is_place place places)
    where
      by : (b : Bool) → Placed (cond b (Goes (Unstaging begun places refused place)) (Ends (answer.Refused refused)))
      by true = unstamped (Unstaging begun places refused place) refl
      by false = tt

  placed_place : (begun : Begun) (places : List (Option Reason)) (collected : ℕ) (r : Reason) (b : Bool)
      → Placed (cond b (staging begun (places ++ Some r ∷ []) collected) (unstaging begun (places ++ Some r ∷ []) (record { reason = r; place = Some (length places) }) (accepted_from 0 (places ++ Some r ∷ []))))
  placed_place begun places collected r true = placed_staging begun (places ++ Some r ∷ []) collected
  placed_place begun places collected r false = placed_unstaging begun (places ++ Some r ∷ []) (record { reason = r; place = Some (length places) }) (accepted_from 0 (places ++ Some r ∷ []))

  placed_syncing : (sending : Sending) (stamp place : ℕ) → Placed (Goes (syncing sending stamp place))
  placed_syncing sending stamp place = by (is_place place sending.places)
    where
      by : (b : Bool) → Placed (Goes (cond b (Syncing sending stamp place) (Committing sending stamp (accepted_from 0 sending.places))))
      by true = undoomed (Syncing sending stamp place) refl
      by false = undoomed (Committing sending stamp (accepted_from 0 sending.places)) refl

  placed_visiting : (d : Destruction) (left : List ℕ) → Placed (Goes (visiting d left))
  placed_visiting d [] = unstamped (Dooming d) refl
  placed_visiting d (peer ∷ rest) = unstamped (Visiting d (peer ∷ rest)) refl

  placed_destroying : (doomed visit : List ℕ) → Placed (Goes (destroying doomed visit))
  placed_destroying [] visit = unstamped (Flushing None) refl
  placed_destroying (serial ∷ rest) visit = placed_visiting (record { doomed = serial ∷ rest; collected = 0; staged = [] }) visit

  pub placed_notices : (d : Destruction) (stamp at : ℕ) → ((i serial : ℕ) → slice_get d.doomed i ≡ Some serial → P stamp i serial) → Placed (Goes (syncing_notices d stamp at))
  placed_notices d stamp at h = by (nat_lt at (length d.staged))
    where
      by : (b : Bool) → Placed (Goes (cond b (SyncingNotices d stamp at) (CommittingOwn d stamp)))
      by true = λ other i serial is place. let same : stamp ≡ other = cc is in subst (λ n. P n i serial) same (h i serial place)
      by false = λ other i serial is place. let same : stamp ≡ other = cc is in subst (λ n. P n i serial) same (h i serial place)

  placed_commits : (d : Destruction) (stamp at : ℕ) → ((i serial : ℕ) → slice_get d.doomed i ≡ Some serial → P stamp i serial) → Placed (committing_notices command d stamp at)
  placed_commits d stamp at h = by (nat_lt at (length d.staged)) (is_flushing command)
    where
      by : (b c : Bool) → Placed (cond b (Goes (CommittingNotices d stamp at)) (cond c (Goes (Flushing (Some stamp))) (Ends (answer.Destroyed stamp))))
      by true c = λ other i serial is place. let same : stamp ≡ other = cc is in subst (λ n. P n i serial) same (h i serial place)
      by false true = unstamped (Flushing (Some stamp)) refl
      by false false = tt

  placed_started : (outcome : Outcome) → Placed (started command outcome)
  placed_started (out.Begin (Ok begun)) = unstamped (Staging begun [] 0) refl
  placed_started (out.Begin (Err r)) = tt
  placed_started (out.Recv got dead) = unstamped (Reaping (recv_answer got)) refl
  placed_started (out.Release (Ok owed)) = unstamped Dropping refl
  placed_started (out.Release (Err r)) = tt
  placed_started (out.BeginDestroy (Ok visit) doomed) = placed_destroying doomed visit
  placed_started (out.BeginDestroy (Err r) doomed) = tt
  placed_started (out.Local got) = tt
  placed_started outcome = unstamped Starting refl

pub placed_turn : (command : Command) (me : ℕ) (phase : Phase) (outcome : Outcome) → NoStamp phase outcome → Placed (WasPlaced phase) command (turn me command phase outcome)
placed_turn command me Starting outcome none = placed_started (WasPlaced Starting) command outcome
placed_turn command me (Staging begun places collected) (out.Stage (Ok clock)) none = placed_staging (WasPlaced (Staging begun places collected)) command begun (places ++ None ∷ []) (max collected clock)
placed_turn command me (Staging begun places collected) (out.Stage (Err r)) none = placed_place (WasPlaced (Staging begun places collected)) command begun places collected r (send_of command).go_on
placed_turn command me (Unstaging begun places refused place) out.Unstage none = placed_unstaging (WasPlaced (Unstaging begun places refused place)) command begun places refused (accepted_from (place + 1) places)
placed_turn command me (Attaching sending place slot) (out.Attach got) none = placed_attaching (WasPlaced (Attaching sending place slot)) command (with_slot sending place slot got) place (slot + 1)
placed_turn command me (Stamping sending) (out.Stamp stamp) none = placed_syncing (WasPlaced (Stamping sending)) command sending stamp (accepted_from 0 sending.places)
placed_turn command me (Syncing sending stamp place) out.Sync none = placed_syncing (WasPlaced (Syncing sending stamp place)) command sending stamp (accepted_from (place + 1) sending.places)
placed_turn command me (Committing sending stamp place) (out.Commit found) none = undoomed (WasPlaced (Committing sending stamp place)) command (Committing sending stamp (accepted_from (place + 1) sending.places)) refl
placed_turn command me (Visiting d left) (out.Visit got) none = placed_visiting (WasPlaced (Visiting d left)) command (with_visit d (get_or left 0 me) got) (drop 1 left)
placed_turn command me (Dooming d) (out.StampDestroy (Ok stamp)) none = absurd none
placed_turn command me (Dooming d) (out.StampDestroy (Err late)) none = placed_visiting (WasPlaced (Dooming d)) command d late
placed_turn command me (SyncingNotices d stamp at) out.Sync none = placed_notices (WasPlaced (SyncingNotices d stamp at)) command d stamp (at + 1) (λ i serial place. (refl, place))
placed_turn command me (CommittingOwn d stamp) out.CommitNotices none = placed_commits (WasPlaced (CommittingOwn d stamp)) command d stamp 0 (λ i serial place. (refl, place))
placed_turn command me (CommittingNotices d stamp at) out.CommitNotices none = placed_commits (WasPlaced (CommittingNotices d stamp at)) command d stamp (at + 1) (λ i serial place. (refl, place))
placed_turn command me (Flushing stamp) (out.Flush dead) none = unstamped (WasPlaced (Flushing stamp)) command (Reaping (answer.Reset stamp)) refl
placed_turn command me phase outcome none = λ stamp i serial is place. (is, place)
