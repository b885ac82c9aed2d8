-- What an answer makes of a command that has its stamp; and the parts of a step.
use Rattle.std.proofs.Common.{◌≡◌, refl, sym, ap, subst, ◌∙◌, inl, inr, ℕ, ◌+◌, ◌<◌, ◌≤◌, Bool, true, false, cond, Option, Some, None, Ok, Err, nat_lt, length}
use Rattle.std.specs.Prelude.{⊤}
use Rattle.std.proofs.lemmas.Bool.{ltb-true, ltb-false}
use Rattle.std.proofs.lemmas.Option.{same_Some}
use Rattle.b1_model.specs.declared.commands.Command.{Command}
use Rattle.b1_model.specs.declared.naming.Opening.{Opening}
use Rattle.b1_model.specs.declared.answers.Answer.TheVariants as answer
use Rattle.b1_model.specs.declared.events.Doing.{Doing}
use Rattle.b1_model.specs.declared.events.Destruction.{Destruction}
use Rattle.b1_model.specs.declared.events.Sending.{Sending}
use Rattle.b1_model.specs.declared.events.Outcome.{Outcome}
use Rattle.b1_model.specs.declared.events.Outcome.TheVariants as out
use Rattle.b1_model.specs.declared.events.Phase.{Phase}
use Rattle.b1_model.specs.declared.events.Phase.TheVariants.{Starting, Staging, Unstaging, Attaching, Stamping, Syncing, Committing, Visiting, Dooming, SyncingNotices, CommittingOwn, CommittingNotices, Flushing}
use Rattle.b1_model.specs.MachineParts.{PeerPart, State}
use Rattle.b1_model.specs.MachineDriver.{accepted_from, is_place, syncing, syncing_notices, committing_notices, is_flushing, turn, Turn, Goes, Ends}
use Rattle.b1_model.specs.MachineStep.{Step}
use Rattle.b1_step.proofs.Locality.{clocks_rise}
use Rattle.b1_inv.specs.Words.{IsPeer, stamp_of_phase}
use Rattle.b1_inv_tools.proofs.Leaves.{peer_cases}
use Rattle.b1_inv_notices.proofs.Turns.{doing_in, OnTurn, took_leaves, parts, going_doing, going_answer}
use Rattle.b1_inv_notices.proofs.StampTurns.{fixed_in, Gave, SameOr, on_map, stamp_turn}

-- a fact of what is open, where that has a stamp
abbrev pub Stamped : (ℕ → Phase → Type 0) → Option Doing → Type 0
Stamped R doing = (one : Doing) → doing ≡ Some one → (stamp : ℕ) → stamp_of_phase one.phase ≡ Some stamp → R stamp one.phase

module _ (R : ℕ → Phase → Type 0) (command : Command) where
  -- a SEND with its stamp syncs from a place on, or commits
  abbrev FromSyncing : Sending → ℕ → ℕ → Type 0
  FromSyncing sending stamp next = (is_place next sending.places ≡ true → R stamp (Syncing sending stamp next)) × (is_place next sending.places ≡ false → R stamp (Committing sending stamp (accepted_from 0 sending.places)))

  -- a destruction with its stamp syncs from a place of its peers on, or commits
  abbrev FromNotices : Destruction → ℕ → ℕ → Type 0
  FromNotices d stamp at = (at < length d.staged → R stamp (SyncingNotices d stamp at)) × (length d.staged ≤ at → R stamp (CommittingOwn d stamp))

  -- what has to be shown of an answer, by the phase
  abbrev pub Steps : Phase → Outcome → Type 0
  Steps (Stamping sending) (out.Stamp stamp) = FromSyncing sending stamp (accepted_from 0 sending.places)
  Steps (Syncing sending stamp place) out.Sync = FromSyncing sending stamp (accepted_from (place + 1) sending.places)
  Steps (Committing sending stamp place) (out.Commit found) = R stamp (Committing sending stamp (accepted_from (place + 1) sending.places))
  Steps (Dooming d) (out.StampDestroy (Ok stamp)) = FromNotices d stamp 0
  Steps (SyncingNotices d stamp at) out.Sync = FromNotices d stamp (at + 1)
  Steps (CommittingOwn d stamp) out.CommitNotices = R stamp (CommittingNotices d stamp 0)
  Steps (CommittingNotices d stamp at) out.CommitNotices = R stamp (CommittingNotices d stamp (at + 1))
  Steps phase outcome = ⊤

  pub of_phase : (phase : Phase) → ((stamp : ℕ) → stamp_of_phase phase ≡ Some stamp → R stamp phase) → Stamped R (Some (doing_in command phase))
  of_phase phase h one is = let same : doing_in command phase ≡ one = cc is in subst {A = Doing} (λ z. (stamp : ℕ) → stamp_of_phase z.phase ≡ Some stamp → R stamp z.phase) same h

  pub of_none : Stamped R None
  of_none one is = absurd (cc is)

  of_stamp : (phase : Phase) (stamp : ℕ) → stamp_of_phase phase ≡ Some stamp → R stamp phase → Stamped R (Some (doing_in command phase))
  of_stamp phase stamp is h = of_phase phase (λ other also. let both : Some stamp ≡ Some other = sym is ∙ also in let same : stamp ≡ other = cc both in subst (λ z. R z phase) same h)

  -- no stamp before, and none given
  unstamped : (phase : Phase) (outcome : Outcome) (t : Turn) → stamp_of_phase phase ≡ None → ((stamp : ℕ) → Gave outcome stamp → ⊥) → OnTurn command (SameOr command phase outcome) t → OnTurn command (Stamped R) t
  unstamped phase outcome t none never h = on_map command (SameOr command phase outcome) (Stamped R) by t h
    where
      by : (doing : Option Doing) → SameOr command phase outcome doing → Stamped R doing
      by doing same one is stamp fixed =
          elim (same stamp (ap fixed_in is ∙ fixed)) [
            | inl before ↦ let both : Some stamp ≡ None = sym before ∙ none in absurd (cc both)
            | inr gave ↦ absurd (never stamp gave)
          ]

  in_syncing : (sending : Sending) (stamp next : ℕ) → FromSyncing sending stamp next → Stamped R (Some (doing_in command (syncing sending stamp next)))
  in_syncing sending stamp next (there, past) = by (is_place next sending.places) refl
    where
      by : (b : Bool) → is_place next sending.places ≡ b → Stamped R (Some (doing_in command (cond b (Syncing sending stamp next) (Committing sending stamp (accepted_from 0 sending.places)))))
      by true is = of_stamp (Syncing sending stamp next) stamp refl (there is)
      by false is = of_stamp (Committing sending stamp (accepted_from 0 sending.places)) stamp refl (past is)

  in_notices : (d : Destruction) (stamp at : ℕ) → FromNotices d stamp at → Stamped R (Some (doing_in command (syncing_notices d stamp at)))
  in_notices d stamp at (there, past) = by (nat_lt at (length d.staged)) refl
    where
      by : (b : Bool) → nat_lt at (length d.staged) ≡ b → Stamped R (Some (doing_in command (cond b (SyncingNotices d stamp at) (CommittingOwn d stamp))))
      by true is = of_stamp (SyncingNotices d stamp at) stamp refl (there (ltb-true at (length d.staged) is))
      by false is = of_stamp (CommittingOwn d stamp) stamp refl (past (ltb-false at (length d.staged) is))

  in_commits : (d : Destruction) (stamp at : ℕ) → R stamp (CommittingNotices d stamp at) → OnTurn command (Stamped R) (committing_notices command d stamp at)
  in_commits d stamp at h = by (nat_lt at (length d.staged)) (is_flushing command)
    where
      by : (b c : Bool) → OnTurn command (Stamped R) (cond b (Goes (CommittingNotices d stamp at)) (cond c (Goes (Flushing (Some stamp))) (Ends (answer.Destroyed stamp))))
      by true c = of_stamp (CommittingNotices d stamp at) stamp refl h
      by false true = of_phase (Flushing (Some stamp)) (λ other is. absurd (cc is))
      by false false = of_none

  from_start : (me : ℕ) (outcome : Outcome) → OnTurn command (Stamped R) (turn me command Starting outcome)
  from_start me (out.Stamp given) = of_phase Starting (λ other is. absurd (cc is))
  from_start me (out.StampDestroy got) = of_phase Starting (λ other is. absurd (cc is))
  from_start me outcome = unstamped Starting outcome (turn me command Starting outcome) refl (λ stamp g. g) (stamp_turn command me Starting outcome)

  pub stamped_turn : (me : ℕ) (phase : Phase) (outcome : Outcome) → ((stamp : ℕ) → stamp_of_phase phase ≡ Some stamp → R stamp phase) → Steps phase outcome → OnTurn command (Stamped R) (turn me command phase outcome)
  stamped_turn me Starting outcome h steps = from_start me outcome
  stamped_turn me (Staging begun places collected) (out.Stage got) h steps = unstamped (Staging begun places collected) (out.Stage got) (turn me command (Staging begun places collected) (out.Stage got)) refl (λ stamp g. g) (stamp_turn command me (Staging begun places collected) (out.Stage got))
  stamped_turn me (Unstaging begun places refused place) out.Unstage h steps = unstamped (Unstaging begun places refused place) out.Unstage (turn me command (Unstaging begun places refused place) out.Unstage) refl (λ stamp g. g) (stamp_turn command me (Unstaging begun places refused place) out.Unstage)
  stamped_turn me (Attaching sending place slot) (out.Attach got) h steps = unstamped (Attaching sending place slot) (out.Attach got) (turn me command (Attaching sending place slot) (out.Attach got)) refl (λ stamp g. g) (stamp_turn command me (Attaching sending place slot) (out.Attach got))
  stamped_turn me (Visiting d left) (out.Visit got) h steps = unstamped (Visiting d left) (out.Visit got) (turn me command (Visiting d left) (out.Visit got)) refl (λ stamp g. g) (stamp_turn command me (Visiting d left) (out.Visit got))
  stamped_turn me (Flushing stamp) (out.Flush dead) h steps = unstamped (Flushing stamp) (out.Flush dead) (turn me command (Flushing stamp) (out.Flush dead)) refl (λ stamp g. g) (stamp_turn command me (Flushing stamp) (out.Flush dead))
  stamped_turn me (Dooming d) (out.StampDestroy (Err late)) h steps = unstamped (Dooming d) (out.StampDestroy (Err late)) (turn me command (Dooming d) (out.StampDestroy (Err late))) refl (λ stamp g. g) (stamp_turn command me (Dooming d) (out.StampDestroy (Err late)))
  stamped_turn me (Stamping sending) (out.Stamp stamp) h steps = in_syncing sending stamp (accepted_from 0 sending.places) steps
  stamped_turn me (Syncing sending stamp place) out.Sync h steps = in_syncing sending stamp (accepted_from (place + 1) sending.places) steps
  stamped_turn me (Committing sending stamp place) (out.Commit found) h steps = of_stamp (Committing sending stamp (accepted_from (place + 1) sending.places)) stamp refl steps
  stamped_turn me (Dooming d) (out.StampDestroy (Ok stamp)) h steps = in_notices d stamp 0 steps
  stamped_turn me (SyncingNotices d stamp at) out.Sync h steps = in_notices d stamp (at + 1) steps
  stamped_turn me (CommittingOwn d stamp) out.CommitNotices h steps = in_commits d stamp 0 steps
  stamped_turn me (CommittingNotices d stamp at) out.CommitNotices h steps = in_commits d stamp (at + 1) steps
  stamped_turn me phase outcome h steps = of_phase phase h

-- ---- a step

module _ {o : Opening} {s : State} {p : ℕ} {c : Option Command} {t : State} (step : Step o s p c t) where
  -- a fact of the stamped phase before goes over to the one after
  pub stamped_step : (R : ℕ → Phase → Type 0) → ((stamp : ℕ) → stamp_of_phase (parts step).phase ≡ Some stamp → R stamp (parts step).phase) → Steps R (parts step).command (parts step).phase (going_answer step) → Stamped R step.new_driver.doing
  stamped_step R h steps =
      subst (λ e. Stamped R e.doing) (parts step).is_driver
      (took_leaves (Stamped R) (parts step).command (λ phase may k. of_none R (parts step).command) step.driver (parts step).phase step.driver.owed (going_answer step)
      (stamped_turn R (parts step).command step.driver.me (parts step).phase (going_answer step) h steps))

  -- a command that has its stamp was open
  pub was_open : (stamp : ℕ) → stamp_of_phase (parts step).phase ≡ Some stamp → step.driver.doing ≡ Some (going_doing step)
  was_open stamp is =
      elim (parts step).was [
        | inl open_is ↦ open_is
        | inr new ↦ let none : Some stamp ≡ None = sym is ∙ ap stamp_of_phase new.1 in absurd (cc none)
      ]

  -- each peer was there, with a clock that isn't above
  pub peer_before : (q : ℕ) (y : PeerPart) → IsPeer t q y → (x : PeerPart) × IsPeer s q x × (x.clock ≤ y.clock)
  peer_before q y is =
      let there = elim (peer_cases step q y is) as (λ z. (x : PeerPart) × IsPeer s q x) [
        | inl here ↦ (step.peer, subst (λ r. IsPeer s r step.peer) (sym here.0) step.is_peer)
        | inr other ↦ (y, other.1)
      ] in
      (there.0, there.1, clocks_rise step q there.0 y there.1 is)

pub same_peer_at : (s : State) (q : ℕ) (x y : PeerPart) → IsPeer s q x → IsPeer s q y → x ≡ y
same_peer_at s q x y is also = same_Some x y (sym is ∙ also)
