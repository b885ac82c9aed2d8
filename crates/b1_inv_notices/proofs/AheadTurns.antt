-- No entry has the stamp of what is open before it was committed with it: what answers leave of that.
use Rattle.std.proofs.Common.{◌≡◌, refl, sym, ap, subst, ◌∙◌, inl, inr, ℕ, ◌+◌, ◌<◌, Bool, true, false, cond, ◌&&◌, List, drop, length, Option, Some, None, nat_lt, nat_le}
use Rattle.std.proofs.lemmas.Bool.{le-leb}
use native.Mathlib.Omega.{arith}
use Rattle.b1_model.specs.declared.naming.Key.{Key}
use Rattle.b1_model.specs.declared.commands.Command.{Command}
use Rattle.b1_model.specs.declared.answers.Answer.TheVariants as answer
use Rattle.b1_model.specs.declared.answers.Reason.{Reason}
use Rattle.b1_model.specs.declared.entries.Entry.{Entry}
use Rattle.b1_model.specs.declared.events.Outcome.{Outcome}
use Rattle.b1_model.specs.declared.events.Outcome.TheVariants as out
use Rattle.b1_model.specs.declared.events.Phase.{Phase}
use Rattle.b1_model.specs.declared.events.Phase.TheVariants.{Starting, Staging, Unstaging, Attaching, Stamping, Syncing, Committing, Dropping, Reaping, Visiting, Dooming, SyncingNotices, CommittingOwn, CommittingNotices, Flushing}
use Rattle.b1_model.specs.declared.events.Doing.{Doing}
use Rattle.b1_model.specs.declared.events.Destruction.{Destruction}
use Rattle.b1_model.specs.declared.events.Sending.{Sending}
use Rattle.b1_model.specs.MachineParts.{is_data}
use Rattle.b1_model.specs.MachineDriver.{accepted_from, committing_notices, is_flushing, turn, Goes, Ends}
use Rattle.b1_step.specs.Rights.{Has}
use Rattle.b1_inv.specs.Words.{is_accepted_place, stamp_of_phase}
use Rattle.b1_inv.specs.Stamps.{is_committing, is_committing_notices}
use Rattle.b1_inv_notices.proofs.Turns.{doing_in, OnTurn, may_end}
use Rattle.b1_inv_notices.proofs.Sets.{not_among, not_has, drop_more_has}
use Rattle.b1_inv_notices.proofs.StampTurns.{fixed_in, Gave, on_map, SameOr, stamp_turn, WasDone, NotAhead, later_waits}

module _ (command : Command) (me q : ℕ) (f : Key × Entry) where
  abbrev Ahead : Option Doing → Type 0
  Ahead doing = NotAhead me doing q f

  from_fixed : (doing : Option Doing) (phase : Phase) → doing ≡ Some (doing_in command phase) → WasDone me phase q f → Ahead doing
  from_fixed doing phase is done one same st = let k : doing_in command phase ≡ one = cc (sym is ∙ same) in subst (λ z. WasDone me z.phase q f) k done

  no_phase : Ahead None
  no_phase one same st = absurd (cc same)

  -- a stamp that was given is above the entry's
  not_given : (outcome : Outcome) → ((stamp : ℕ) → Gave outcome stamp → f.0.stamp < stamp) → Gave outcome f.0.stamp → ⊥
  not_given outcome above gave = absurd (omega (arith, above f.0.stamp gave))

  not_done : (phase : Phase) → is_committing phase ≡ false → is_committing_notices phase ≡ false → WasDone me phase q f → ⊥
  not_done phase no_send no_notice (inl done) = let both : true ≡ false = sym done.1 ∙ no_send in absurd (cc both)
  not_done phase no_send no_notice (inr done) = let both : true ≡ false = sym done.1 ∙ no_notice in absurd (cc both)

  -- where nothing was committed before, nothing with that stamp stands there
  ahead_easy : (phase : Phase) (outcome : Outcome) → is_committing phase ≡ false → is_committing_notices phase ≡ false → ((stamp : ℕ) → Gave outcome stamp → f.0.stamp < stamp) → Ahead (Some (doing_in command phase)) → OnTurn command Ahead (turn me command phase outcome)
  ahead_easy phase outcome no_send no_notice above h =
      on_map command (SameOr command phase outcome) Ahead
      (λ doing same one is st. elim (same f.0.stamp (ap fixed_in is ∙ st)) [
        | inl before ↦ absurd (not_done phase no_send no_notice (h (doing_in command phase) refl before))
        | inr gave ↦ absurd (not_given outcome above gave)
      ])
      (turn me command phase outcome) (stamp_turn command me phase outcome)

  -- a SEND's next place
  no_longer : (places : List (Option Reason)) (place at : ℕ) → ((place < at) × (is_accepted_place places at ≡ true) → ⊥) → (nat_le (accepted_from (place + 1) places) at && is_accepted_place places at) ≡ false
  no_longer places place at none = by (nat_le (accepted_from (place + 1) places) at && is_accepted_place places at) refl
    where
      by : (b : Bool) → (nat_le (accepted_from (place + 1) places) at && is_accepted_place places at) ≡ b → b ≡ false
      by true is = absurd (none (later_waits places place at is))
      by false is = refl

  did_wait : (b : Bool) (place at : ℕ) → place < at → b ≡ true → (nat_le place at && b) ≡ true
  did_wait true place at below is = ap (λ z. z && true) (le-leb place at (omega (arith, below)))
  did_wait false place at below is = absurd (cc is)

  ahead_commit : (sending : Sending) (stamp place : ℕ) → Ahead (Some (doing_in command (Committing sending stamp place))) → Ahead (Some (doing_in command (Committing sending stamp (accepted_from (place + 1) sending.places))))
  ahead_commit sending stamp place h one same st =
      let next = Committing sending stamp (accepted_from (place + 1) sending.places) in
      let k : doing_in command (Committing sending stamp (accepted_from (place + 1) sending.places)) ≡ one = cc same in
      from_fixed (Some one) (Committing sending stamp (accepted_from (place + 1) sending.places)) (ap Some (sym k))
      (still (h (doing_in command (Committing sending stamp place)) refl (ap (λ z. stamp_of_phase z.phase) k ∙ st))) one refl st
    where
      still : WasDone me (Committing sending stamp place) q f → WasDone me (Committing sending stamp (accepted_from (place + 1) sending.places)) q f
      still (inr done) = absurd (cc done.1)
      still (inl done) = inl (done.0, refl, no_longer sending.places place f.0.index (λ w. let both : true ≡ false = sym (did_wait (is_accepted_place sending.places f.0.index) place f.0.index w.0 w.1) ∙ done.2 in absurd (cc both)))

  -- the message of the place itself
  pub done_commit : (sending : Sending) (stamp place : ℕ) → is_data f.1 ≡ true → f.0.index ≡ place → Ahead (Some (doing_in command (Committing sending stamp (accepted_from (place + 1) sending.places))))
  done_commit sending stamp place data_is at =
      from_fixed _ (Committing sending stamp (accepted_from (place + 1) sending.places)) refl
      (inl (data_is, refl, no_longer sending.places place f.0.index (λ w. absurd (omega (arith, w.0, at)))))

  -- a destruction's next peer
  pub done_notices : (d : Destruction) (stamp at : ℕ) → is_data f.1 ≡ false → (Has (drop at d.staged) q → ⊥) → OnTurn command Ahead (committing_notices command d stamp at)
  done_notices d stamp at no_data none = by (nat_lt at (length d.staged)) (is_flushing command)
    where
      by : (b c : Bool) → OnTurn command Ahead (cond b (Goes (CommittingNotices d stamp at)) (cond c (Goes (Flushing (Some stamp))) (Ends (answer.Destroyed stamp))))
      by true c = from_fixed _ (CommittingNotices d stamp at) refl (inr (no_data, refl, not_among q (drop at d.staged) none))
      by false true = λ one same st. let k : doing_in command (Flushing (Some stamp)) ≡ one = cc same in let both : None ≡ Some f.0.stamp = ap (λ z. stamp_of_phase z.phase) k ∙ st in absurd (cc both)
      by false false = no_phase

  ahead_notices : (d : Destruction) (stamp at : ℕ) → Ahead (Some (doing_in command (CommittingNotices d stamp at))) → OnTurn command Ahead (committing_notices command d stamp (at + 1))
  ahead_notices d stamp at h = by (nat_lt (at + 1) (length d.staged)) (is_flushing command)
    where
      still : WasDone me (CommittingNotices d stamp at) q f → WasDone me (CommittingNotices d stamp (at + 1)) q f
      still (inl done) = absurd (cc done.1)
      still (inr done) = inr (done.0, refl, not_among q (drop (at + 1) d.staged) (λ more. not_has q (drop at d.staged) done.2 (drop_more_has at d.staged q more)))

      by : (b c : Bool) → OnTurn command Ahead (cond b (Goes (CommittingNotices d stamp (at + 1))) (cond c (Goes (Flushing (Some stamp))) (Ends (answer.Destroyed stamp))))
      by true c = λ one same st. let k : doing_in command (CommittingNotices d stamp (at + 1)) ≡ one = cc same in from_fixed (Some one) (CommittingNotices d stamp (at + 1)) (ap Some (sym k)) (still (h (doing_in command (CommittingNotices d stamp at)) refl (ap (λ z. stamp_of_phase z.phase) k ∙ st))) one refl st
      by false true = λ one same st. let k : doing_in command (Flushing (Some stamp)) ≡ one = cc same in let both : None ≡ Some f.0.stamp = ap (λ z. stamp_of_phase z.phase) k ∙ st in absurd (cc both)
      by false false = no_phase

  -- an entry that stood there
  pub ahead_turn : (phase : Phase) (outcome : Outcome) → ((stamp : ℕ) → Gave outcome stamp → f.0.stamp < stamp) → Ahead (Some (doing_in command phase)) → OnTurn command Ahead (turn me command phase outcome)
  ahead_turn (Committing sending stamp place) (out.Commit found) above h = ahead_commit sending stamp place h
  ahead_turn (Committing sending stamp place) outcome above h = h
  ahead_turn (CommittingNotices d stamp at) out.CommitNotices above h = ahead_notices d stamp at h
  ahead_turn (CommittingNotices d stamp at) outcome above h = h
  ahead_turn Starting outcome above h = ahead_easy Starting outcome refl refl above h
  ahead_turn (Staging begun places collected) outcome above h = ahead_easy (Staging begun places collected) outcome refl refl above h
  ahead_turn (Unstaging begun places refused place) outcome above h = ahead_easy (Unstaging begun places refused place) outcome refl refl above h
  ahead_turn (Attaching sending place slot) outcome above h = ahead_easy (Attaching sending place slot) outcome refl refl above h
  ahead_turn (Stamping sending) outcome above h = ahead_easy (Stamping sending) outcome refl refl above h
  ahead_turn (Syncing sending stamp place) outcome above h = ahead_easy (Syncing sending stamp place) outcome refl refl above h
  ahead_turn Dropping outcome above h = ahead_easy Dropping outcome refl refl above h
  ahead_turn (Reaping got) outcome above h = ahead_easy (Reaping got) outcome refl refl above h
  ahead_turn (Visiting d left) outcome above h = ahead_easy (Visiting d left) outcome refl refl above h
  ahead_turn (Dooming d) outcome above h = ahead_easy (Dooming d) outcome refl refl above h
  ahead_turn (SyncingNotices d stamp at) outcome above h = ahead_easy (SyncingNotices d stamp at) outcome refl refl above h
  ahead_turn (CommittingOwn d stamp) outcome above h = ahead_easy (CommittingOwn d stamp) outcome refl refl above h
  ahead_turn (Flushing stamp) outcome above h = ahead_easy (Flushing stamp) outcome refl refl above h

  pub ends_ahead : (phase : Phase) → may_end phase ≡ true → Ahead (Some (doing_in command phase)) → Ahead None
  ends_ahead phase may h = no_phase
