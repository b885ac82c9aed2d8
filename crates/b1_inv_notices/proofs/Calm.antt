-- Commands that destroy nothing: their phases lead to such phases.
use Rattle.std.proofs.Common.{◌≡◌, refl, ℕ, ◌+◌, Bool, true, false, cond, ◌&&◌, List, [], ◌∷◌, ◌++◌, Option, Some, None, Ok, Err, length, nat_lt}
use Rattle.b1_model.specs.declared.commands.Command.{Command}
use Rattle.b1_model.specs.declared.answers.Answer.TheVariants as answer
use Rattle.b1_model.specs.declared.answers.Reason.{Reason}
use Rattle.b1_model.specs.declared.answers.Refused.{Refused}
use Rattle.b1_model.specs.declared.parts.Begun.{Begun}
use Rattle.b1_model.specs.declared.events.Outcome.{Outcome}
use Rattle.b1_model.specs.declared.events.Outcome.TheVariants as out
use Rattle.b1_model.specs.declared.events.Phase.{Phase}
use Rattle.b1_model.specs.declared.events.Phase.TheVariants.{Starting, Staging, Unstaging, Attaching, Stamping, Syncing, Committing, Visiting, Dooming, SyncingNotices, CommittingOwn, CommittingNotices, Flushing}
use Rattle.b1_model.specs.declared.events.Doing.{Doing}
use Rattle.b1_model.specs.declared.events.Sending.{Sending}
use Rattle.b1_model.specs.MachineDriver.{accepted_from, is_place, attaching, all_staged, staging, all_refused, unstaging, syncing, send_of, with_slot, started, turn, Goes, Ends}
use Rattle.b1_inv_notices.proofs.Turns.{doing_in, OnTurn, may_end}

-- a phase of a destruction, from its begin to its last commit
abbrev pub is_destroying : Phase → Bool
is_destroying (Visiting destruction left) = true
is_destroying (Dooming destruction) = true
is_destroying (SyncingNotices destruction stamp at) = true
is_destroying (CommittingOwn destruction stamp) = true
is_destroying (CommittingNotices destruction stamp at) = true
is_destroying phase = false

-- the same of what is open
abbrev pub destroys : Option Doing → Bool
destroys doing = elim doing [ None ↦ false | Some one ↦ is_destroying one.phase ]

-- a destruction begins with this answer
abbrev pub begins_destroying : Outcome → Bool
begins_destroying (out.BeginDestroy (Ok visit) doomed) = true
begins_destroying outcome = false

abbrev pub IsCalm : Option Doing → Type 0
IsCalm doing = destroys doing ≡ false

pub ends_calm : (command : Command) (phase : Phase) → may_end phase ≡ true → IsCalm (Some (doing_in command phase)) → IsCalm None
ends_calm command phase may is = refl

module _ (command : Command) where
  calm_attaching : (sending : Sending) (place slot : ℕ) → is_destroying (attaching sending place slot) ≡ false
  calm_attaching sending place slot = by (nat_lt slot (length sending.begun.with)) (nat_lt 0 (length sending.begun.with) && is_place (accepted_from (place + 1) sending.places) sending.places) (accepted_from (place + 1) sending.places)
    where
      by : (b c : Bool) (next : ℕ) → is_destroying (cond b (Attaching sending place slot) (cond c (Attaching sending next 0) (Stamping sending))) ≡ false
      by true c next = refl
      by false true next = refl
      by false false next = refl

  calm_staging : (begun : Begun) (places : List (Option Reason)) (collected : ℕ) → OnTurn command IsCalm (staging begun places collected)
  calm_staging begun places collected = by (nat_lt (length places) (length begun.to)) (is_place (accepted_from 0 places) places)
    where
      by : (b c : Bool) → OnTurn command IsCalm (cond b (Goes (Staging begun places collected)) (cond c (Goes (attaching (all_staged begun places collected) (accepted_from 0 places) 0)) (Ends (all_refused places))))
      by true c = refl
      by false true = calm_attaching (all_staged begun places collected) (accepted_from 0 places) 0
      by false false = refl

  calm_unstaging : (begun : Begun) (places : List (Option Reason)) (refused : Refused) (place : ℕ) → OnTurn command IsCalm (unstaging begun places refused place)
  calm_unstaging begun places refused place = elim (is_place place places) as (λ b. OnTurn command IsCalm (cond b (Goes (Unstaging begun places refused place)) (Ends (answer.Refused refused)))) [ true ↦ refl | false ↦ refl ]

  calm_syncing : (sending : Sending) (stamp place : ℕ) → is_destroying (syncing sending stamp place) ≡ false
  calm_syncing sending stamp place = elim (is_place place sending.places) as (λ b. is_destroying (cond b (Syncing sending stamp place) (Committing sending stamp (accepted_from 0 sending.places))) ≡ false) [ true ↦ refl | false ↦ refl ]

  calm_refused : (r : Reason) (begun : Begun) (places : List (Option Reason)) (collected : ℕ) (go_on : Bool)
      → OnTurn command IsCalm (cond go_on (staging begun (places ++ Some r ∷ []) collected) (unstaging begun (places ++ Some r ∷ []) (record { reason = r; place = Some (length places) }) (accepted_from 0 (places ++ Some r ∷ []))))
  calm_refused r begun places collected true = calm_staging begun (places ++ Some r ∷ []) collected
  calm_refused r begun places collected false = calm_unstaging begun (places ++ Some r ∷ []) (record { reason = r; place = Some (length places) }) (accepted_from 0 (places ++ Some r ∷ []))

  calm_started : (outcome : Outcome) → begins_destroying outcome ≡ false → OnTurn command IsCalm (started command outcome)
  calm_started (out.Begin (Ok begun)) is = refl
  calm_started (out.Begin (Err r)) is = refl
  calm_started (out.Recv got dead) is = refl
  calm_started (out.Release (Ok owed)) is = refl
  calm_started (out.Release (Err r)) is = refl
  calm_started (out.BeginDestroy (Ok visit) doomed) is = absurd (cc is)
  calm_started (out.BeginDestroy (Err r) doomed) is = refl
  calm_started (out.Local got) is = refl
  calm_started outcome is = refl

  -- a phase that destroys nothing leads to one that destroys nothing, but where a destruction begins
  pub calm_turn : (me : ℕ) (phase : Phase) (outcome : Outcome) → is_destroying phase ≡ false → begins_destroying outcome ≡ false → OnTurn command IsCalm (turn me command phase outcome)
  calm_turn me (Visiting destruction left) outcome calm is = absurd (cc calm)
  calm_turn me (Dooming destruction) outcome calm is = absurd (cc calm)
  calm_turn me (SyncingNotices destruction stamp at) outcome calm is = absurd (cc calm)
  calm_turn me (CommittingOwn destruction stamp) outcome calm is = absurd (cc calm)
  calm_turn me (CommittingNotices destruction stamp at) outcome calm is = absurd (cc calm)
  calm_turn me Starting outcome calm is = calm_started outcome is
  calm_turn me (Staging begun places collected) (out.Stage (Ok clock)) calm is = calm_staging begun _ _
  calm_turn me (Staging begun places collected) (out.Stage (Err r)) calm is = calm_refused r begun places collected (send_of command).go_on
  calm_turn me (Unstaging begun places refused place) out.Unstage calm is = calm_unstaging begun places refused _
  calm_turn me (Attaching sending place slot) (out.Attach got) calm is = calm_attaching (with_slot sending place slot got) place (slot + 1)
  calm_turn me (Stamping sending) (out.Stamp stamp) calm is = calm_syncing sending stamp _
  calm_turn me (Syncing sending stamp place) out.Sync calm is = calm_syncing sending stamp _
  calm_turn me (Committing sending stamp place) (out.Commit found) calm is = refl
  calm_turn me (Flushing stamp) (out.Flush dead) calm is = refl
  calm_turn me phase outcome calm is = calm
