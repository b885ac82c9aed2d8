-- What an open SEND keeps is the same after most answers.
use Rattle.std.proofs.Common.{◌≡◌, refl, ◌∙◌, ℕ, ◌+◌, max, Bool, true, false, cond, nat_lt, List, [], ◌∷◌, ◌++◌, length, get_or, drop, Option, Some, None, Ok, Err, Result}
use Rattle.b1_model.specs.declared.naming.NodeRef.{NodeRef}
use Rattle.b1_model.specs.declared.commands.Command.{Command}
use Rattle.b1_model.specs.declared.parts.Begun.{Begun}
use Rattle.b1_model.specs.declared.parts.Visited.{Visited}
use Rattle.b1_model.specs.declared.answers.Answer.TheVariants as answer
use Rattle.b1_model.specs.declared.answers.Reason.{Reason}
use Rattle.b1_model.specs.declared.answers.Refused.{Refused}
use Rattle.b1_model.specs.declared.events.Outcome.{Outcome}
use Rattle.b1_model.specs.declared.events.Outcome.TheVariants as out
use Rattle.b1_model.specs.declared.events.Phase.{Phase}
use Rattle.b1_model.specs.declared.events.Phase.TheVariants.{Starting, Staging, Unstaging, Attaching, Stamping, Syncing, Committing, Dropping, Reaping, Visiting, Dooming, SyncingNotices, CommittingOwn, CommittingNotices, Flushing}
use Rattle.b1_model.specs.declared.events.Sending.{Sending}
use Rattle.b1_model.specs.declared.events.Destruction.{Destruction}
use Rattle.b1_model.specs.MachineDriver.{accepted_from, is_place, Turn, Goes, Ends, turn, started, staging, unstaging, place_done, all_staged, attaching, visiting, with_visit, syncing_notices, committing_notices, destroying, is_flushing, send_of, all_refused}
use Rattle.b1_model.specs.MachineCounts.{kept_amount}
use Rattle.b1_inv_refs.proofs.Kept.{kept_attaching, kept_syncing, kept_none, staged_places}
use Rattle.b1_inv_refs.proofs.Owes.{kept_turn}

module _ (node : NodeRef) (holder : ℕ) where
  -- nothing is kept then
  abbrev None_kept : Turn → Type 0
  None_kept to = kept_turn node holder to ≡ 0

  staging_none : (begun : Begun) (places : List (Option Reason)) (collected : ℕ) → None_kept (staging begun places collected)
  staging_none begun places collected = at (nat_lt (length places) (length begun.to)) (is_place (accepted_from 0 places) places)
    where
      at : (b c : Bool) → None_kept (cond b (Goes (Staging begun places collected)) (cond c (Goes (attaching (all_staged begun places collected) (accepted_from 0 places) 0)) (Ends (all_refused places))))
      at true c = refl
      at false true = kept_attaching node holder (all_staged begun places collected) (accepted_from 0 places) 0 ∙ kept_none node holder (all_staged begun places collected) places 0 0 (staged_places node begun places collected)
      at false false = refl

  unstaging_none : (begun : Begun) (places : List (Option Reason)) (refused : Refused) (place : ℕ) → None_kept (unstaging begun places refused place)
  unstaging_none begun places refused place = at (is_place place places)
    where
      at : (b : Bool) → None_kept (cond b (Goes (Unstaging begun places refused place)) (Ends (answer.Refused refused)))
      at true = refl
      at false = refl

  done_none : (command : Command) (begun : Begun) (places : List (Option Reason)) (collected : ℕ) (got : Result ℕ Reason) → None_kept (place_done command begun places collected got)
  done_none command begun places collected (Ok clock) = staging_none begun (places ++ None ∷ []) (max collected clock)
  done_none command begun places collected (Err r) = at (send_of command).go_on
    where
      at : (b : Bool) → None_kept (cond b (staging begun (places ++ Some r ∷ []) collected) (unstaging begun (places ++ Some r ∷ []) (record { reason = r; place = Some (length places) }) (accepted_from 0 (places ++ Some r ∷ []))))
      at true = staging_none begun (places ++ Some r ∷ []) collected
      at false = unstaging_none begun (places ++ Some r ∷ []) (record { reason = r; place = Some (length places) }) (accepted_from 0 (places ++ Some r ∷ []))

  visiting_none : (destruction : Destruction) (left : List ℕ) → None_kept (Goes (visiting destruction left))
  visiting_none destruction [] = refl
  visiting_none destruction (peer ∷ rest) = refl

  notices_none : (destruction : Destruction) (stamp at : ℕ) → None_kept (Goes (syncing_notices destruction stamp at))
  notices_none destruction stamp here = at (nat_lt here (length destruction.staged))
    where
      at : (b : Bool) → None_kept (Goes (cond b (SyncingNotices destruction stamp here) (CommittingOwn destruction stamp)))
      at true = refl
      at false = refl

  committing_none : (command : Command) (destruction : Destruction) (stamp at : ℕ) → None_kept (committing_notices command destruction stamp at)
  committing_none command destruction stamp here = at (nat_lt here (length destruction.staged)) (is_flushing command)
    where
      at : (b c : Bool) → None_kept (cond b (Goes (CommittingNotices destruction stamp here)) (cond c (Goes (Flushing (Some stamp))) (Ends (answer.Destroyed stamp))))
      at true c = refl
      at false true = refl
      at false false = refl

  destroying_none : (doomed visit : List ℕ) → None_kept (Goes (destroying doomed visit))
  destroying_none [] visit = refl
  destroying_none (serial ∷ rest) visit = visiting_none (record { doomed = serial ∷ rest; collected = 0; staged = [] }) visit

  pub started_none : (command : Command) (outcome : Outcome) → None_kept (started command outcome)
  started_none command (out.Begin (Ok begun)) = refl
  started_none command (out.Begin (Err r)) = refl
  started_none command (out.Recv got dead) = refl
  started_none command (out.Release (Ok owed)) = refl
  started_none command (out.Release (Err r)) = refl
  started_none command (out.BeginDestroy (Ok visit) doomed) = destroying_none doomed visit
  started_none command (out.BeginDestroy (Err r) doomed) = refl
  started_none command (out.Local got) = refl
  started_none command outcome = refl

  -- a drop leaves the phase
  pub drop_turn : (me : ℕ) (command : Command) (phase : Phase) → kept_turn node holder (turn me command phase out.DropRefs) ≡ kept_amount node holder phase
  drop_turn me command Starting = refl
  drop_turn me command (Staging begun places collected) = refl
  drop_turn me command (Unstaging begun places refused place) = refl
  drop_turn me command (Attaching sending place j) = refl
  drop_turn me command (Stamping sending) = refl
  drop_turn me command (Syncing sending stamp place) = refl
  drop_turn me command (Committing sending stamp place) = refl
  drop_turn me command Dropping = refl
  drop_turn me command (Reaping got) = refl
  drop_turn me command (Visiting destruction left) = refl
  drop_turn me command (Dooming destruction) = refl
  drop_turn me command (SyncingNotices destruction stamp at) = refl
  drop_turn me command (CommittingOwn destruction stamp) = refl
  drop_turn me command (CommittingNotices destruction stamp at) = refl
  drop_turn me command (Flushing stamp) = refl

  -- the answers of the other phases
  pub stage_turn : (me : ℕ) (command : Command) (begun : Begun) (places : List (Option Reason)) (collected : ℕ) (got : Result ℕ Reason) → kept_turn node holder (turn me command (Staging begun places collected) (out.Stage got)) ≡ 0
  stage_turn me command begun places collected got = done_none command begun places collected got

  pub unstage_turn : (me : ℕ) (command : Command) (begun : Begun) (places : List (Option Reason)) (refused : Refused) (place : ℕ) → kept_turn node holder (turn me command (Unstaging begun places refused place) out.Unstage) ≡ 0
  unstage_turn me command begun places refused place = unstaging_none begun places refused (accepted_from (place + 1) places)

  pub stamp_turn : (me : ℕ) (command : Command) (sending : Sending) (stamp : ℕ) → kept_turn node holder (turn me command (Stamping sending) (out.Stamp stamp)) ≡ kept_amount node holder (Stamping sending)
  stamp_turn me command sending stamp = kept_syncing node holder sending stamp (accepted_from 0 sending.places)

  pub sync_turn : (me : ℕ) (command : Command) (sending : Sending) (stamp place : ℕ) → kept_turn node holder (turn me command (Syncing sending stamp place) out.Sync) ≡ kept_amount node holder (Syncing sending stamp place)
  sync_turn me command sending stamp place = kept_syncing node holder sending stamp (accepted_from (place + 1) sending.places)

  pub visit_turn : (me : ℕ) (command : Command) (destruction : Destruction) (left : List ℕ) (got : Visited) → kept_turn node holder (turn me command (Visiting destruction left) (out.Visit got)) ≡ 0
  visit_turn me command destruction left got = visiting_none (with_visit destruction (get_or left 0 me) got) (drop 1 left)

  pub doom_turn : (me : ℕ) (command : Command) (destruction : Destruction) (got : Result ℕ (List ℕ)) → kept_turn node holder (turn me command (Dooming destruction) (out.StampDestroy got)) ≡ 0
  doom_turn me command destruction (Ok stamp) = notices_none destruction stamp 0
  doom_turn me command destruction (Err late) = visiting_none destruction late

  pub sync_notices_turn : (me : ℕ) (command : Command) (destruction : Destruction) (stamp at : ℕ) → kept_turn node holder (turn me command (SyncingNotices destruction stamp at) out.Sync) ≡ 0
  sync_notices_turn me command destruction stamp at = notices_none destruction stamp (at + 1)

  pub own_notices_turn : (me : ℕ) (command : Command) (destruction : Destruction) (stamp : ℕ) → kept_turn node holder (turn me command (CommittingOwn destruction stamp) out.CommitNotices) ≡ 0
  own_notices_turn me command destruction stamp = committing_none command destruction stamp 0

  pub notices_turn : (me : ℕ) (command : Command) (destruction : Destruction) (stamp at : ℕ) → kept_turn node holder (turn me command (CommittingNotices destruction stamp at) out.CommitNotices) ≡ 0
  notices_turn me command destruction stamp at = committing_none command destruction stamp (at + 1)
