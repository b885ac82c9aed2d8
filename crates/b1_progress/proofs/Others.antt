-- What is left of a destruction's work, a flush's, and of what is owed.
use Rattle.std.proofs.Common.{◌≡◌, refl, ap, arith, ℕ, suc, ◌+◌, ◌*◌, ◌-◌, ◌≤◌, ◌<◌, Bool, true, false, cond, nat_lt, List, [], ◌∷◌, length, Option, Some}
use Rattle.b1_model.specs.declared.naming.NodeRef.{NodeRef}
use Rattle.b1_model.specs.declared.answers.Answer.TheVariants as answer
use Rattle.b1_model.specs.declared.commands.Command.{Command}
use Rattle.b1_model.specs.declared.parts.Visited.{Visited}
use Rattle.b1_model.specs.declared.events.OwedDrop.{OwedDrop}
use Rattle.b1_model.specs.declared.events.Destruction.{Destruction}
use Rattle.b1_model.specs.declared.events.Phase.{Phase}
use Rattle.b1_model.specs.declared.events.Phase.TheVariants.{Visiting, Dooming, SyncingNotices, CommittingOwn, CommittingNotices, Flushing, Reaping}
use Rattle.b1_model.specs.MachineTables.{with_peer}
use Rattle.b1_model.specs.MachineDriver.{Goes, Ends, visiting, with_visit, syncing_notices, committing_notices, is_flushing}
use Rattle.b1_model.specs.MachineTook.{drops_of}
use Rattle.b1_progress.specs.Work.{phase_weight, doom_weight, notice_syncs_weight}
use Rattle.b1_progress.proofs.Falls.{Falls}

-- a peer more in a set
joined_length : (peer : ℕ) (set : List ℕ) → length (with_peer peer set) ≤ length set + 1
joined_length peer [] = omega arith
joined_length peer (q ∷ rest) = let ih = joined_length peer rest in grind (arith, ih)

module _ (command : Command) (told : Bool) (late later kept after : ℕ) where
  -- a visit: the peers that are left, or the stamp
  pub visit_goes : (d : Destruction) (peer : ℕ) (left : List ℕ) (got : Visited) → later ≤ late → after ≤ kept
      → Falls (Goes (visiting (with_visit d peer got) left)) [] told later after (doom_weight d + 1 + 4 * length (peer ∷ left) + 6 * late + 0 + kept)
  visit_goes d peer left got fewer below = by_left left
    where
      staged : (b : Bool) → length (cond b (with_peer peer d.staged) d.staged) ≤ length d.staged + 1
      staged true = joined_length peer d.staged
      staged false = omega arith

      by_left : (rest : List ℕ) → Falls (Goes (visiting (with_visit d peer got) rest)) [] told later after (doom_weight d + 1 + 4 * length (peer ∷ rest) + 6 * late + 0 + kept)
      by_left [] goes = omega (arith, below, fewer, staged got.staged)
      by_left (q ∷ rest) goes = omega (arith, below, fewer, staged got.staged)

  -- holders that came late are visited, and are late no more
  pub late_goes : (d : Destruction) (peers : List ℕ) → length peers ≡ late → 1 ≤ late → later ≡ 0 → after ≤ kept
      → Falls (Goes (visiting d peers)) [] told later after (doom_weight d + 6 * late + 0 + kept)
  late_goes d [] many some none below = absurd (omega (arith, many, some))
  late_goes d (q ∷ rest) many some none below = λ goes. omega (arith, many, some, none, below)

  -- the stamp of a destruction: the syncs, or the own commit
  pub doom_goes : (d : Destruction) (stamp : ℕ) → after ≤ kept
      → Falls (Goes (syncing_notices d stamp 0)) [] told later after (doom_weight d + 6 * late + 0 + kept)
  doom_goes d stamp below = by_place (nat_lt 0 (length d.staged))
    where
      by_place : (b : Bool) → Falls (Goes (cond b (SyncingNotices d stamp 0) (CommittingOwn d stamp))) [] told later after (doom_weight d + 6 * late + 0 + kept)
      by_place true goes = omega (arith, below)
      by_place false goes = omega (arith, below)

  pub notice_sync_goes : (d : Destruction) (stamp at : ℕ) → at < length d.staged → after ≤ kept
      → Falls (Goes (syncing_notices d stamp (at + 1))) [] told later after (notice_syncs_weight d at + 0 + kept)
  notice_sync_goes d stamp at before below = by_place (nat_lt (at + 1) (length d.staged))
    where
      by_place : (b : Bool) → Falls (Goes (cond b (SyncingNotices d stamp (at + 1)) (CommittingOwn d stamp))) [] told later after (notice_syncs_weight d at + 0 + kept)
      by_place true goes = omega (arith, below, before)
      by_place false goes = omega (arith, below, before)

  -- a commit of notices: the next peer, the flush, or the end
  pub notices_go : (d : Destruction) (stamp at bound : ℕ) → (length d.staged - at) + 3 < bound → after ≤ kept
      → Falls (committing_notices command d stamp at) [] told later after (bound + 0 + kept)
  notices_go d stamp at bound more below = by_place (nat_lt at (length d.staged)) (is_flushing command)
    where
      by_place : (b c : Bool) → Falls (cond b (Goes (CommittingNotices d stamp at)) (cond c (Goes (Flushing (Some stamp))) (Ends (answer.Destroyed stamp)))) [] told later after (bound + 0 + kept)
      by_place true c = λ goes. omega (arith, more, below)
      by_place false true = λ goes. omega (arith, more, below)
      by_place false false = tt

  pub flush_goes : (stamp : Option ℕ) → after ≤ kept → Falls (Goes (Reaping (answer.Reset stamp))) [] told later after (2 + 0 + kept)
  flush_goes stamp below goes = omega (arith, below)

  -- a drop: one fewer is owed
  pub drop_goes : (phase : Phase) (one : OwedDrop) (rest : List OwedDrop) → later ≤ late → after ≤ kept + 1
      → Falls (Goes phase) rest told later after (phase_weight late phase + 2 * length (one ∷ rest) + kept)
  drop_goes phase one rest fewer below goes = omega (arith, below, fewer_left phase fewer)
    where
      fewer_left : (to : Phase) → later ≤ late → phase_weight later to ≤ phase_weight late to
      fewer_left (Visiting d left) fewer = omega (arith, fewer)
      fewer_left (Dooming d) fewer = omega (arith, fewer)
      fewer_left to fewer = omega arith

-- drops are as many as the references that they are made of
pub drops_length : (holder clock : ℕ) (refs : List (NodeRef × ℕ)) → length (drops_of holder clock refs) ≡ length refs
drops_length holder clock [] = refl
drops_length holder clock (r ∷ rest) = ap suc (drops_length holder clock rest)
