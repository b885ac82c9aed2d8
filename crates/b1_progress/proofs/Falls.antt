-- What is left of a SEND's work after each of its events.
use Rattle.std.proofs.Common.{◌≡◌, refl, ap, arith, max, ℕ, ◌+◌, ◌*◌, ◌-◌, ◌≤◌, ◌<◌, Bool, true, false, cond, ◌&&◌, not, nat_lt, List, [], ◌∷◌, ◌++◌, length, Option, Some, None, Ok, Err, Result}
use Rattle.std.specs.Prelude.{⊤}
use Rattle.std.proofs.Math.Nat.{mul-le-mul_left}
use Rattle.b1_model.specs.declared.answers.Answer.TheVariants as answer
use Rattle.b1_model.specs.declared.answers.Reason.{Reason}
use Rattle.b1_model.specs.declared.answers.Refused.{Refused}
use Rattle.b1_model.specs.declared.commands.Command.{Command}
use Rattle.b1_model.specs.declared.parts.Begun.{Begun}
use Rattle.b1_model.specs.declared.events.OwedDrop.{OwedDrop}
use Rattle.b1_model.specs.declared.events.Phase.TheVariants.{Staging, Unstaging, Attaching, Stamping, Syncing, Committing}
use Rattle.b1_model.specs.declared.events.Sending.{Sending}
use Rattle.b1_model.specs.MachineDriver.{Turn, Goes, Ends, next_accepted, accepted_from, is_place, attaching, all_staged, all_refused, staging, unstaging, place_done, syncing, send_of}
use Rattle.b1_model.specs.MachineTook.{is_done}
use Rattle.b1_progress.specs.Work.{phase_weight, commit_weight, sync_weight, stamp_weight, attach_weight, stage_weight}

-- after a turn to a phase that isn't done there, less is left than the bound; an end leaves nothing
abbrev pub Falls : Turn → List OwedDrop → Bool → ℕ → ℕ → ℕ → Type 0
Falls (Goes phase) owed told late kept bound = is_done owed told phase ≡ false → phase_weight late phase + 2 * length owed + kept < bound
Falls (Ends got) owed told late kept bound = ⊤

-- ---- numbers

-- a step of a walk to n takes a whole weight
pub walk_down : (a n place next : ℕ) → place < n → place + 1 ≤ next → a * (n - next) + a ≤ a * (n - place)
walk_down a n place next before behind =
    let more = mul-le-mul_left {m = (n - next) + 1} {n = n - place} a (omega (arith, before, behind)) in
    grind (arith, more)

pub walk_below : (a n place next : ℕ) → place ≤ next → a * (n - next) ≤ a * (n - place)
walk_below a n place next behind = mul-le-mul_left a (omega (arith, behind))

-- ---- places

-- the first accepted place from one on is not before it
pub next_behind : (here from : ℕ) (places : List (Option Reason)) → from ≤ here + length places → from ≤ next_accepted here from places
next_behind here from [] below = omega (arith, below)
next_behind here from (None ∷ rest) below = let ih = next_behind (here + 1) from rest (omega (arith, below)) in grind (arith, ih)
next_behind here from (Some r ∷ rest) below = next_behind (here + 1) from rest (omega (arith, below))

-- behind the last place none is accepted
behind_all : (here from : ℕ) (places : List (Option Reason)) → here + length places < from → next_accepted here from places ≡ here + length places
behind_all here from [] past = omega arith
behind_all here from (None ∷ rest) past = let ih = behind_all (here + 1) from rest (omega (arith, past)) in grind (arith, ih, past)
behind_all here from (Some r ∷ rest) past = omega (arith, behind_all (here + 1) from rest (omega (arith, past)))

-- ---- numbers of a SEND's phases

pub same_place_falls : (n h place handle : ℕ) → place < n → handle < h → attach_weight n h place (handle + 1) < attach_weight n h place handle
same_place_falls n h place handle before within = omega (arith, within, walk_down h n place (place + 1) before (omega arith))

pub next_place_falls : (n h place next handle : ℕ) → place < n → place + 1 ≤ next → handle < h → attach_weight n h next 0 < attach_weight n h place handle
next_place_falls n h place next handle before behind within = omega (arith, within, walk_down h n place next before behind)

pub stamp_falls : (n h place handle : ℕ) → stamp_weight n h < attach_weight n h place handle
stamp_falls n h place handle = omega arith

pub first_attach : (n h place : ℕ) → attach_weight n h place 0 ≤ attach_weight n h 0 0
first_attach n h place = omega (arith, walk_below h n 0 place (omega arith))

pub sync_falls : (n h place next : ℕ) → place < n → place + 1 ≤ next → sync_weight n h next < sync_weight n h place
sync_falls n h place next before behind = omega (arith, before, behind)

pub first_sync : (n h place : ℕ) → sync_weight n h place ≤ sync_weight n h 0
first_sync n h place = omega arith

pub first_commit : (n h place : ℕ) → commit_weight n h place ≤ commit_weight n h 0
first_commit n h place = walk_below (2 * h + 2) n 0 place (omega arith)

pub commit_falls : (n h place next : ℕ) → place < n → place + 1 ≤ next → commit_weight n h next + (2 * h + 2) ≤ commit_weight n h place
commit_falls n h place next before behind = walk_down (2 * h + 2) n place next before behind

pub stage_falls : (n h place : ℕ) → place < n → stage_weight n h (place + 1) + (5 * h + 3) ≤ stage_weight n h place
stage_falls n h place before = omega (arith, walk_down (5 * h + 3) n place (place + 1) before (omega arith))

pub all_staged_falls : (n h place : ℕ) → place < n → attach_weight n h 0 0 + 1 + (5 * h + 3) ≤ stage_weight n h place
all_staged_falls n h place before = omega (arith, walk_down (5 * h + 3) n place n before (omega (arith, before)))

-- ---- the phases of a SEND

module _ (command : Command) (told : Bool) (late kept after : ℕ) where
  -- an attach: the next handle, the first one of the next accepted place, or the stamp
  pub attach_goes : (sending new : Sending) (place handle : ℕ) → length new.begun.to ≡ length sending.begun.to → length new.begun.with ≡ length sending.begun.with → length new.places ≡ length sending.begun.to
      → place < length sending.begun.to → handle < length sending.begun.with → after ≤ kept
      → Falls (Goes (attaching new place (handle + 1))) [] told late after (attach_weight (length sending.begun.to) (length sending.begun.with) place handle + 0 + kept)
  attach_goes sending new place handle to with places before within below = by_next (nat_lt (handle + 1) (length new.begun.with)) (nat_lt 0 (length new.begun.with) && is_place (accepted_from (place + 1) new.places) new.places)
    where
      by_next : (b c : Bool) → Falls (Goes (cond b (Attaching new place (handle + 1)) (cond c (Attaching new (accepted_from (place + 1) new.places) 0) (Stamping new)))) [] told late after (attach_weight (length sending.begun.to) (length sending.begun.with) place handle + 0 + kept)
      by_next true c goes = rw (to, with) (omega (arith, below, same_place_falls (length sending.begun.to) (length sending.begun.with) place handle before within))
      by_next false true goes = rw (to, with) (omega (arith, below, next_place_falls (length sending.begun.to) (length sending.begun.with) place (accepted_from (place + 1) new.places) handle before (next_behind 0 (place + 1) new.places (omega (arith, places, before))) within))
      by_next false false goes = rw (to, with) (omega (arith, below, stamp_falls (length sending.begun.to) (length sending.begun.with) place handle))

  -- a stage: the next place, the first attach, the stamp, or the first place to be taken back
  staged_goes : (nodes : Begun) (places new : List (Option Reason)) (collected : ℕ) → length new ≡ length places + 1 → length places < length nodes.to → after ≤ kept + (5 * length nodes.with + 1)
      → Falls (staging nodes new collected) [] told late after (stage_weight (length nodes.to) (length nodes.with) (length places) + 0 + kept)
  staged_goes nodes places new collected more before below = by_next (nat_lt (length new) (length nodes.to)) (is_place (accepted_from 0 new) new)
    where
      by_attach : (b c : Bool) → Falls (Goes (cond b (Attaching (all_staged nodes new collected) (accepted_from 0 new) 0) (cond c (Attaching (all_staged nodes new collected) (accepted_from (accepted_from 0 new + 1) new) 0) (Stamping (all_staged nodes new collected))))) [] told late after (stage_weight (length nodes.to) (length nodes.with) (length places) + 0 + kept)
      by_attach true c goes = omega (arith, below, first_attach (length nodes.to) (length nodes.with) (accepted_from 0 new), all_staged_falls (length nodes.to) (length nodes.with) (length places) before)
      by_attach false true goes = omega (arith, below, first_attach (length nodes.to) (length nodes.with) (accepted_from (accepted_from 0 new + 1) new), all_staged_falls (length nodes.to) (length nodes.with) (length places) before)
      by_attach false false goes = omega (arith, below, stamp_falls (length nodes.to) (length nodes.with) 0 0, all_staged_falls (length nodes.to) (length nodes.with) (length places) before)

      by_next : (b c : Bool) → Falls (cond b (Goes (Staging nodes new collected)) (cond c (Goes (attaching (all_staged nodes new collected) (accepted_from 0 new) 0)) (Ends (all_refused new)))) [] told late after (stage_weight (length nodes.to) (length nodes.with) (length places) + 0 + kept)
      by_next true c = λ goes. rw more (omega (arith, below, stage_falls (length nodes.to) (length nodes.with) (length places) before))
      by_next false true = by_attach (nat_lt 0 (length nodes.with)) (nat_lt 0 (length nodes.with) && is_place (accepted_from (accepted_from 0 new + 1) new) new)
      by_next false false = tt

  one_more : (places : List (Option Reason)) (place : Option Reason) → length (places ++ place ∷ []) ≡ length places + 1
  one_more [] place = refl
  one_more (x ∷ rest) place = omega (arith, one_more rest place)

  pub stage_goes : (nodes : Begun) (places : List (Option Reason)) (collected : ℕ) (got : Result ℕ Reason) → length places < length nodes.to → after ≤ kept + (5 * length nodes.with + 1)
      → Falls (place_done command nodes places collected got) [] told late after (stage_weight (length nodes.to) (length nodes.with) (length places) + 0 + kept)
  stage_goes nodes places collected (Ok clock) before below = staged_goes nodes places (places ++ None ∷ []) (max collected clock) (one_more places None) before below
  stage_goes nodes places collected (Err r) before below = by_go (send_of command).go_on
    where
      by_unstaging : (b : Bool) (place : ℕ) → Falls (cond b (Goes (Unstaging nodes (places ++ Some r ∷ []) (record { reason = r; place = Some (length places) }) place)) (Ends (answer.Refused (record { reason = r; place = Some (length places) })))) [] told late after (stage_weight (length nodes.to) (length nodes.with) (length places) + 0 + kept)
      by_unstaging true place = λ goes. omega (arith, below, all_staged_falls (length nodes.to) (length nodes.with) (length places) before)
      by_unstaging false place = tt

      by_go : (b : Bool) → Falls (cond b (staging nodes (places ++ Some r ∷ []) collected) (unstaging nodes (places ++ Some r ∷ []) (record { reason = r; place = Some (length places) }) (accepted_from 0 (places ++ Some r ∷ [])))) [] told late after (stage_weight (length nodes.to) (length nodes.with) (length places) + 0 + kept)
      by_go true = staged_goes nodes places (places ++ Some r ∷ []) collected (one_more places (Some r)) before below
      by_go false = by_unstaging (is_place (accepted_from 0 (places ++ Some r ∷ [])) (places ++ Some r ∷ [])) (accepted_from 0 (places ++ Some r ∷ []))

  -- an unstage: the next accepted place
  pub unstage_goes : (nodes : Begun) (places : List (Option Reason)) (refused : Refused) (place : ℕ) → length places ≤ length nodes.to → place < length places → after ≤ kept
      → Falls (unstaging nodes places refused (accepted_from (place + 1) places)) [] told late after ((length nodes.to - place) + 1 + 0 + kept)
  unstage_goes nodes places refused place within before below = by_place (is_place (accepted_from (place + 1) places) places)
    where
      by_place : (b : Bool) → Falls (cond b (Goes (Unstaging nodes places refused (accepted_from (place + 1) places))) (Ends (answer.Refused refused))) [] told late after ((length nodes.to - place) + 1 + 0 + kept)
      by_place true = λ goes. omega (arith, below, within, before, next_behind 0 (place + 1) places (omega (arith, before)))
      by_place false = tt

  -- the stamp: the first sync, or the first commit
  pub stamp_goes : (sending : Sending) (stamp place : ℕ) → after ≤ kept
      → Falls (Goes (syncing sending stamp place)) [] told late after (stamp_weight (length sending.begun.to) (length sending.begun.with) + 0 + kept)
  stamp_goes sending stamp place below = by_place (is_place place sending.places)
    where
      by_place : (b : Bool) → Falls (Goes (cond b (Syncing sending stamp place) (Committing sending stamp (accepted_from 0 sending.places)))) [] told late after (stamp_weight (length sending.begun.to) (length sending.begun.with) + 0 + kept)
      by_place true goes = omega (arith, below, first_sync (length sending.begun.to) (length sending.begun.with) place)
      by_place false goes = omega (arith, below, first_commit (length sending.begun.to) (length sending.begun.with) (accepted_from 0 sending.places))

  -- a sync: the next accepted place, or the first commit
  pub sync_goes : (sending : Sending) (stamp place : ℕ) → length sending.places ≡ length sending.begun.to → place < length sending.begun.to → after ≤ kept
      → Falls (Goes (syncing sending stamp (accepted_from (place + 1) sending.places))) [] told late after (sync_weight (length sending.begun.to) (length sending.begun.with) place + 0 + kept)
  sync_goes sending stamp place places before below = by_place (is_place (accepted_from (place + 1) sending.places) sending.places)
    where
      by_place : (b : Bool) → Falls (Goes (cond b (Syncing sending stamp (accepted_from (place + 1) sending.places)) (Committing sending stamp (accepted_from 0 sending.places)))) [] told late after (sync_weight (length sending.begun.to) (length sending.begun.with) place + 0 + kept)
      by_place true goes = omega (arith, below, sync_falls (length sending.begun.to) (length sending.begun.with) place (accepted_from (place + 1) sending.places) before (next_behind 0 (place + 1) sending.places (omega (arith, places, before))))
      by_place false goes = omega (arith, below, first_commit (length sending.begun.to) (length sending.begun.with) (accepted_from 0 sending.places))

  -- a commit: what it owes, then the next accepted place
  pub commit_goes : (sending : Sending) (stamp place : ℕ) (owed : List OwedDrop) → length sending.places ≡ length sending.begun.to → place < length sending.begun.to → length owed ≤ length sending.begun.with → after ≤ kept
      → Falls (Goes (Committing sending stamp (accepted_from (place + 1) sending.places))) owed told late after (commit_weight (length sending.begun.to) (length sending.begun.with) place + 0 + kept)
  commit_goes sending stamp place owed places before few below goes = omega (arith, below, few, commit_falls (length sending.begun.to) (length sending.begun.with) place (accepted_from (place + 1) sending.places) before (next_behind 0 (place + 1) sending.places (omega (arith, places, before))))

  -- behind the last place nothing is owed, and the command is done
  pub commit_ends : (sending : Sending) (stamp place bound : ℕ) → length sending.places ≤ place → Falls (Goes (Committing sending stamp (accepted_from (place + 1) sending.places))) [] told late after bound
  commit_ends sending stamp place bound past goes = absurd (cc (goes, ap not (past_places (accepted_from (place + 1) sending.places) (length sending.places) (omega (arith, behind_all 0 (place + 1) sending.places (omega (arith, past)))))))
    where
      past_places : (a b : ℕ) → a ≡ b → nat_lt a b ≡ false
      past_places a b is = grind (arith, is)
