-- A driver knows of its peer's dead list: which phases lead to giving up.
use Rattle.std.proofs.Common.{◌≡◌, ◌≢◌, ◌⊎◌, refl, sym, ◌∙◌, inl, inr, ℕ, ◌+◌, ◌<◌, Bool, true, false, cond, ◌&&◌, nat_lt, max, get_or, List, [], ◌∷◌, ◌++◌, length, drop, Option, Some, None, Ok, Err, Result}
use Rattle.std.specs.Prelude.{⊤}
use Rattle.b1_model.specs.declared.answers.Answer.{Answer}
use Rattle.b1_model.specs.declared.answers.Answer.TheVariants as answer
use Rattle.b1_model.specs.declared.answers.Reason.{Reason}
use Rattle.b1_model.specs.declared.answers.Refused.{Refused}
use Rattle.b1_model.specs.declared.commands.Command.{Command}
use Rattle.b1_model.specs.declared.parts.Begun.{Begun}
use Rattle.b1_model.specs.declared.events.Destruction.{Destruction}
use Rattle.b1_model.specs.declared.events.Outcome.{Outcome}
use Rattle.b1_model.specs.declared.events.Outcome.TheVariants as out
use Rattle.b1_model.specs.declared.events.Phase.{Phase}
use Rattle.b1_model.specs.declared.events.Phase.TheVariants.{Starting, Staging, Unstaging, Attaching, Stamping, Syncing, Committing, Reaping, Visiting, Dooming, SyncingNotices, CommittingOwn, CommittingNotices, Flushing}
use Rattle.b1_model.specs.declared.events.Sending.{Sending}
use Rattle.b1_model.specs.MachineParts.{PeerPart, DriverPart}
use Rattle.b1_model.specs.MachineDriver.{Turn, Goes, Ends, turn, started, is_place, accepted_from, attaching, all_staged, all_refused, staging, unstaging, place_done, with_slot, send_of, visiting, with_visit, is_flushing, destroying}
use Rattle.b1_model.specs.declared.naming.NodeRef.{NodeRef}
use Rattle.b1_model.specs.declared.events.OwedDrop.{OwedDrop}
use Rattle.b1_model.specs.MachineReceive.{has_dead}
use Rattle.b1_schedule.specs.Schedule.{removed_by}
use Rattle.b1_model.specs.MachineTook.{is_waiting, is_done, answer_of, goes_by, turned}
use Rattle.b1_play_end.specs.Course.{PhaseTold, OpenTold}

-- a turn that doesn't lead to giving up
abbrev pub Spares : Turn → Type 0
Spares (Goes (Reaping got)) = ⊥
Spares turn = ⊤

-- a dead list that is empty stays known where a turn doesn't lead to giving up
module _ (f : DriverPart) (z : PeerPart) (command : Command) (none : z.dead ≡ []) where
  open_told : (phase : Phase) → Spares (Goes phase) → PhaseTold (record f { doing = Some (record { command = command; phase = phase }) }) z command phase
  open_told (Reaping got) spares = absurd spares
  open_told phase spares = none

  by_flag : (b : Bool) (got : Option Answer) (phase : Phase) → Spares (Goes phase) → OpenTold (goes_by b got f command phase) z (goes_by b got f command phase).doing
  by_flag true (Some got) phase spares = none
  by_flag true None phase spares = open_told phase spares
  by_flag false got phase spares = open_told phase spares

  pub spared_told : (t : Turn) → Spares t → OpenTold (turned f command t) z (turned f command t).doing
  spared_told (Goes phase) spares = by_flag (is_done f.owed f.told phase) (answer_of command phase) phase spares
  spared_told (Ends got) spares = none

-- a turn to giving up: the dead list is as the driver was told, or the command is done and the list is empty
module _ (f : DriverPart) (z : PeerPart) (command : Command) (got : Answer) (told : f.told ≡ has_dead z) (removed : is_waiting command got ≡ true → (f.told ≡ true) ⊎ (f.owed ≢ []) → 0 < removed_by f) where
  none_dead : f.told ≡ false → z.dead ≡ []
  none_dead is = by_dead z.dead (sym told ∙ is)
    where
      by_dead : (dead : List (List (NodeRef × ℕ))) → elim dead [ [] ↦ false | item ∷ rest ↦ true ] ≡ false → dead ≡ []
      by_dead [] is = refl
      by_dead (item ∷ rest) is = absurd (cc is)

  by_owed : (owed : List OwedDrop) (b : Bool) → f.told ≡ b → f.owed ≡ owed → OpenTold (goes_by (is_done owed b (Reaping got)) (Some got) f command (Reaping got)) z (goes_by (is_done owed b (Reaping got)) (Some got) f command (Reaping got)).doing
  by_owed [] true is owed_is = (told, λ waits. removed waits (inl is))
  by_owed [] false is owed_is = none_dead is
  by_owed (one ∷ rest) b is owed_is = (told, λ waits. removed waits (inr (λ none. cc (owed_is, none))))

  pub reaping_told : OpenTold (turned f command (Goes (Reaping got))) z (turned f command (Goes (Reaping got))).doing
  reaping_told = by_owed f.owed f.told refl refl

-- ---- which turns don't lead to giving up

-- the answer isn't that of a RECV or of a flush, and nothing is given up yet
abbrev pub IsPlain : Phase → Outcome → Type 0
IsPlain (Reaping got) outcome = ⊥
IsPlain Starting (out.Recv got dead) = ⊥
IsPlain (Flushing stamp) (out.Flush dead) = ⊥
IsPlain phase outcome = ⊤

module _ (me : ℕ) (command : Command) where
  at_attaching : (b c : Bool) (sending : Sending) (place handle next : ℕ) → Spares (Goes (cond b (Attaching sending place handle) (cond c (Attaching sending next 0) (Stamping sending))))
  at_attaching true c sending place handle next = tt
  at_attaching false true sending place handle next = tt
  at_attaching false false sending place handle next = tt

  at_syncing : (b : Bool) (sending : Sending) (stamp place first : ℕ) → Spares (Goes (cond b (Syncing sending stamp place) (Committing sending stamp first)))
  at_syncing true sending stamp place first = tt
  at_syncing false sending stamp place first = tt

  at_unstaging : (b : Bool) (nodes : Begun) (places : List (Option Reason)) (refused : Refused) (place : ℕ) → Spares (cond b (Goes (Unstaging nodes places refused place)) (Ends (answer.Refused refused)))
  at_unstaging true nodes places refused place = tt
  at_unstaging false nodes places refused place = tt

  at_staging : (nodes : Begun) (places : List (Option Reason)) (collected : ℕ) → Spares (staging nodes places collected)
  at_staging nodes places collected = by_next (nat_lt (length places) (length nodes.to)) (is_place (accepted_from 0 places) places)
    where
      by_next : (b c : Bool) → Spares (cond b (Goes (Staging nodes places collected)) (cond c (Goes (attaching (all_staged nodes places collected) (accepted_from 0 places) 0)) (Ends (all_refused places))))
      by_next true c = tt
      by_next false true = at_attaching (nat_lt 0 (length nodes.with)) (nat_lt 0 (length nodes.with) && is_place (accepted_from (accepted_from 0 places + 1) places) places) (all_staged nodes places collected) (accepted_from 0 places) 0 (accepted_from (accepted_from 0 places + 1) places)
      by_next false false = tt

  at_place : (nodes : Begun) (places : List (Option Reason)) (collected : ℕ) (got : Result ℕ Reason) → Spares (place_done command nodes places collected got)
  at_place nodes places collected (Ok clock) = at_staging nodes (places ++ None ∷ []) (max collected clock)
  at_place nodes places collected (Err r) = by_go (send_of command).go_on
    where
      by_go : (b : Bool) → Spares (cond b (staging nodes (places ++ Some r ∷ []) collected) (unstaging nodes (places ++ Some r ∷ []) (record { reason = r; place = Some (length places) }) (accepted_from 0 (places ++ Some r ∷ []))))
      by_go true = at_staging nodes (places ++ Some r ∷ []) collected
      by_go false = at_unstaging (is_place (accepted_from 0 (places ++ Some r ∷ [])) (places ++ Some r ∷ [])) nodes (places ++ Some r ∷ []) (record { reason = r; place = Some (length places) }) (accepted_from 0 (places ++ Some r ∷ []))

  at_visiting : (d : Destruction) (left : List ℕ) → Spares (Goes (visiting d left))
  at_visiting d [] = tt
  at_visiting d (peer ∷ rest) = tt

  at_notice_syncs : (b : Bool) (d : Destruction) (stamp at : ℕ) → Spares (Goes (cond b (SyncingNotices d stamp at) (CommittingOwn d stamp)))
  at_notice_syncs true d stamp at = tt
  at_notice_syncs false d stamp at = tt

  at_notices : (b c : Bool) (d : Destruction) (stamp at : ℕ) → Spares (cond b (Goes (CommittingNotices d stamp at)) (cond c (Goes (Flushing (Some stamp))) (Ends (answer.Destroyed stamp))))
  at_notices true c d stamp at = tt
  at_notices false true d stamp at = tt
  at_notices false false d stamp at = tt

  at_destroying : (doomed visit : List ℕ) → Spares (Goes (destroying doomed visit))
  at_destroying [] visit = tt
  at_destroying (serial ∷ rest) visit = at_visiting (record { doomed = serial ∷ rest; collected = 0; staged = [] }) visit

  at_start : (outcome : Outcome) → IsPlain Starting outcome → Spares (started command outcome)
  at_start (out.Begin (Ok nodes)) plain = tt
  at_start (out.Begin (Err r)) plain = tt
  at_start (out.Recv got dead) plain = absurd plain
  at_start (out.Release (Ok owed)) plain = tt
  at_start (out.Release (Err r)) plain = tt
  at_start (out.BeginDestroy (Ok visit) doomed) plain = at_destroying doomed visit
  at_start (out.BeginDestroy (Err r) doomed) plain = tt
  at_start (out.Local got) plain = tt
  at_start outcome plain = tt

  pub turn_spares : (phase : Phase) (outcome : Outcome) → IsPlain phase outcome → Spares (turn me command phase outcome)
  turn_spares Starting outcome plain = at_start outcome plain
  turn_spares (Staging nodes places collected) (out.Stage got) plain = at_place nodes places collected got
  turn_spares (Unstaging nodes places refused place) out.Unstage plain = at_unstaging (is_place (accepted_from (place + 1) places) places) nodes places refused (accepted_from (place + 1) places)
  turn_spares (Attaching sending place handle) (out.Attach got) plain = at_attaching (nat_lt (handle + 1) (length sending.begun.with)) (nat_lt 0 (length sending.begun.with) && is_place (accepted_from (place + 1) sending.places) sending.places) (with_slot sending place handle got) place (handle + 1) (accepted_from (place + 1) sending.places)
  turn_spares (Stamping sending) (out.Stamp stamp) plain = at_syncing (is_place (accepted_from 0 sending.places) sending.places) sending stamp (accepted_from 0 sending.places) (accepted_from 0 sending.places)
  turn_spares (Syncing sending stamp place) out.Sync plain = at_syncing (is_place (accepted_from (place + 1) sending.places) sending.places) sending stamp (accepted_from (place + 1) sending.places) (accepted_from 0 sending.places)
  turn_spares (Committing sending stamp place) (out.Commit found) plain = tt
  turn_spares (Visiting d left) (out.Visit got) plain = at_visiting (with_visit d (get_or left 0 me) got) (drop 1 left)
  turn_spares (Dooming d) (out.StampDestroy (Ok stamp)) plain = at_notice_syncs (nat_lt 0 (length d.staged)) d stamp 0
  turn_spares (Dooming d) (out.StampDestroy (Err late)) plain = at_visiting d late
  turn_spares (SyncingNotices d stamp at) out.Sync plain = at_notice_syncs (nat_lt (at + 1) (length d.staged)) d stamp (at + 1)
  turn_spares (CommittingOwn d stamp) out.CommitNotices plain = at_notices (nat_lt 0 (length d.staged)) (is_flushing command) d stamp 0
  turn_spares (CommittingNotices d stamp at) out.CommitNotices plain = at_notices (nat_lt (at + 1) (length d.staged)) (is_flushing command) d stamp (at + 1)
  turn_spares (Flushing stamp) (out.Flush dead) plain = absurd plain
  turn_spares (Reaping got) outcome plain = absurd plain
  turn_spares phase outcome plain = tt
