-- What is left of an open command's work after its next event, phase by phase.
use Rattle.std.proofs.Common.{◌≡◌, ◌≢◌, ◌⊎◌, refl, sym, ap, ◌∙◌, arith, ℕ, zero, suc, ◌+◌, ◌*◌, ◌-◌, ◌≤◌, ◌<◌, Bool, true, false, List, [], ◌∷◌, length, drop, get_or, zip, filter_map, Option, Some, None, Ok, Err, subst, inl, inr}
use Rattle.b1_model.specs.declared.naming.NodeRef.{NodeRef}
use Rattle.b1_model.specs.declared.naming.Opening.{Opening}
use Rattle.b1_model.specs.declared.answers.Answer.{Answer}
use Rattle.b1_model.specs.declared.answers.Reason.{Reason}
use Rattle.b1_model.specs.declared.answers.Reason.TheVariants as reason
use Rattle.b1_model.specs.declared.answers.Refused.{Refused}
use Rattle.b1_model.specs.declared.parts.Begun.{Begun}
use Rattle.b1_model.specs.declared.events.Action.{Action}
use Rattle.b1_model.specs.declared.events.Action.TheVariants as act
use Rattle.b1_model.specs.declared.events.Destruction.{Destruction}
use Rattle.b1_model.specs.declared.events.Doing.{Doing}
use Rattle.b1_model.specs.declared.events.Outcome.TheVariants as out
use Rattle.b1_model.specs.declared.events.OwedDrop.{OwedDrop}
use Rattle.b1_model.specs.declared.events.Phase.{Phase}
use Rattle.b1_model.specs.declared.events.Phase.TheVariants.{Starting, Staging, Unstaging, Attaching, Stamping, Syncing, Committing, Dropping, Reaping, Visiting, Dooming, SyncingNotices, CommittingOwn, CommittingNotices, Flushing}
use Rattle.b1_model.specs.declared.events.Sending.{Sending}
use Rattle.b1_model.specs.MachineParts.{PeerPart, DriverPart, State}
use Rattle.b1_model.specs.MachineDriver.{Goes, turn, phase_action, peer_of, accepted_from, node_of_place, send_of, with_slot}
use Rattle.b1_model.specs.MachineTook.{owed_after, told_after, place_references, drops_of}
use Rattle.b1_model.specs.MachineEvents.{happens, stage_by, slots_at, limits_after, doomed_of, collected_of, begun_of, user_of}
use Rattle.b1_model.specs.MachineSend.{stage_refusal, attach_answer, is_committed, final_stamp}
use Rattle.b1_model.specs.MachineReceive.{reference_of, reaped_part, dropped, dropped_refs, is_released, with_release_notice}
use Rattle.b1_model.specs.MachineDestroy.{doom_by}
use Rattle.b1_inv.specs.Words.{is_accepted_place}
use Rattle.b1_inv.specs.Sends.{SendShape}
use Rattle.b1_inv.specs.Notices.{DestructionShape}
use Rattle.b1_progress.specs.Work.{kept_weight, phase_weight, queue_weight, handles_weight, dead_weight}
use Rattle.b1_progress.proofs.Weights.{filter_map_length, zip_length}
use Rattle.b1_progress.proofs.Kept.{stage_kept, unstage_kept, attach_kept, commit_kept, notices_kept, drop_kept, doom_kept, flush_kept}
use Rattle.b1_inv_tools.proofs.Facts.{accepted_within}
use Rattle.b1_progress.proofs.Falls.{Falls, attach_goes, stage_goes, unstage_goes, stamp_goes, sync_goes, commit_goes, commit_ends}
use Rattle.b1_progress.proofs.Others.{visit_goes, late_goes, doom_goes, notice_sync_goes, notices_go, flush_goes, drop_goes, drops_length}
use Rattle.b1_progress.proofs.Phases.{own_kept, own_late}

get_past : {X : Type 0} (xs : List X) (i : ℕ) (d : X) → length xs ≤ i → get_or xs i d ≡ d
get_past [] i d past = refl
get_past (x ∷ rest) zero d past = absurd (omega (arith, past))
get_past (x ∷ rest) (suc i) d past = get_past rest i d (omega (arith, past))

zip_none : (nodes : List NodeRef) → filter_map reference_of (zip nodes []) ≡ []
zip_none [] = refl
zip_none (node ∷ rest) = refl

-- the own peer's part before and after an event at some peer
pub record OwnPart (me at : ℕ) (x y before after : PeerPart) : Type 0 where
  pub own : at ≡ me → (after ≡ y) × (before ≡ x)
  pub other : at ≢ me → after ≡ before

module _ (o : Opening) (memory : Bool) (e : DriverPart) (doing : Doing) (x before after : PeerPart) where
  -- an event leaves less than there was
  abbrev pub Lessens : Action → Phase → List OwedDrop → Type 0
  Lessens action phase owed =
      Falls (turn e.me doing.command phase (happens o memory e doing action x).0) (owed_after e.me phase owed (happens o memory e doing action x).0) (told_after e.told (happens o memory e doing action x).0) (length after.late) (kept_weight after)
      (phase_weight (length before.late) phase + 2 * length owed + kept_weight before)

  abbrev pub Own : Action → Type 0
  Own action = OwnPart e.me (peer_of e.me action) x (happens o memory e doing action x).1 before after

  kept : (action : Action) → Own action → (more : ℕ) → kept_weight (happens o memory e doing action x).1 ≤ kept_weight x + more → kept_weight after ≤ kept_weight before + more
  kept action own more below = own_kept e.me (peer_of e.me action) x (happens o memory e doing action x).1 before after own.own own.other more below

  -- nothing more is kept
  same : (action : Action) → Own action → kept_weight (happens o memory e doing action x).1 ≤ kept_weight x → kept_weight after ≤ kept_weight before
  same action own below = omega (arith, kept action own 0 (omega (arith, below)))

  -- the next stage, by its refusal
  by_refusal : (nodes : Begun) (places : List (Option Reason)) (collected : ℕ) (r : Option Reason) (memory : Bool) (origin user place serial : ℕ) (payload : List ℕ) (with : List NodeRef) → length places < length nodes.to → kept_weight after ≤ kept_weight before + (5 * length nodes.with + 1)
      → Falls (turn e.me doing.command (Staging nodes places collected) (stage_by r memory origin user place serial payload with x).0) (owed_after e.me (Staging nodes places collected) [] (stage_by r memory origin user place serial payload with x).0) (told_after e.told (stage_by r memory origin user place serial payload with x).0) (length after.late) (kept_weight after)
      (phase_weight (length before.late) (Staging nodes places collected) + 0 + kept_weight before)
  by_refusal nodes places collected (Some r) memory origin user place serial payload with before_end below = stage_goes doing.command e.told (length after.late) (kept_weight before) (kept_weight after) nodes places collected (Err r) before_end below
  by_refusal nodes places collected None true origin user place serial payload with before_end below = stage_goes doing.command e.told (length after.late) (kept_weight before) (kept_weight after) nodes places collected (Err reason.Memory) before_end below
  by_refusal nodes places collected None false origin user place serial payload with before_end below = stage_goes doing.command e.told (length after.late) (kept_weight before) (kept_weight after) nodes places collected (Ok x.clock) before_end below

  pub stage_lessens : (nodes : Begun) (places : List (Option Reason)) (collected : ℕ) → doing.phase ≡ Staging nodes places collected → length places < length nodes.to
      → Own (act.Stage (node_of_place nodes.to (length places)).owner (length places)) → Lessens (act.Stage (node_of_place nodes.to (length places)).owner (length places)) (Staging nodes places collected) []
  stage_lessens nodes places collected is before_end own =
      let refusal = stage_refusal x (user_of o e.me) (node_of_place (begun_of doing.phase).to (length places)).serial (length (send_of doing.command).payload) (length (begun_of doing.phase).with) in
      let below = kept (act.Stage (node_of_place nodes.to (length places)).owner (length places)) own (5 * length (begun_of doing.phase).with + 1)
      (stage_kept refusal memory e.me (user_of o e.me) (length places) (node_of_place (begun_of doing.phase).to (length places)).serial (send_of doing.command).payload (begun_of doing.phase).with x) in
      by_refusal nodes places collected refusal memory e.me (user_of o e.me) (length places) (node_of_place (begun_of doing.phase).to (length places)).serial (send_of doing.command).payload (begun_of doing.phase).with before_end
      (omega (arith, below, ap (λ one. length (begun_of one).with) is))

  pub unstage_lessens : (nodes : Begun) (places : List (Option Reason)) (refused : Refused) (place : ℕ) → length places ≤ length nodes.to → is_accepted_place places place ≡ true
      → Own (act.Unstage (node_of_place nodes.to place).owner place) → Lessens (act.Unstage (node_of_place nodes.to place).owner place) (Unstaging nodes places refused place) []
  unstage_lessens nodes places refused place within accepted own =
      unstage_goes doing.command e.told (length after.late) (kept_weight before) (kept_weight after) nodes places refused place within (accepted_within places place accepted)
      (same (act.Unstage (node_of_place nodes.to place).owner place) own (unstage_kept x e.me place))

  pub attach_lessens : (s : State) (sending : Sending) (place handle : ℕ) → SendShape s doing.command (Attaching sending place handle)
      → Own (phase_action e.me e.shut doing.command (Attaching sending place handle)) → Lessens (phase_action e.me e.shut doing.command (Attaching sending place handle)) (Attaching sending place handle) []
  attach_lessens s sending place handle shape own =
      let serial = (node_of_place sending.begun.with handle).serial in
      let dest = (node_of_place sending.begun.to place).owner in
      attach_goes doing.command e.told (length after.late) (kept_weight before) (kept_weight after) sending (with_slot sending place handle (attach_answer x serial dest)) place handle refl refl shape.0.places
      (omega (arith, accepted_within sending.places place shape.1, shape.0.places)) shape.2
      (same (act.Attach (node_of_place sending.begun.with handle).owner serial dest) own (attach_kept x serial dest))

  pub stamp_lessens : (sending : Sending) → Own act.Stamp → Lessens act.Stamp (Stamping sending) []
  stamp_lessens sending own =
      stamp_goes doing.command e.told (length after.late) (kept_weight before) (kept_weight after) sending (final_stamp x (collected_of doing.phase)) (accepted_from 0 sending.places) (same act.Stamp own (omega arith))

  pub sync_lessens : (s : State) (sending : Sending) (stamp place : ℕ) → SendShape s doing.command (Syncing sending stamp place)
      → Own (act.Sync (node_of_place sending.begun.to place).owner stamp) → Lessens (act.Sync (node_of_place sending.begun.to place).owner stamp) (Syncing sending stamp place) []
  sync_lessens s sending stamp place shape own =
      sync_goes doing.command e.told (length after.late) (kept_weight before) (kept_weight after) sending stamp place shape.0.places
      (omega (arith, accepted_within sending.places place shape.1, shape.0.places))
      (same (act.Sync (node_of_place sending.begun.to place).owner stamp) own (omega arith))

  -- a place owes a drop for each handle at most, and none behind the last place
  owed_few : (sending : Sending) (stamp place : ℕ) → length (drops_of (node_of_place sending.begun.to place).owner stamp (place_references sending place)) ≤ length sending.begun.with
  owed_few sending stamp place = omega (arith, drops_length (node_of_place sending.begun.to place).owner stamp (place_references sending place), filter_map_length reference_of (zip sending.begun.with (get_or sending.slots place [])), zip_length sending.begun.with (get_or sending.slots place []))

  pub commit_lessens : (s : State) (sending : Sending) (stamp place : ℕ) → doing.phase ≡ Committing sending stamp place → SendShape s doing.command (Committing sending stamp place)
      → Own (act.Commit (node_of_place sending.begun.to place).owner place stamp) → Lessens (act.Commit (node_of_place sending.begun.to place).owner place stamp) (Committing sending stamp place) []
  commit_lessens s sending stamp place is shape own = by_place shape.1
    where
      less : kept_weight after ≤ kept_weight before
      less = same (act.Commit (node_of_place sending.begun.to place).owner place stamp) own (commit_kept x e.me place stamp (slots_at doing.phase place))

      Left : List OwedDrop → Type 0
      Left owed = Falls (Goes (Committing sending stamp (accepted_from (place + 1) sending.places))) owed e.told (length after.late) (kept_weight after) (phase_weight (length before.late) (Committing sending stamp place) + 0 + kept_weight before)

      within : is_accepted_place sending.places place ≡ true → place < length sending.begun.to
      within accepted = omega (arith, accepted_within sending.places place accepted, shape.0.places)

      by_found : (b : Bool) → is_accepted_place sending.places place ≡ true → Left (owed_after e.me (Committing sending stamp place) [] (out.Commit b))
      by_found true accepted = commit_goes doing.command e.told (length after.late) (kept_weight before) (kept_weight after) sending stamp place [] shape.0.places (within accepted) (omega arith) less
      by_found false accepted = commit_goes doing.command e.told (length after.late) (kept_weight before) (kept_weight after) sending stamp place (drops_of (node_of_place sending.begun.to place).owner stamp (place_references sending place)) shape.0.places (within accepted) (owed_few sending stamp place) less

      past_owes : length sending.places ≤ place → place_references sending place ≡ []
      past_owes past = ap (λ l. filter_map reference_of (zip sending.begun.with l)) (get_past sending.slots place [] (omega (arith, past, shape.0.places, shape.0.lists))) ∙ zip_none sending.begun.with

      by_past : (b : Bool) → length sending.places ≤ place → Left (owed_after e.me (Committing sending stamp place) [] (out.Commit b))
      by_past true past = commit_ends doing.command e.told (length after.late) (kept_weight before) (kept_weight after) sending stamp place _ past
      by_past false past = subst (λ refs. Left (drops_of (node_of_place sending.begun.to place).owner stamp refs)) (sym (past_owes past)) (commit_ends doing.command e.told (length after.late) (kept_weight before) (kept_weight after) sending stamp place _ past)

      by_place : (is_accepted_place sending.places place ≡ true) ⊎ (length sending.places ≤ place) → Left (owed_after e.me (Committing sending stamp place) [] (out.Commit (is_committed x e.me place)))
      by_place (inl accepted) = by_found (is_committed x e.me place) accepted
      by_place (inr past) = by_past (is_committed x e.me place) past

  pub flush_lessens : (stamp : Option ℕ) → Own act.Flush → Lessens act.Flush (Flushing stamp) []
  flush_lessens stamp own = flush_goes doing.command (told_after e.told (happens o memory e doing act.Flush x).0) (length before.late) (length after.late) (kept_weight before) (kept_weight after) stamp (same act.Flush own (flush_kept x (limits_after doing.command x.limits)))

  -- ---- a destruction

  -- a visit is at another peer
  pub visit_lessens : (s : State) (d : Destruction) (left : List ℕ) → before.me ≡ e.me → DestructionShape before.peers before doing.command (Visiting d left)
      → Own (act.Visit (get_or left 0 e.me)) → Lessens (act.Visit (get_or left 0 e.me)) (Visiting d left) []
  visit_lessens s d [] mine shape own = absurd (omega (arith, shape.2))
  visit_lessens s d (q ∷ rest) mine shape own =
      let away : after ≡ before = own.other (λ is. (shape.3.others q (inl refl)).1 (is ∙ sym mine)) in
      visit_goes doing.command e.told (length before.late) (length after.late) (kept_weight before) (kept_weight after) d q rest _ (omega (arith, ap (λ z. length z.late) away)) (omega (arith, ap kept_weight away))

  pub doom_lessens : (d : Destruction) → Own act.StampDestroy → Lessens act.StampDestroy (Dooming d) []
  doom_lessens d own = by_late x.late refl
    where
      mine : (after ≡ (happens o memory e doing act.StampDestroy x).1) × (before ≡ x)
      mine = own.own refl

      less : kept_weight after ≤ kept_weight before
      less = same act.StampDestroy own (doom_kept x (collected_of doing.phase) (doomed_of doing.phase))

      emptied : (late : List ℕ) (peer : ℕ) (rest : List ℕ) → late ≡ peer ∷ rest → length (doom_by late x (collected_of doing.phase) (doomed_of doing.phase)).late ≡ 0
      emptied late peer rest is = ap (λ l. length (doom_by l x (collected_of doing.phase) (doomed_of doing.phase)).late) is

      by_late : (late : List ℕ) → x.late ≡ late → Falls (turn e.me doing.command (Dooming d) (out.StampDestroy (elim late [ [] ↦ Ok (final_stamp x (collected_of doing.phase)) | peer ∷ rest ↦ Err (peer ∷ rest) ]))) [] e.told (length after.late) (kept_weight after) (phase_weight (length before.late) (Dooming d) + 0 + kept_weight before)
      by_late [] is = doom_goes doing.command e.told (length before.late) (length after.late) (kept_weight before) (kept_weight after) d (final_stamp x (collected_of doing.phase)) less
      by_late (peer ∷ rest) is = late_goes doing.command e.told (length before.late) (length after.late) (kept_weight before) (kept_weight after) d (peer ∷ rest)
          (omega (arith, ap (λ z. length z.late) mine.1, ap length is)) (omega (arith, ap (λ z. length z.late) mine.1, ap length is))
          (ap (λ z. length z.late) mine.0 ∙ emptied x.late peer rest is) less

  pub notice_sync_lessens : (d : Destruction) (stamp at : ℕ) → at < length d.staged → Own (act.Sync (get_or d.staged at e.me) stamp) → Lessens (act.Sync (get_or d.staged at e.me) stamp) (SyncingNotices d stamp at) []
  notice_sync_lessens d stamp at before_end own = notice_sync_goes doing.command e.told (length before.late) (length after.late) (kept_weight before) (kept_weight after) d stamp at before_end (same (act.Sync (get_or d.staged at e.me) stamp) own (omega arith))

  pub own_notices_lessen : (d : Destruction) (stamp : ℕ) → Own (act.CommitNotices e.me stamp) → Lessens (act.CommitNotices e.me stamp) (CommittingOwn d stamp) []
  own_notices_lessen d stamp own = notices_go doing.command e.told (length before.late) (length after.late) (kept_weight before) (kept_weight after) d stamp 0 (length d.staged + 4) (omega arith) (same (act.CommitNotices e.me stamp) own (notices_kept x e.me stamp))

  pub notices_lessen : (d : Destruction) (stamp at : ℕ) → at < length d.staged → Own (act.CommitNotices (get_or d.staged at e.me) stamp) → Lessens (act.CommitNotices (get_or d.staged at e.me) stamp) (CommittingNotices d stamp at) []
  notices_lessen d stamp at before_end own = notices_go doing.command e.told (length before.late) (length after.late) (kept_weight before) (kept_weight after) d stamp (at + 1) ((length d.staged - at) + 3) (omega (arith, before_end)) (same (act.CommitNotices (get_or d.staged at e.me) stamp) own (notices_kept x e.me stamp))

  -- ---- what is given up

  pub reap_lessens : (got : Answer) → Own act.Reap → Lessens act.Reap (Reaping got) []
  reap_lessens got own = by_dead x.dead refl
    where
      mine : (after ≡ reaped_part x) × (before ≡ x)
      mine = own.own refl

      after_weight : (dead : List (List (NodeRef × ℕ))) → x.dead ≡ dead → kept_weight after ≡ queue_weight x.queue + handles_weight x.handles + dead_weight (drop 1 dead)
      after_weight dead is = ap kept_weight mine.0 ∙ ap (λ d. queue_weight x.queue + handles_weight x.handles + dead_weight (drop 1 d)) is

      before_weight : (dead : List (List (NodeRef × ℕ))) → x.dead ≡ dead → kept_weight before ≡ queue_weight x.queue + handles_weight x.handles + dead_weight dead
      before_weight dead is = ap kept_weight mine.1 ∙ ap (λ d. queue_weight x.queue + handles_weight x.handles + dead_weight d) is

      by_dead : (dead : List (List (NodeRef × ℕ))) → x.dead ≡ dead
          → Falls (turn e.me doing.command (Reaping got) (out.Reap (elim dead [ [] ↦ None | item ∷ rest ↦ Some (record { drops = item; clock = x.clock }) ]) (elim (drop 1 dead) [ [] ↦ false | item ∷ rest ↦ true ])))
          (owed_after e.me (Reaping got) [] (out.Reap (elim dead [ [] ↦ None | item ∷ rest ↦ Some (record { drops = item; clock = x.clock }) ]) (elim (drop 1 dead) [ [] ↦ false | item ∷ rest ↦ true ])))
          (elim (drop 1 dead) [ [] ↦ false | item ∷ rest ↦ true ]) (length after.late) (kept_weight after) (phase_weight (length before.late) (Reaping got) + 0 + kept_weight before)
      by_dead [] is going = absurd (cc going)
      by_dead (item ∷ rest) is going = omega (arith, after_weight (item ∷ rest) is, before_weight (item ∷ rest) is, drops_length e.me x.clock item)

  -- a drop leaves the late set
  drop_late : (serial holder k clock : ℕ) → length (dropped x serial holder k clock).late ≤ length x.late
  drop_late serial holder k clock = by_release (is_released (dropped_refs x serial holder k clock) serial)
    where
      by_release : (b : Bool) → length (with_release_notice b (dropped_refs x serial holder k clock) serial).late ≤ length x.late
      by_release false = omega arith
      by_release true = omega arith

  pub drop_lessens : (phase : Phase) (one : OwedDrop) (rest : List OwedDrop) → (phase ≡ Starting → ⊥)
      → Own (act.DropRefs one.node.owner one.node.serial one.holder one.amount one.clock) → Lessens (act.DropRefs one.node.owner one.node.serial one.holder one.amount one.clock) phase (one ∷ rest)
  drop_lessens phase one rest begun own = by_phase phase begun
    where
      more : kept_weight after ≤ kept_weight before + 1
      more = kept (act.DropRefs one.node.owner one.node.serial one.holder one.amount one.clock) own 1 (drop_kept x one.node.serial one.holder one.amount one.clock)

      fewer : length after.late ≤ length before.late
      fewer = own_late e.me one.node.owner x (dropped x one.node.serial one.holder one.amount one.clock) before after own.own own.other (drop_late one.node.serial one.holder one.amount one.clock)

      goes : (to : Phase) → Falls (Goes to) rest e.told (length after.late) (kept_weight after) (phase_weight (length before.late) to + 2 * length (one ∷ rest) + kept_weight before)
      goes to = drop_goes doing.command e.told (length before.late) (length after.late) (kept_weight before) (kept_weight after) to one rest fewer more

      by_phase : (to : Phase) → (to ≡ Starting → ⊥) → Falls (turn e.me doing.command to out.DropRefs) rest e.told (length after.late) (kept_weight after) (phase_weight (length before.late) to + 2 * length (one ∷ rest) + kept_weight before)
      by_phase Starting begun = absurd (begun refl)
      by_phase (Staging nodes places collected) begun = goes (Staging nodes places collected)
      by_phase (Unstaging nodes places refused place) begun = goes (Unstaging nodes places refused place)
      by_phase (Attaching sending place handle) begun = goes (Attaching sending place handle)
      by_phase (Stamping sending) begun = goes (Stamping sending)
      by_phase (Syncing sending stamp place) begun = goes (Syncing sending stamp place)
      by_phase (Committing sending stamp place) begun = goes (Committing sending stamp place)
      by_phase Dropping begun = goes Dropping
      by_phase (Reaping got) begun = goes (Reaping got)
      by_phase (Visiting d left) begun = goes (Visiting d left)
      by_phase (Dooming d) begun = goes (Dooming d)
      by_phase (SyncingNotices d stamp at) begun = goes (SyncingNotices d stamp at)
      by_phase (CommittingOwn d stamp) begun = goes (CommittingOwn d stamp)
      by_phase (CommittingNotices d stamp at) begun = goes (CommittingNotices d stamp at)
      by_phase (Flushing stamp) begun = goes (Flushing stamp)
