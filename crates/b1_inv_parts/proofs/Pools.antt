-- Slices and queued messages of one part through one event.
use Rattle.std.proofs.Common.{◌≡◌, refl, sym, ap, ◌∙◌, inl, inr, subst, ℕ, ◌+◌, ◌≤◌, Bool, true, false, List, [], ◌∷◌, map, filter, fold, zip, length, Option, Some, None}
use Rattle.b1_model.specs.declared.naming.Key.{Key}
use Rattle.b1_model.specs.declared.naming.NodeRef.{NodeRef}
use Rattle.b1_model.specs.declared.naming.Opening.{Opening}
use Rattle.b1_model.specs.declared.commands.Command.{Command}
use Rattle.b1_model.specs.declared.commands.Command.TheVariants as cmd
use Rattle.b1_model.specs.declared.parts.Attach.{Attach}
use Rattle.b1_model.specs.declared.parts.Attach.TheVariants as attach
use Rattle.b1_model.specs.declared.parts.Slot.{Slot}
use Rattle.b1_model.specs.declared.parts.Slot.TheVariants as slot
use Rattle.b1_model.specs.declared.answers.Reason.{Reason}
use Rattle.b1_model.specs.declared.entries.Entry.{Entry}
use Rattle.b1_model.specs.declared.entries.Entry.TheVariants.{Message, OwnNotice, ForeignNotice, ReleaseNotice}
use Rattle.b1_model.specs.declared.events.Action.{Action}
use Rattle.b1_model.specs.declared.events.Action.TheVariants as act
use Rattle.b1_model.specs.declared.events.Doing.{Doing}
use Rattle.b1_model.specs.MachineParts.{PeerPart, DriverPart, is_data, is_release_notice, record_or_none}
use Rattle.b1_model.specs.MachinePool.{slice_len, largest_free, is_received}
use Rattle.b1_model.specs.MachineTables.{put, without, is_stage, is_staged_notice, foreign, made_dead}
use Rattle.b1_model.specs.MachineSend.{first_reason, stage_reasons, stage_refusal, find_stage, unstaged_by, attached_by, attach_answer, committed_by, with_stamp, notices_committed}
use Rattle.b1_model.specs.MachineReceive.{Arriving, reference_by, slot_arrives, taken_entry, with_release_notice, is_released, dropped_refs, slice_given_back}
use Rattle.b1_model.specs.MachineDestroy.{with_own_notices, needs_notice, notice_by, visited_from}
use Rattle.b1_model.specs.MachineEvents.{happens, stage_by, destroy_by, begin_refusal, begin_serials, doomed_of, slots_at, local_part}
use Rattle.b1_step.specs.Rights.{Has}
use Rattle.b1_step.specs.Ordered.{Ascending, Rising}
use Rattle.b1_step.proofs.Changed.{changes}
use Rattle.b1_step.proofs.Lists.{filter_has, has_map}
use Rattle.b1_step.proofs.Lookups.{rising_changed}
use Rattle.b1_step.proofs.Orders.{find_has}
use Rattle.b1_step.proofs.Queues.{put_has, has_put_old, put_all_has, has_put_all_old, has_without, without_has}
use Rattle.b1_inv.specs.Stages.{OnceEach}
use Rattle.b1_inv_peer.proofs.Clearing.{without_front}
use Rattle.b1_inv_peer.proofs.RecordFields.{rising_unexpected}
use Rattle.b1_inv_refs.proofs.Arrivals.{slot_rising}
use Rattle.b1_inv_sends.proofs.Once.{notice_is}
use Rattle.b1_peer_pool.specs.Stored.{full_reason}
use Rattle.b1_peer_pool.proofs.Fits.{full_reason-none}
use Rattle.b1_peer_pool.proofs.Laws.{IsPool-whole_pool}
use Rattle.b1_inv_parts.proofs.Slices.{AreSliced, same_messages, stage_left, stage_committed, message_staged, received_left, front_given_back, front_published, front_notice, nothing_sliced}
use Rattle.b1_inv_parts.proofs.Receives.{received_all}

abbrev Queue : Type 0
Queue = List (Key × Entry)

-- what is so of one part
abbrev pub PartSliced : PeerPart → Type 0
PartSliced x = AreSliced x.pool x.queue x.slices

-- ---- queues with the same messages

pub record SameMessages (old new : Queue) : Type 0 where
  pub less : (f : Key × Entry) → is_data f.1 ≡ true → Has new f → Has old f
  pub more : (f : Key × Entry) → is_data f.1 ≡ true → Has old f → Has new f

same_queue : (queue : Queue) → SameMessages queue queue
same_queue queue = record { less = λ f m h. h; more = λ f m h. h }

then_same : (old mid new : Queue) → SameMessages old mid → SameMessages mid new → SameMessages old new
then_same old mid new a b = record { less = λ f m h. a.less f m (b.less f m h); more = λ f m h. b.more f m (a.more f m h) }

same_put : (k : Key) (e : Entry) (queue : Queue) → is_data e ≡ false → SameMessages queue (put k e queue)
same_put k e queue notice = record {
  less = λ f m h. elim (put_has k e queue f h) [ inl new ↦ absurd (cc (sym m ∙ ap (λ g. is_data g.1) new ∙ notice)) | inr old ↦ old ];
  more = λ f m h. has_put_old k e queue f h;
}

same_without : (test : Key × Entry → Bool) (queue : Queue) → ((f : Key × Entry) → is_data f.1 ≡ true → test f ≡ false) → SameMessages queue (without test queue)
same_without test queue fails = record { less = λ f m h. without_has test queue f h; more = λ f m h. has_without test queue f h (fails f m) }

message_no_release : (serial : ℕ) (f : Key × Entry) → is_data f.1 ≡ true → is_release_notice serial f ≡ false
message_no_release serial (k, Message origin user index dest offset len nodes slots handles payload) is = refl
message_no_release serial (k, OwnNotice doomed index) is = absurd (cc is)
message_no_release serial (k, ForeignNotice node index) is = refl
message_no_release serial (k, ReleaseNotice mine) is = absurd (cc is)

message_no_notice : (origin : ℕ) (f : Key × Entry) → is_data f.1 ≡ true → is_staged_notice origin f ≡ false
message_no_notice origin f is = rw is refl

same_attach : (a : Attach) (x : PeerPart) (serial dest : ℕ) → SameMessages x.queue (attached_by a x serial dest).queue
same_attach attach.Counted x serial dest = same_without (is_release_notice serial) x.queue (message_no_release serial)
same_attach attach.Own x serial dest = same_queue x.queue
same_attach (attach.Void stamp) x serial dest = same_queue x.queue

same_notices : (x : PeerPart) (origin stamp : ℕ) → SameMessages x.queue (notices_committed x origin stamp).queue
same_notices x origin stamp = record { less = less; more = λ f m h. has_put_all_old moved left f (has_without (is_staged_notice origin) x.queue f h (message_no_notice origin f m)) }
  where
    moved : Queue
    moved = map (with_stamp stamp) (filter (is_staged_notice origin) x.queue)

    left : Queue
    left = without (is_staged_notice origin) x.queue

    less : (f : Key × Entry) → is_data f.1 ≡ true → Has (notices_committed x origin stamp).queue f → Has x.queue f
    less f m h =
        elim (put_all_has (map (with_stamp stamp) (filter (is_staged_notice origin) x.queue)) (without (is_staged_notice origin) x.queue) f h) [
          | inl new ↦
              let from = has_map (with_stamp stamp) (filter (is_staged_notice origin) x.queue) f new in
              let notice = notice_is origin from.0 (filter_has (is_staged_notice origin) x.queue from.0 from.1).1 in
              absurd (cc (sym m ∙ ap (λ g. is_data g.1) from.2 ∙ notice))
          | inr old ↦ without_has (is_staged_notice origin) x.queue f old
        ]

same_drop : (b : Bool) (x : PeerPart) (serial : ℕ) → SameMessages x.queue (with_release_notice b x serial).queue
same_drop false x serial = same_queue x.queue
same_drop true x serial = same_put _ (ReleaseNotice serial) x.queue refl

same_own : (x : PeerPart) (index : ℕ) (doomed : List ℕ) (queue : Queue) → SameMessages queue (with_own_notices x index doomed queue)
same_own x index [] queue = same_queue queue
same_own x index (serial ∷ rest) queue =
    let left = without (is_release_notice serial) queue in
    let key : Key = record { stamp = x.clock + 1; origin = x.me; index = index } in
    then_same queue (put key (OwnNotice serial index) left) (with_own_notices x (index + 1) rest (put key (OwnNotice serial index) left))
    (then_same queue left (put key (OwnNotice serial index) left) (same_without (is_release_notice serial) queue (message_no_release serial)) (same_put key (OwnNotice serial index) left refl))
    (same_own x (index + 1) rest (put key (OwnNotice serial index) left))

same_destroy : (r : Option Reason) (doomed : List ℕ) (x : PeerPart) → SameMessages x.queue (destroy_by r doomed x).1.queue
same_destroy (Some r) doomed x = same_queue x.queue
same_destroy None doomed x = same_own x 0 doomed x.queue

same_notice : (b : Bool) (origin : ℕ) (x : PeerPart) (index : ℕ) (node : NodeRef) → SameMessages x.queue (notice_by b origin x index node).queue
same_notice false origin x index node = same_queue x.queue
same_notice true origin x index node = same_put _ (ForeignNotice node index) x.queue refl

same_visit : (origin : ℕ) (serials : List ℕ) (index : ℕ) (x : PeerPart) → SameMessages x.queue (visited_from origin index serials x).queue
same_visit origin [] index x = same_queue x.queue
same_visit origin (serial ∷ rest) index x =
    let node : NodeRef = record { owner = origin; serial = serial } in
    let next = notice_by (needs_notice x node) origin x index node in
    then_same x.queue next.queue (visited_from origin (index + 1) rest next).queue (same_notice (needs_notice x node) origin x index node) (same_visit origin rest (index + 1) next)

-- ---- RECV

-- a part whose records and keys are in order
pub record InOrder (x : PeerPart) : Type 0 where
  pub rising : Rising x.handles
  pub ascending : Ascending x.queue
  pub sliced : PartSliced x

module _ (x : PeerPart) (f : Key × Entry) (rest : Queue) (is : x.queue ≡ f ∷ rest) (ok : InOrder x) where
  front_sliced : AreSliced x.pool (f ∷ rest) x.slices
  front_sliced = subst (λ q. AreSliced x.pool q x.slices) is ok.sliced

  front_up : Ascending (f ∷ rest)
  front_up = subst Ascending is ok.ascending

pub front_gone : (x : PeerPart) (f : Key × Entry) (rest : Queue) → x.queue ≡ f ∷ rest → InOrder x → InOrder (without_front x f rest)
front_gone x (k, Message origin user index serial offset len nodes slots handles payload) rest is ok = record {
  rising = rising_unexpected (foreign x.me nodes) x.handles ok.rising;
  ascending = (front_up x (k, Message origin user index serial offset len nodes slots handles payload) rest is ok).1;
  sliced = front_given_back x.pool (k, Message origin user index serial offset len nodes slots handles payload) rest x.slices (front_sliced x (k, Message origin user index serial offset len nodes slots handles payload) rest is ok) (front_up x (k, Message origin user index serial offset len nodes slots handles payload) rest is ok) refl;
}
front_gone x (k, OwnNotice serial index) rest is ok = record {
  rising = ok.rising;
  ascending = (front_up x (k, OwnNotice serial index) rest is ok).1;
  sliced = front_notice x.pool (k, OwnNotice serial index) rest x.slices (front_sliced x (k, OwnNotice serial index) rest is ok) (front_up x (k, OwnNotice serial index) rest is ok) refl;
}
front_gone x (k, ForeignNotice node index) rest is ok = record {
  rising = rising_changed node made_dead (λ h. refl) x.handles ok.rising;
  ascending = (front_up x (k, ForeignNotice node index) rest is ok).1;
  sliced = front_notice x.pool (k, ForeignNotice node index) rest x.slices (front_sliced x (k, ForeignNotice node index) rest is ok) (front_up x (k, ForeignNotice node index) rest is ok) refl;
}
front_gone x (k, ReleaseNotice serial) rest is ok = record {
  rising = ok.rising;
  ascending = (front_up x (k, ReleaseNotice serial) rest is ok).1;
  sliced = front_notice x.pool (k, ReleaseNotice serial) rest x.slices (front_sliced x (k, ReleaseNotice serial) rest is ok) (front_up x (k, ReleaseNotice serial) rest is ok) refl;
}

-- while slots arrive pool, queue and slices stay
pub record SameStore (x y : PeerPart) : Type 0 where
  pub pool : y.pool ≡ x.pool
  pub queue : y.queue ≡ x.queue
  pub slices : y.slices ≡ x.slices
  pub rising : Rising y.handles

at_reference : (b : Bool) (a : Arriving) (with : NodeRef) → ((reference_by b a with).part.pool ≡ a.part.pool) × ((reference_by b a with).part.queue ≡ a.part.queue) × ((reference_by b a with).part.slices ≡ a.part.slices)
at_reference true a with = (refl, refl, refl)
at_reference false a with = (refl, refl, refl)

at_slot : (a : Arriving) (with : NodeRef) (s : Slot) → ((slot_arrives a (with, s)).part.pool ≡ a.part.pool) × ((slot_arrives a (with, s)).part.queue ≡ a.part.queue) × ((slot_arrives a (with, s)).part.slices ≡ a.part.slices)
at_slot a with slot.Unattached = (refl, refl, refl)
at_slot a with slot.Attached = at_reference (record_or_none with a.part.handles).dead a with
at_slot a with slot.Own = (refl, refl, refl)
at_slot a with slot.Void = (refl, refl, refl)

pub at_slots : (ss : List (NodeRef × Slot)) (a : Arriving) → Rising a.part.handles → SameStore a.part (fold slot_arrives a ss).part
at_slots [] a up = record { pool = refl; queue = refl; slices = refl; rising = up }
at_slots ((with, s) ∷ rest) a up =
    let further = at_slots rest (slot_arrives a (with, s)) (slot_rising a with s up) in
    let first = at_slot a with s in
    record { pool = further.pool ∙ first.0; queue = further.queue ∙ first.1; slices = further.slices ∙ first.2; rising = further.rising }

same_store : (x y : PeerPart) → SameStore x y → Ascending x.queue → PartSliced x → InOrder y
same_store x y same up sliced = record {
  rising = same.rising;
  ascending = subst Ascending (sym same.queue) up;
  sliced = subst (λ n. AreSliced n y.queue y.slices) (sym same.pool) (subst (λ q. AreSliced x.pool q y.slices) (sym same.queue) (subst (AreSliced x.pool x.queue) (sym same.slices) sliced));
}

front_takes : (x : PeerPart) (f : Key × Entry) (rest : Queue) → x.queue ≡ f ∷ rest → InOrder x → InOrder (taken_entry (record x { queue = rest }) f.0 f.1).1
front_takes x (k, Message origin user index serial offset len nodes slots handles payload) rest is ok =
    let f : Key × Entry = (k, Message origin user index serial offset len nodes slots handles payload) in
    let sliced = front_published x.pool f rest x.slices (front_sliced x f rest is ok) (front_up x f rest is ok) refl in
    let a = at_slots (zip nodes slots) _ ok.rising in
    let done = same_store _ _ a (front_up x f rest is ok).1 sliced in
    record { rising = done.rising; ascending = done.ascending; sliced = done.sliced }
front_takes x (k, OwnNotice serial index) rest is ok = record {
  rising = ok.rising;
  ascending = (front_up x (k, OwnNotice serial index) rest is ok).1;
  sliced = front_notice x.pool (k, OwnNotice serial index) rest x.slices (front_sliced x (k, OwnNotice serial index) rest is ok) (front_up x (k, OwnNotice serial index) rest is ok) refl;
}
front_takes x (k, ForeignNotice node index) rest is ok = record {
  rising = rising_changed node made_dead (λ h. refl) x.handles ok.rising;
  ascending = (front_up x (k, ForeignNotice node index) rest is ok).1;
  sliced = front_notice x.pool (k, ForeignNotice node index) rest x.slices (front_sliced x (k, ForeignNotice node index) rest is ok) (front_up x (k, ForeignNotice node index) rest is ok) refl;
}
front_takes x (k, ReleaseNotice serial) rest is ok = record {
  rising = ok.rising;
  ascending = (front_up x (k, ReleaseNotice serial) rest is ok).1;
  sliced = front_notice x.pool (k, ReleaseNotice serial) rest x.slices (front_sliced x (k, ReleaseNotice serial) rest is ok) (front_up x (k, ReleaseNotice serial) rest is ok) refl;
}

-- ---- the other events

-- where there is no first reason there is none
first_none : (rs : List (Option Reason)) → first_reason rs ≡ None → (r : Option Reason) → Has rs r → r ≡ None
first_none [] is r h = absurd h
first_none (None ∷ rest) is r (inl same) = same
first_none (None ∷ rest) is r (inr there) = first_none rest is r there
first_none (Some s ∷ rest) is r h = absurd (cc is)

pub stage_fits : (x : PeerPart) (user serial payload handles : ℕ) → stage_refusal x user serial payload handles ≡ None → slice_len payload handles ≤ largest_free x.slices
stage_fits x user serial payload handles is =
    full_reason-none x.slices payload handles (first_none (stage_reasons x user serial payload handles) is (full_reason x.slices payload handles) (inr (inr (inr (inr (inr (inl refl)))))))

at_stage : (r : Option Reason) (memory : Bool) (origin user place serial : ℕ) (payload : List ℕ) (nodes : List NodeRef) (x : PeerPart) → stage_refusal x user serial (length payload) (length nodes) ≡ r → PartSliced x → PartSliced (stage_by r memory origin user place serial payload nodes x).1
at_stage (Some r) memory origin user place serial payload nodes x is ok = ok
at_stage None true origin user place serial payload nodes x is ok = ok
at_stage None false origin user place serial payload nodes x is ok = message_staged x.pool x.queue x.slices ok _ origin user place serial payload nodes _ (stage_fits x user serial (length payload) (length nodes) is)

at_unstage : (g : Option (Key × Entry)) (x : PeerPart) (origin index : ℕ) → find_stage x origin index ≡ g → OnceEach x.queue → PartSliced x → PartSliced (unstaged_by g x origin index)
at_unstage None x origin index is once ok = ok
at_unstage (Some g) x origin index is once ok = let there = find_has (is_stage origin index) x.queue g is in stage_left x.pool x.queue x.slices ok origin index once g there.0 there.1

at_commit : (g : Option (Key × Entry)) (x : PeerPart) (origin index stamp : ℕ) (slots : List Slot) → find_stage x origin index ≡ g → OnceEach x.queue → PartSliced x → PartSliced (committed_by g x origin index stamp slots)
at_commit None x origin index stamp slots is once ok = ok
at_commit (Some g) x origin index stamp slots is once ok = let there = find_has (is_stage origin index) x.queue g is in stage_committed x.pool x.queue x.slices ok origin index once g there.0 there.1 (record { stamp = stamp; origin = origin; index = index }) slots

at_slice : (b : Bool) (x : PeerPart) (offset : ℕ) → is_received offset x.slices ≡ b → PartSliced x → PartSliced (slice_given_back b x offset)
at_slice false x offset is ok = ok
at_slice true x offset is ok = received_left x.pool x.queue x.slices ok offset is

at_local : (shut : Bool) (c : Command) (x : PeerPart) → PartSliced x → PartSliced (local_part shut c x)
at_local true c x ok = ok
at_local false (cmd.SliceRelease offset) x ok = at_slice (is_received offset x.slices) x offset refl ok
at_local false (cmd.Limit limits) x ok = ok
at_local false cmd.Disconnect x ok = ok
at_local false cmd.Query x ok = ok
at_local false (cmd.Reset limits) x ok = ok
at_local false (cmd.Release number) x ok = ok
at_local false (cmd.Destroy numbers) x ok = ok
at_local false (cmd.Send c) x ok = ok
at_local false cmd.Recv x ok = ok
at_local false cmd.Await x ok = ok

module _ (o : Opening) (memory : Bool) (d : DriverPart) (doing : Doing) (x : PeerPart) (once : OnceEach x.queue) (ok : InOrder x) where
  abbrev after : Action → PeerPart
  after action = (happens o memory d doing action x).1

  -- slices stay, and so do messages
  by_messages : (action : Action) → (after action).pool ≡ x.pool → (after action).slices ≡ x.slices → SameMessages x.queue (after action).queue → PartSliced (after action)
  by_messages action pool slices same =
      subst (λ n. AreSliced n (after action).queue (after action).slices) (sym pool)
      (subst (AreSliced x.pool (after action).queue) (sym slices) (same_messages x.pool x.queue x.slices ok.sliced (after action).queue same.less same.more))

  by_change : (action : Action) → (after action).pool ≡ x.pool → (after action).slices ≡ x.slices → (after action).queue ≡ x.queue → PartSliced (after action)
  by_change action pool slices queue = by_messages action pool slices (subst (SameMessages x.queue) (sym queue) (same_queue x.queue))

  pub event_sliced : (action : Action) → PartSliced (after action)
  event_sliced act.Rest = ok.sliced
  event_sliced act.Begin = by_change act.Begin (ap (λ y. y.pool) (changes o memory d doing act.Begin x)) (ap (λ y. y.slices) (changes o memory d doing act.Begin x)) (ap (λ y. y.queue) (changes o memory d doing act.Begin x))
  event_sliced (act.Stage peer place) = at_stage _ memory _ _ place _ _ _ x refl ok.sliced
  event_sliced (act.Unstage peer place) = at_unstage (find_stage x d.me place) x d.me place refl once ok.sliced
  event_sliced (act.Attach peer serial dest) = by_messages (act.Attach peer serial dest) (ap (λ y. y.pool) (changes o memory d doing (act.Attach peer serial dest) x)) (ap (λ y. y.slices) (changes o memory d doing (act.Attach peer serial dest) x)) (same_attach (attach_answer x serial dest) x serial dest)
  event_sliced act.Stamp = by_change act.Stamp refl refl refl
  event_sliced (act.Sync peer stamp) = by_change (act.Sync peer stamp) refl refl refl
  event_sliced (act.Commit peer place stamp) = at_commit (find_stage x d.me place) x d.me place stamp (slots_at doing.phase place) refl once ok.sliced
  event_sliced (act.CommitNotices peer stamp) = by_messages (act.CommitNotices peer stamp) refl refl (same_notices x d.me stamp)
  event_sliced act.Recv = (received_all InOrder (λ y is. is.rising) front_gone front_takes x ok).sliced
  event_sliced act.Reap = by_change act.Reap refl refl refl
  event_sliced act.Release = by_change act.Release (ap (λ y. y.pool) (changes o memory d doing act.Release x)) (ap (λ y. y.slices) (changes o memory d doing act.Release x)) (ap (λ y. y.queue) (changes o memory d doing act.Release x))
  event_sliced (act.DropRefs peer serial holder n clock) = by_messages (act.DropRefs peer serial holder n clock) (ap (λ y. y.pool) (changes o memory d doing (act.DropRefs peer serial holder n clock) x)) (ap (λ y. y.slices) (changes o memory d doing (act.DropRefs peer serial holder n clock) x)) (same_drop (is_released (dropped_refs x serial holder n clock) serial) (dropped_refs x serial holder n clock) serial)
  event_sliced act.BeginDestroy = by_messages act.BeginDestroy (ap (λ y. y.pool) (changes o memory d doing act.BeginDestroy x)) (ap (λ y. y.slices) (changes o memory d doing act.BeginDestroy x)) (same_destroy (begin_refusal doing.command x) (begin_serials doing.command x) x)
  event_sliced (act.Visit peer) = by_messages (act.Visit peer) (ap (λ y. y.pool) (changes o memory d doing (act.Visit peer) x)) (ap (λ y. y.slices) (changes o memory d doing (act.Visit peer) x)) (same_visit d.me (doomed_of doing.phase) 0 x)
  event_sliced act.StampDestroy = by_change act.StampDestroy (ap (λ y. y.pool) (changes o memory d doing act.StampDestroy x)) (ap (λ y. y.slices) (changes o memory d doing act.StampDestroy x)) (ap (λ y. y.queue) (changes o memory d doing act.StampDestroy x))
  event_sliced act.Flush = nothing_sliced x.pool (IsPool-whole_pool x.pool ok.sliced.pool.in_range)
  event_sliced act.Local = at_local d.shut doing.command x ok.sliced
