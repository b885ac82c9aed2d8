-- A peer stays what it is where the events of a SEND change it.
use Rattle.std.proofs.Common.{◌≡◌, refl, sym, ap, ◌∙◌, subst, ℕ, ◌+◌, ◌≤◌, ◌%◌, Bool, true, false, cond, not, ◌&&◌, List, [], ◌∷◌, find, length, is_some, Option, Some, None, Result, Ok, Err, ◌==◌}
use Rattle.std.specs.Prelude.{IfOk, OnErr}
use Rattle.std.proofs.lemmas.Bool.{eq-eqb}
use Rattle.std.proofs.lemmas.List.{length-set}
use native.Mathlib.Omega.{arith}
use Rattle.b1_model.specs.declared.naming.Key.{Key}
use Rattle.b1_model.specs.declared.naming.NodeRef.{NodeRef}
use Rattle.b1_model.specs.declared.parts.Slot.{Slot}
use Rattle.b1_model.specs.declared.parts.Attach.TheVariants as attach
use Rattle.b1_model.specs.declared.entries.Entry.{Entry}
use Rattle.b1_model.specs.declared.entries.Entry.TheVariants.{Message, OwnNotice, ForeignNotice, ReleaseNotice}
use Rattle.b1_model.specs.MachineParts.{PeerPart, Slice, is_data, is_odd, is_staged, carried, is_release_notice}
use Rattle.b1_model.specs.MachinePool.{slice_at, given_back, is_received, is_published}
use Rattle.b1_model.specs.MachineTables.{without, is_stage, is_staged_notice, counted, with_node, changed, less_held, unexpected, foreign}
use Rattle.b1_model.specs.MachineSend.{with_slots, with_stamp, offset_of, unstaged, unstaged_by}
use Rattle.b1_step.specs.Rights.{Has}
use Rattle.b1_step.proofs.Orders.{find_has}
use Rattle.b1_step.proofs.Queues.{without_has}
use Rattle.b1_step.proofs.Lookups.{rising_changed}
use Rattle.b1_nodes.specs.Nodes.{Nodes, node_in, attached, attached_by, attach_answer, counted_for}
use Rattle.b1_handles.specs.Handles.{Handles}
use Rattle.b1_peer_queue.specs.Mail.{Mail, committed_queue, notices_queue, IsCommittable}
use Rattle.b1_peer_pool.specs.Slices.{is_queued}
use Rattle.b1_peer_pool.specs.Stored.{Stored, IsStored}
use Rattle.b1_peer_dead.specs.Dead.{DeadSeen}
use Rattle.b1_peer_carried.specs.Carry.{AreCarried}
use Rattle.b1_peer_dead.specs.Buffers.{LosesOne, count_at}
use Rattle.b1_inv_peer.specs.Needs.{SlotsFit, CommitsAnew}
use Rattle.b1_inv_peer.specs.PeerOk.{count, carries, is_notice_for, AreOk, IsRoom, SliceOk}
use Rattle.b1_inv_peer.specs.Changes.{Removes, LessFlight, KeepsOthers}
use Rattle.b1_inv_peer.proofs.Counts.{has_count, none_found}
use Rattle.b1_inv_peer.proofs.RecordFields.{field_stays, unneeded_flight, unneeded_notice}
use Rattle.b1_inv_peer.proofs.RecordLists.{needed_changed, fewer_changed, unnoticed_changed}
use Rattle.b1_inv_peer.proofs.Entries.{all_put, all_moved, slots_as_many}
use Rattle.b1_inv_peer.proofs.QueueEvents.{removes_found, message_left}
use Rattle.b1_inv_peer.proofs.CommitEvents.{message_is_committed, notices_are_committed}
use Rattle.b1_inv_peer.proofs.NodeEvents.{released_changed}
use Rattle.b1_inv_peer.proofs.Flights.{less_unexpected}
use Rattle.b1_inv_peer.proofs.Rooms.{room_records, room_message_left, room_committed, room_notices_committed, room_released}
use Rattle.b1_peer.specs.Seen.{PeerSeen}
use Rattle.b1_peer.specs.State.{Fields, IsPeer, ContentOk, part_of, seen_of}
use Rattle.b1_peer.proofs.Bridges.{queued_slice, message_queued, others_given_back, carried_here}

abbrev Queue : Type 0
Queue = List (Key × Entry)

-- ---- attach

pub counted_table : (serial dest : ℕ) (t : Nodes) → attach_answer serial dest t ≡ attach.Counted → attached serial dest t ≡ counted_for serial dest t
counted_table serial dest t is = ap (λ a. attached_by a serial dest t) is

-- a test that finds nothing counts nothing, and one that finds something counts it
found_some : (test : Key × Entry → Bool) (queue : Queue) → 1 ≤ count test queue → is_some (find test queue) ≡ true
found_some test queue some = at (find test queue) refl
  where
    at : (o : Option (Key × Entry)) → find test queue ≡ o → is_some (find test queue) ≡ true
    at None is = let none = none_found test queue is in absurd (omega (arith, none, some))
    at (Some f) is = ap is_some is

spare_le : (b : Bool) (n : ℕ) → n ≤ cond b (n + 1) n
spare_le true n = omega arith
spare_le false n = omega arith

spare_more : (b : Bool) (n : ℕ) → b ≡ true → n + 1 ≤ cond b (n + 1) n
spare_more b n is = rw is (let e : n + 1 ≤ n + 1 = omega arith in e)

abbrev spare_after : Fields → ℕ → ℕ
spare_after p serial = cond (is_some (find (is_release_notice serial) p.mail.queue)) (p.mail.spare + 1) p.mail.spare

pub attach_kept : (p : Fields) → IsPeer p → (serial dest : ℕ) (late : List ℕ) → IsPeer (record p {
  mail = record p.mail { queue = without (is_release_notice serial) p.mail.queue; spare = cond (is_some (find (is_release_notice serial) p.mail.queue)) (p.mail.spare + 1) p.mail.spare };
  nodes = record p.nodes { nodes = with_node serial (counted dest) p.nodes.nodes; late = late };
})
attach_kept p peer serial dest late = record {
  ok = released_changed p.me p.nodes.nodes p.store.slices p.mail.queue p.handles.records peer.ok serial (counted dest) refl;
  room = subst (λ n. IsRoom (without (is_release_notice serial) p.mail.queue) n p.handles.records (spare_after p serial) p.dead.room p.dead.singles (count_at p.dead.stacks)) (sym (length-set p.nodes.nodes serial (counted dest (node_in p.nodes.nodes serial))))
      (room_released p.mail.queue (length p.nodes.nodes) p.handles.records p.mail.spare p.dead.room p.dead.singles (count_at p.dead.stacks) peer.room serial (spare_after p serial)
      (λ none. spare_le (is_some (find (is_release_notice serial) p.mail.queue)) p.mail.spare)
      (λ some. spare_more (is_some (find (is_release_notice serial) p.mail.queue)) p.mail.spare (found_some (is_release_notice serial) p.mail.queue some)));
  contents = λ f h. peer.contents f (without_has (is_release_notice serial) p.mail.queue f h);
  stored = peer.stored;
  owner = peer.owner;
  among = peer.among;
  few = peer.few;
}

-- by the answer that the node's table gave
pub attach_done : (p : Fields) → IsPeer p → (serial dest : ℕ) (mail : Mail) (nodes : Nodes) → attach_answer serial dest p.nodes ≡ attach.Counted → nodes ≡ attached serial dest p.nodes → mail ≡ record p.mail { queue = without (is_release_notice serial) p.mail.queue; spare = cond (is_some (find (is_release_notice serial) p.mail.queue)) (p.mail.spare + 1) p.mail.spare } → IsPeer (record p { mail = mail; nodes = nodes })
attach_done p peer serial dest mail nodes is is_nodes is_mail = rw (is_mail, is_nodes ∙ counted_table serial dest p.nodes is) (attach_kept p peer serial dest (counted_for serial dest p.nodes).late)

-- ---- unstage

nothing_leaves : (test : Key × Entry → Bool) (queue : Queue) → find test queue ≡ None → without test queue ≡ queue
nothing_leaves test [] is = refl
nothing_leaves test (f ∷ rest) is = at (nothing_leaves test rest) (test f) refl is
  where
    at : (find test rest ≡ None → without test rest ≡ rest) → (b : Bool) → test f ≡ b → cond b (Some f) (find test rest) ≡ None → cond (not b) (f ∷ without test rest) (without test rest) ≡ f ∷ rest
    at further true e here = absurd (cc here)
    at further false e here = ap (λ q. f ∷ q) (further here)

-- no stage is found
pub unfound : (mail new : Mail) (r : Option (Key × Entry)) (origin index : ℕ) → r ≡ None → r ≡ find (is_stage origin index) mail.queue → new ≡ record mail { queue = without (is_stage origin index) mail.queue; spare = cond (is_some r) (mail.spare + 1) mail.spare } → new ≡ mail
unfound mail new r origin index none found is = is ∙ ap {A = Queue} {B = Mail} (λ q. record mail { queue = q; spare = cond (is_some r) (mail.spare + 1) mail.spare }) (nothing_leaves (is_stage origin index) mail.queue (sym found ∙ none)) ∙ ap {A = Option (Key × Entry)} {B = Mail} (λ o. record mail { spare = cond (is_some o) (mail.spare + 1) mail.spare }) none

-- a staged message is found, and leaves
stage_is_message : (origin index : ℕ) (f : Key × Entry) → is_stage origin index f ≡ true → is_data f.1 ≡ true
stage_is_message origin index f is = first (is_data f.1) (is_staged f) (f.0.origin == origin) (f.0.index == index) is
  where
    first : (a b c d : Bool) → (((a && b) && c) && d) ≡ true → a ≡ true
    first true b c d e = refl
    first false b c d e = absurd (cc e)

pub stage_found : (p : Fields) → IsPeer p → (origin index : ℕ) (f : Key × Entry) → find (is_stage origin index) p.mail.queue ≡ Some f → (Has p.mail.queue f) × (is_data f.1 ≡ true)
stage_found p peer origin index f is = let there = find_has (is_stage origin index) p.mail.queue f is in (there.0, stage_is_message origin index f there.1)

slice_there : (slices : List Slice) (f : Key × Entry) → is_data f.1 ≡ true → SliceOk slices f → is_queued (offset_of f.1) slices ≡ true
slice_there slices (k, Message origin user index serial offset len carries slots handles payload) is right = message_queued offset len (length carries) slices right
slice_there slices (k, OwnNotice serial index) is right = absurd (cc is)
slice_there slices (k, ForeignNotice node index) is right = absurd (cc is)
slice_there slices (k, ReleaseNotice serial) is right = absurd (cc is)

pub message_slice : (p : Fields) → IsPeer p → (f : Key × Entry) → Has p.mail.queue f → is_data f.1 ≡ true → is_queued (offset_of f.1) p.store.slices ≡ true
message_slice p peer f h is = slice_there p.store.slices f is (peer.ok.sliced f h)

slice_is : (slices : List Slice) (f : Key × Entry) → is_data f.1 ≡ true → SliceOk slices f → (s : Slice) × (slice_at (offset_of f.1) slices ≡ Some s)
slice_is slices (k, Message origin user index serial offset len carries slots handles payload) is right = (queued_slice offset len (length carries), right)
slice_is slices (k, OwnNotice serial index) is right = absurd (cc is)
slice_is slices (k, ForeignNotice node index) is right = absurd (cc is)
slice_is slices (k, ReleaseNotice serial) is right = absurd (cc is)

pub message_carried : (p : Fields) → IsPeer p → (f : Key × Entry) → Has p.mail.queue f → AreCarried (foreign p.me (carried f.1)) p.handles.records
message_carried p peer f h = carried_here p.me p.nodes.nodes p.store.slices p.mail.queue p.handles.records peer.ok f h

-- a queued message's buffers are there
pub message_set : (p : Fields) → IsPeer p → (f : Key × Entry) → Has p.mail.queue f → is_data f.1 ≡ true → 1 ≤ count_at p.dead.stacks (length (carried f.1))
message_set p peer f h is =
    let n = length (carried f.1) in
    let mine : carries (length (carried f.1)) f ≡ true = ap (λ b. b && (n == n)) is ∙ eq-eqb n n refl in
    let some = has_count (carries (length (carried f.1))) p.mail.queue f h mine in
    let room = peer.room.messages (length (carried f.1)) in
    omega (arith, some, room)

-- a queued message leaves with its slice and what it carries
pub message_gone : (p : Fields) → IsPeer p → (left : Queue) (f : Key × Entry) (mail : Mail) (store : Stored) (handles : Handles) (dead : DeadSeen) → Removes p.mail.queue left f → is_data f.1 ≡ true → mail.queue ≡ left → p.mail.spare ≤ mail.spare → store.slices ≡ given_back (offset_of f.1) p.store.slices → store.bytes ≡ p.store.bytes → IsStored store → handles ≡ record p.handles { records = unexpected (foreign p.me (carried f.1)) p.handles.records } → p.dead.room ≤ dead.room + 1 → p.dead.singles ≤ dead.singles → LosesOne (length (carried f.1)) p.dead.stacks dead.stacks → IsPeer (record p { mail = mail; store = store; handles = handles; dead = dead })
message_gone p peer left f mail store handles dead gone is queue_is spare_is slices_are same stored handles_are items_le singles_le sets_le =
    rw handles_are (record {
      ok = subst (λ q. AreOk p.me p.nodes.nodes store.slices q (unexpected (foreign p.me (carried f.1)) p.handles.records)) (sym queue_is) (message_left p.me p.nodes.nodes p.store.slices p.mail.queue p.handles.records peer.ok left f gone is store.slices (unexpected (foreign p.me (carried f.1)) p.handles.records) keeps less);
      room = subst (λ q. IsRoom q (length p.nodes.nodes) (unexpected (foreign p.me (carried f.1)) p.handles.records) mail.spare dead.room dead.singles (count_at dead.stacks)) (sym queue_is) (room_message_left p.mail.queue (length p.nodes.nodes) p.handles.records p.mail.spare p.dead.room p.dead.singles (count_at p.dead.stacks) peer.room left f (unexpected (foreign p.me (carried f.1)) p.handles.records) p.me (carried f.1) mail.spare dead.room dead.singles (count_at dead.stacks) gone is less spare_is items_le singles_le sets_le);
      contents = λ g h. subst (λ bytes. ContentOk bytes g) (sym same) (peer.contents g (gone.less g (subst (λ q. Has q g) queue_is h)));
      stored = stored;
      owner = peer.owner;
      among = peer.among;
      few = peer.few;
    })
  where
    less : LessFlight p.me (carried f.1) p.handles.records (unexpected (foreign p.me (carried f.1)) p.handles.records)
    less = less_unexpected p.me (carried f.1) p.handles.records peer.ok.rising peer.ok.needed

    keeps : KeepsOthers (offset_of f.1) p.store.slices store.slices
    keeps = let there = slice_is p.store.slices f is (peer.ok.sliced f gone.was) in subst (λ ss. KeepsOthers (offset_of f.1) p.store.slices ss) (sym slices_are) (others_given_back p.store.size (offset_of f.1) p.store.slices there.0 peer.stored.pool there.1)

pub unstage_kept : (p : Fields) → IsPeer p → (origin index : ℕ) (f : Key × Entry) (r : Option (Key × Entry)) (mail : Mail) (store : Stored) (handles : Handles) (dead : DeadSeen) → r ≡ Some f → r ≡ find (is_stage origin index) p.mail.queue → mail ≡ record p.mail { queue = without (is_stage origin index) p.mail.queue; spare = cond (is_some r) (p.mail.spare + 1) p.mail.spare } → store.slices ≡ given_back (offset_of f.1) p.store.slices → store.bytes ≡ p.store.bytes → IsStored store → handles ≡ record p.handles { records = unexpected (foreign p.me (carried f.1)) p.handles.records } → dead ≡ record p.dead { stacks = dead.stacks } → LosesOne (length (carried f.1)) p.dead.stacks dead.stacks → IsPeer (record p { mail = mail; store = store; handles = handles; dead = dead })
unstage_kept p peer origin index f r mail store handles dead some found mail_is slices_are same stored handles_are dead_is loses =
    message_gone p peer (without (is_stage origin index) p.mail.queue) f mail store handles dead
    (removes_found (is_stage origin index) p.mail.queue f (peer.ok.stages origin index) (sym found ∙ some))
    (stage_found p peer origin index f (sym found ∙ some)).1
    (ap (λ m. m.queue) mail_is)
    (subst (λ m. p.mail.spare ≤ m.spare) (sym mail_is) (spare_le (is_some r) p.mail.spare))
    slices_are same stored handles_are
    (let rooms : dead.room ≡ p.dead.room = ap (λ (d : DeadSeen). d.room) dead_is in omega (arith, rooms))
    (let ones : dead.singles ≡ p.dead.singles = ap (λ (d : DeadSeen). d.singles) dead_is in omega (arith, ones))
    loses

-- ---- commit

content_committed : (bytes : List ℕ) (k new : Key) (e : Entry) (slots : List Slot) → ContentOk bytes (k, e) → ContentOk bytes (new, with_slots slots e)
content_committed bytes k new (Message origin user index serial offset len carries old handles payload) slots is = is
content_committed bytes k new (OwnNotice serial index) slots is = is
content_committed bytes k new (ForeignNotice node index) slots is = is
content_committed bytes k new (ReleaseNotice serial) slots is = is

pub odd_of_even : (n : ℕ) → n % 2 ≡ 0 → is_odd n ≡ false
odd_of_even n even = rw even refl

pub commit_kept : (p : Fields) → IsPeer p → (origin index stamp : ℕ) (slots : List Slot) → stamp % 2 ≡ 0 → SlotsFit (part_of p) (find (is_stage origin index) p.mail.queue) slots → IsPeer (record p {
  mail = record p.mail { queue = committed_queue (find (is_stage origin index) p.mail.queue) origin index stamp slots p.mail.queue };
})
commit_kept p peer origin index stamp slots even fits = at (find (is_stage origin index) p.mail.queue) refl fits
  where
    at : (o : Option (Key × Entry)) → find (is_stage origin index) p.mail.queue ≡ o → SlotsFit (part_of p) o slots → IsPeer (record p { mail = record p.mail { queue = committed_queue o origin index stamp slots p.mail.queue } })
    at None is fit = peer
    at (Some f) is fit =
        let new : Key = record { stamp = stamp; origin = origin; index = index } in
        let gone : Removes p.mail.queue (without (is_stage origin index) p.mail.queue) f = removes_found (is_stage origin index) p.mail.queue f (peer.ok.stages origin index) is in
        record {
          ok = message_is_committed p.me p.nodes.nodes p.store.slices p.mail.queue p.handles.records peer.ok (without (is_stage origin index) p.mail.queue) f gone new slots (odd_of_even stamp even) fit;
          room = room_committed p.mail.queue (length p.nodes.nodes) p.handles.records p.mail.spare p.dead.room p.dead.singles (count_at p.dead.stacks) peer.room (without (is_stage origin index) p.mail.queue) f new slots gone;
          contents = all_put (ContentOk p.store.bytes) new (with_slots slots f.1) (without (is_stage origin index) p.mail.queue) (content_committed p.store.bytes f.0 new f.1 slots (peer.contents f gone.was)) (λ g h. peer.contents g (gone.less g h));
          stored = peer.stored;
          owner = peer.owner;
          among = peer.among;
          few = peer.few;
        }

-- a fact of what is seen is one of what it is made of
pub of_fields : (P : PeerSeen → Type 0) (p : Fields) (s : PeerSeen) → IsPeer p → seen_of p ≡ s → P s → P (seen_of p)
of_fields P p s peer is has = subst P (sym is) has

-- what the mailbox needs of a commit
pub committable : (p : Fields) → IsPeer p → (origin index stamp : ℕ) (slots : List Slot) → SlotsFit (part_of p) (find (is_stage origin index) p.mail.queue) slots → CommitsAnew (part_of p) (find (is_stage origin index) p.mail.queue) (record { stamp = stamp; origin = origin; index = index }) → IsCommittable (find (is_stage origin index) p.mail.queue) origin index stamp slots p.mail.queue
committable p peer origin index stamp slots fits new = at (find (is_stage origin index) p.mail.queue) fits new
  where
    at : (o : Option (Key × Entry)) → SlotsFit (part_of p) o slots → CommitsAnew (part_of p) o (record { stamp = stamp; origin = origin; index = index }) → IsCommittable o origin index stamp slots p.mail.queue
    at None fit anew = tt
    at (Some f) fit anew = (slots_as_many p.me (length p.nodes.nodes) (carried f.1) slots fit, anew)

-- ---- notices are committed

content_moved : (bytes : List ℕ) (stamp : ℕ) (f : Key × Entry) → ContentOk bytes f → ContentOk bytes (with_stamp stamp f)
content_moved bytes stamp (k, Message origin user index serial offset len carries old handles payload) is = is
content_moved bytes stamp (k, OwnNotice serial index) is = is
content_moved bytes stamp (k, ForeignNotice node index) is = is
content_moved bytes stamp (k, ReleaseNotice serial) is = is

pub notices_kept : (p : Fields) → IsPeer p → (origin stamp : ℕ) → IsPeer (record p { mail = record p.mail { queue = notices_queue origin stamp p.mail.queue } })
notices_kept p peer origin stamp = record {
  ok = notices_are_committed p.me p.nodes.nodes p.store.slices p.mail.queue p.handles.records peer.ok origin stamp;
  room = room_notices_committed p.mail.queue (length p.nodes.nodes) p.handles.records p.mail.spare p.dead.room p.dead.singles (count_at p.dead.stacks) peer.room origin stamp;
  contents = all_moved (ContentOk p.store.bytes) (is_staged_notice origin) (with_stamp stamp) p.mail.queue (λ f is was. content_moved p.store.bytes stamp f was) peer.contents;
  stored = peer.stored;
  owner = peer.owner;
  among = peer.among;
  few = peer.few;
}

-- ---- release

pub release_kept : {E : Type 0} (p : Fields) → IsPeer p → (r : Result NodeRef E) (handles : Handles) → IfOk r (λ node. handles ≡ record p.handles { records = changed node less_held p.handles.records }) → OnErr r (handles ≡ p.handles) → IsPeer (record p { handles = handles })
release_kept p peer (Err e) handles given same = subst (λ hs. IsPeer (record p { handles = hs })) (sym same) peer
release_kept p peer (Ok node) handles given same = subst (λ hs. IsPeer (record p { handles = hs })) (sym given) (record {
  ok = record {
    rising = rising_changed node less_held (λ h. refl) p.handles.records peer.ok.rising;
    needed = needed_changed node less_held p.handles.records peer.ok.needed;
    messages = peer.ok.messages;
    notices = peer.ok.notices;
    sliced = peer.ok.sliced;
    apart = peer.ok.apart;
    stages = peer.ok.stages;
    flight = λ other far. field_stays (λ h. h.flight) 0 unneeded_flight (λ m. refl) less_held (λ h. refl) (λ h. refl) node other p.handles.records peer.ok.rising ∙ peer.ok.flight other far;
    noticed = λ other. subst (λ b. count (is_notice_for other) p.mail.queue ≤ cond b 1 0) (sym (field_stays (λ h. h.notice) false unneeded_notice (λ m. refl) less_held (λ h. refl) (λ h. refl) node other p.handles.records peer.ok.rising)) (peer.ok.noticed other);
  };
  room = room_records p.mail.queue (length p.nodes.nodes) p.handles.records p.mail.spare p.dead.room p.dead.singles (count_at p.dead.stacks) peer.room (changed node less_held p.handles.records) (fewer_changed node less_held p.handles.records) (unnoticed_changed node less_held (λ h. refl) p.handles.records);
  contents = peer.contents;
  stored = peer.stored;
  owner = peer.owner;
  among = peer.among;
  few = peer.few;
})

-- ---- slices

-- slices change, and those of queued messages stay
pub slices_kept : (p : Fields) → IsPeer p → (store : Stored) → ((f : Key × Entry) → Has p.mail.queue f → SliceOk p.store.slices f → SliceOk store.slices f) → store.bytes ≡ p.store.bytes → IsStored store → IsPeer (record p { store = store })
slices_kept p peer store stays same stored = record {
  ok = record {
    rising = peer.ok.rising;
    needed = peer.ok.needed;
    messages = peer.ok.messages;
    notices = peer.ok.notices;
    sliced = λ f h. stays f h (peer.ok.sliced f h);
    apart = peer.ok.apart;
    stages = peer.ok.stages;
    flight = peer.ok.flight;
    noticed = peer.ok.noticed;
  };
  room = peer.room;
  contents = λ f h. subst (λ bytes. ContentOk bytes f) (sym same) (peer.contents f h);
  stored = stored;
  owner = peer.owner;
  among = peer.among;
  few = peer.few;
}

message_stays : (here : ℕ) (old new : List Slice) (t : Slice) (f : Key × Entry) → KeepsOthers here old new → slice_at here old ≡ Some t → is_published t ≡ true → SliceOk old f → SliceOk new f
message_stays here old new t (k, Message origin user index serial offset len carries slots handles payload) keeps found received is =
    keeps offset (queued_slice offset len (length carries)) is refl (λ same. absurd (cc (sym (published_one same) ∙ received)))
  where
    published_one : offset ≡ here → is_published t ≡ false
    published_one same = let e : queued_slice offset len (length carries) ≡ t = cc (sym is ∙ ap (λ o. slice_at o old) same ∙ found) in ap is_published (sym e)
message_stays here old new t (k, OwnNotice serial index) keeps found received is = is
message_stays here old new t (k, ForeignNotice node index) keeps found received is = is
message_stays here old new t (k, ReleaseNotice serial) keeps found received is = is

pub slice_release_kept : (p : Fields) → IsPeer p → (store : Stored) (offset : ℕ) → store.slices ≡ cond (is_received offset p.store.slices) (given_back offset p.store.slices) p.store.slices → store.bytes ≡ p.store.bytes → IsStored store → IsPeer (record p { store = store })
slice_release_kept p peer store offset is same stored = at (is_received offset p.store.slices) refl
  where
    found : (o : Option Slice) → slice_at offset p.store.slices ≡ o → (elim o [ None ↦ false | Some s ↦ is_published s ]) ≡ true → (t : Slice) × (slice_at offset p.store.slices ≡ Some t) × (is_published t ≡ true)
    found None there e = absurd (cc e)
    found (Some t) there e = (t, there, e)

    at : (b : Bool) → is_received offset p.store.slices ≡ b → IsPeer (record p { store = store })
    at false e = slices_kept p peer store (λ f h right. subst (λ ss. SliceOk ss f) (sym (is ∙ ap (λ b. cond b (given_back offset p.store.slices) p.store.slices) e)) right) same stored
    at true e =
        let there = found (slice_at offset p.store.slices) refl e in
        slices_kept p peer store
        (λ f h right. subst (λ ss. SliceOk ss f) (sym (is ∙ ap (λ b. cond b (given_back offset p.store.slices) p.store.slices) e))
        (message_stays offset p.store.slices (given_back offset p.store.slices) there.0 f (others_given_back p.store.size offset p.store.slices there.0 peer.stored.pool there.1) there.1 there.2 right))
        same stored

-- nothing is taken back where no stage is found
pub not_unstaged : (x : PeerPart) (bytes users : List ℕ) (origin index : ℕ) → find (is_stage origin index) x.queue ≡ None → ◌≡◌ {A = PeerSeen} (record { part = x; bytes = bytes; users = users }) (record { part = unstaged x origin index; bytes = bytes; users = users })
not_unstaged x bytes users origin index none = ap {A = Option (Key × Entry)} {B = PeerSeen} (λ o. record { part = unstaged_by o x origin index; bytes = bytes; users = users }) (sym none)
