-- A peer stays what it is where a message is staged, and what a stage answers.
use Rattle.std.proofs.Common.{◌≡◌, refl, sym, ap, ◌∙◌, subst, ℕ, ◌+◌, ◌-◌, ◌≤◌, ◌<◌, ◌%◌, Bool, true, false, cond, not, List, [], ◌∷◌, find, map, length, Option, Some, None, Ok, Err, ◌==◌, nat_le}
use Rattle.std.specs.List.{list_any}
use Rattle.std.specs.Bool.{then_some}
use Rattle.std.proofs.lemmas.Bool.{eq-eqb}
use native.Mathlib.Omega.{arith}
use Rattle.b1_model.specs.declared.limits.TheConstants.{MOST_HANDLES, MOST_PAYLOAD}
use Rattle.b1_model.specs.declared.naming.Key.{Key}
use Rattle.b1_model.specs.declared.naming.NodeRef.{NodeRef}
use Rattle.b1_model.specs.declared.parts.Slot.{Slot}
use Rattle.b1_model.specs.declared.parts.Slot.TheVariants.{Unattached}
use Rattle.b1_model.specs.declared.tables.Usage.{Usage}
use Rattle.b1_model.specs.declared.tables.Usage.TheVariants.{Free, Unpublished, Published}
use Rattle.b1_model.specs.declared.entries.Entry.{Entry}
use Rattle.b1_model.specs.declared.entries.Entry.TheVariants.{Message, OwnNotice, ForeignNotice, ReleaseNotice}
use Rattle.b1_model.specs.declared.answers.Reason.{Reason}
use Rattle.b1_model.specs.declared.answers.Reason.TheVariants as reason
use Rattle.b1_model.specs.declared.answers.Quantity.TheVariants.{Entries, Bytes, Handles as HandleQuantity}
use Rattle.b1_model.specs.MachineParts.{PeerPart, HandleRecord, Slice, is_odd, is_live, node_at, clock_limit}
use Rattle.b1_model.specs.MachinePool.{slice_at, slice_len, is_published, taken, taken_offset}
use Rattle.b1_model.specs.MachineTables.{put, is_stage, expected, foreign, over_quota}
use Rattle.b1_model.specs.MachineSend.{first_reason, stage_refusal, staged}
use Rattle.b1_model.specs.MachineEvents.{stage_by}
use Rattle.b1_handles.specs.Handles.{Handles}
use Rattle.b1_peer_queue.specs.Mail.{Mail, IsSound}
use Rattle.b1_peer_pool.specs.Content.{Holds, padded, padded_len, SameElsewhere}
use Rattle.b1_peer_pool.specs.Slices.{is_used}
use Rattle.b1_peer_pool.specs.Stored.{Stored, IsStored, full_reason}
use Rattle.b1_peer_pool.proofs.Found.{used_at-slice}
use Rattle.b1_peer_pool.proofs.Fits.{full_reason-none, padded_len-within}
use Rattle.b1_peer_pool.proofs.Holding.{length-padded, Holds-elsewhere}
use Rattle.b1_peer_dead.specs.Dead.{DeadSeen}
use Rattle.b1_peer_dead.specs.Buffers.{StackSeen, count_at, GainsOne}
use Rattle.b1_inv_peer.specs.PeerOk.{is_message, begins_at, AreOk, IsRoom, MessageOk, SliceOk}
use Rattle.b1_inv_peer.specs.Changes.{Takes}
use Rattle.b1_inv_peer.proofs.Entries.{all_put, slice_not_free}
use Rattle.b1_inv_peer.proofs.QueueEvents.{message_staged}
use Rattle.b1_inv_peer.proofs.Rooms.{places_most, unnoticed_most, count_most, room_staged}
use Rattle.b1_peer.specs.Seen.{PeerSeen, KeepsReceived}
use Rattle.b1_peer.specs.State.{Fields, IsPeer, ContentOk, part_of, seen_of}
use Rattle.b1_peer.specs.Rooms.{MoreRoom, Enough}
use Rattle.b1_peer.specs.Answers.{Stages}
use Rattle.b1_peer.proofs.Bridges.{queued_slice, slices_taken}

abbrev Queue : Type 0
Queue = List (Key × Entry)

-- ---- more room

room_grows : (queue : Queue) (made : ℕ) (handles : List HandleRecord) (spare items singles more_spare more_items more_singles : ℕ) (sets more_sets : ℕ → ℕ) → spare ≤ more_spare → items ≤ more_items → singles ≤ more_singles → ((m : ℕ) → sets m ≤ more_sets m) → IsRoom queue made handles spare items singles sets → IsRoom queue made handles more_spare more_items more_singles more_sets
room_grows queue made handles spare items singles more_spare more_items more_singles sets more_sets one two three four room = record {
  notices = (let old = room.notices in omega (arith, old, one));
  dead = (let old = room.dead in omega (arith, old, two));
  records = (let old = room.records in omega (arith, old, three));
  messages = λ m. (let old = room.messages m in let le = four m in omega (arith, old, le));
}

pub more_kept : (p : Fields) → IsPeer p → (mail : Mail) (store : Stored) (dead : DeadSeen) → MoreRoom p.mail mail p.store store p.dead dead → IsPeer (record p { mail = mail; store = store; dead = dead })
more_kept p peer mail store dead more =
    rw more.mail_same (record {
      ok = subst (λ ss. AreOk p.me p.nodes.nodes ss p.mail.queue p.handles.records) (sym more.slices) peer.ok;
      room = room_grows p.mail.queue (length p.nodes.nodes) p.handles.records p.mail.spare p.dead.room p.dead.singles mail.spare dead.room dead.singles (count_at p.dead.stacks) (count_at dead.stacks) more.mail_more more.dead_more more.singles_more more.sets_more peer.room;
      contents = λ f h. subst (λ bytes. ContentOk bytes f) (sym more.bytes) (peer.contents f h);
      stored = more.stored;
      owner = peer.owner;
      among = peer.among;
      few = peer.few;
    })

-- ---- a message is staged

-- the slice of a queued message is elsewhere, so it keeps what it holds
pub content_elsewhere : (here me made : ℕ) (slices : List Slice) (old new : List ℕ) (f : Key × Entry) → SameElsewhere here slices old new → MessageOk me made f → SliceOk slices f → begins_at here f ≡ false → ContentOk old f → ContentOk new f
content_elsewhere here me made slices old new (k, Message origin user index serial offset len carries slots handles payload) same message right differs has =
    Holds-elsewhere here offset slices (queued_slice offset len (length carries)) old new (padded payload) same
    (used_at-slice offset slices (queued_slice offset len (length carries)) right refl)
    (λ e. absurd (cc (sym differs ∙ eq-eqb offset here (sym e))))
    (let fits = padded_len-within len (length carries) in let long = length-padded payload in let as_long : padded_len len ≡ padded_len (length payload) = ap padded_len message.as_long in omega (arith, fits, long, as_long))
    has
content_elsewhere here me made slices old new (k, OwnNotice serial index) same message right differs has = tt
content_elsewhere here me made slices old new (k, ForeignNotice node index) same message right differs has = tt
content_elsewhere here me made slices old new (k, ReleaseNotice serial) same message right differs has = tt

foreign_most : (me : ℕ) (nodes : List NodeRef) → length (foreign me nodes) ≤ length nodes
foreign_most me [] = omega arith
foreign_most me (n ∷ rest) = at (foreign_most me rest) (not (n.owner == me))
  where
    at : length (foreign me rest) ≤ length rest → (b : Bool) → length (cond b (n ∷ foreign me rest) (foreign me rest)) ≤ length (n ∷ rest)
    at further true = omega (arith, further)
    at further false = omega (arith, further)

abbrev pub stage_key : Fields → ℕ → ℕ → Key
stage_key p origin index = record { stamp = p.clock + 1; origin = origin; index = index }

abbrev pub stage_entry : ℕ → ℕ → ℕ → ℕ → ℕ → List ℕ → List NodeRef → Entry
stage_entry origin user index serial offset payload carries = Message origin user index serial offset (length payload) carries (map (λ node. Unattached) carries) [] payload

pub odd_behind : (clock : ℕ) → clock % 2 ≡ 0 → is_odd (clock + 1) ≡ true
odd_behind clock even = let one : (clock + 1) % 2 ≡ 1 = omega (arith, even) in rw one refl

pub stage_kept : (p : Fields) → IsPeer p → (origin user index serial : ℕ) (payload : List ℕ) (carries : List NodeRef) (store : Stored) (offset : ℕ) (stacks : List StackSeen) →
    p.clock % 2 ≡ 0 → serial < length p.nodes.nodes → length payload ≤ MOST_PAYLOAD → length carries ≤ MOST_HANDLES → find (is_stage origin index) p.mail.queue ≡ None →
    Enough (length p.nodes.nodes) (length p.handles.records) (length carries) (length p.mail.queue) p.mail p.store p.dead → GainsOne (length carries) p.dead.stacks stacks →
    full_reason p.store.slices (length payload) (length carries) ≡ None →
    offset ≡ taken_offset (slice_len (length payload) (length carries)) p.store.slices → store.slices ≡ taken (slice_len (length payload) (length carries)) p.store.slices →
    Holds offset store.bytes (padded payload) → SameElsewhere offset p.store.slices p.store.bytes store.bytes → IsStored store →
    IsPeer (record p {
      mail = record p.mail { queue = put (stage_key p origin index) (stage_entry origin user index serial offset payload carries) p.mail.queue; spare = p.mail.spare - 1 };
      store = store;
      handles = record p.handles { records = expected (foreign p.me carries) p.handles.records };
      dead = record p.dead { stacks = stacks };
    })
stage_kept p peer origin user index serial payload carries store offset stacks even made short few unstaged enough gains fits offset_is slices_are holds same stored = record {
  ok = message_staged p.me p.nodes.nodes p.store.slices p.mail.queue p.handles.records peer.ok (stage_key p origin index) origin user index serial offset payload carries store.slices (odd_behind p.clock even) made short few unstaged takes;
  room = room_staged p.mail.queue (length p.nodes.nodes) p.handles.records p.mail.spare p.dead.room p.dead.singles (count_at stacks)
      (room_grows p.mail.queue (length p.nodes.nodes) p.handles.records p.mail.spare p.dead.room p.dead.singles p.mail.spare p.dead.room p.dead.singles (count_at p.dead.stacks) (count_at stacks) (omega arith) (omega arith) (omega arith) (λ m. (let gain = gains m in omega (arith, gain))) peer.room)
      (stage_key p origin index) (stage_entry origin user index serial offset payload carries) (foreign p.me carries) refl
      (let a = places_most p.mail.queue (length p.nodes.nodes) in let b = unnoticed_most p.handles.records in let c = foreign_most p.me carries in let d = enough.notices in omega (arith, a, b, c, d))
      (let a = count_most is_message p.mail.queue in let c = foreign_most p.me carries in let d = enough.items in omega (arith, a, c, d))
      (let c = foreign_most p.me carries in let d = enough.singles in omega (arith, c, d))
      (λ m. (let old = peer.room.messages m in let gain = gains m in omega (arith, old, gain)));
  contents = all_put (ContentOk store.bytes) (stage_key p origin index) (stage_entry origin user index serial offset payload carries) p.mail.queue holds
      (λ f h. content_elsewhere offset p.me (length p.nodes.nodes) p.store.slices p.store.bytes store.bytes f same (peer.ok.messages f h) (peer.ok.sliced f h) (slice_not_free offset (slice_len (length payload) (length carries)) p.store.slices store.slices f takes (peer.ok.sliced f h)) (peer.contents f h));
  stored = stored;
  owner = peer.owner;
  among = peer.among;
  few = peer.few;
}
  where
    takes : Takes offset (slice_len (length payload) (length carries)) p.store.slices store.slices
    takes = subst (λ o. Takes o (slice_len (length payload) (length carries)) p.store.slices store.slices) (sym offset_is) (subst (λ ss. Takes (taken_offset (slice_len (length payload) (length carries)) p.store.slices) (slice_len (length payload) (length carries)) p.store.slices ss) (sym slices_are) (slices_taken p.store.size (length payload) (length carries) p.store.slices peer.stored.pool (full_reason-none p.store.slices (length payload) (length carries) fits)))

-- ---- received slices keep their bytes

pub received_elsewhere : (x y : PeerSeen) (here : ℕ) → SameElsewhere here x.part.slices x.bytes y.bytes → ((s : Slice) → slice_at here x.part.slices ≡ Some s → is_published s ≡ true → ⊥) → KeepsReceived x y
received_elsewhere x y here same none s found received =
    same s.offset s (used_at-slice s.offset x.part.slices s found (used_published s received)) (λ e. none s (ap (λ o. slice_at o x.part.slices) e ∙ found) received)
  where
    used_published : (t : Slice) → is_published t ≡ true → is_used t ≡ true
    used_published t is = by_usage t.usage is
      where
        by_usage : (u : Usage) → (elim u [ Free ↦ false | Unpublished ↦ false | Published ↦ true ]) ≡ true → not (elim u [ Free ↦ true | Unpublished ↦ false | Published ↦ false ]) ≡ true
        by_usage Free e = absurd (cc e)
        by_usage Unpublished e = absurd (cc e)
        by_usage Published e = refl

-- of a store whose room grew
pub received_by : (p : Fields) → IsPeer p → (s : PeerSeen) (store : Stored) (bytes users : List ℕ) (here : ℕ) → seen_of p ≡ s → store.slices ≡ p.store.slices → store.bytes ≡ p.store.bytes → SameElsewhere here store.slices store.bytes bytes → ((t : Slice) → slice_at here p.store.slices ≡ Some t → is_published t ≡ true → ⊥) → KeepsReceived s (record { part = s.part; bytes = bytes; users = users })
received_by p peer s store bytes users here is slices_are bytes_are same none =
    subst (λ (x : PeerSeen). KeepsReceived x (record { part = x.part; bytes = bytes; users = users })) is
    (received_elsewhere (seen_of p) (record { part = part_of p; bytes = bytes; users = users }) here (subst (λ ss. SameElsewhere here ss p.store.bytes bytes) slices_are (subst (λ bs. SameElsewhere here store.slices bs bytes) bytes_are same)) none)

-- a slice that was free isn't a received one
pub was_free_none : (here len : ℕ) (old new : List Slice) → Takes here len old new → (t : Slice) → slice_at here old ≡ Some t → is_published t ≡ true → ⊥
was_free_none here len old new takes t found received = by_usage t.usage (takes.was_free t found) received
  where
    by_usage : (u : Usage) → (elim u [ Free ↦ true | Unpublished ↦ false | Published ↦ false ]) ≡ true → (elim u [ Free ↦ false | Unpublished ↦ false | Published ↦ true ]) ≡ true → ⊥
    by_usage Free e k = absurd (cc k)
    by_usage Unpublished e k = absurd (cc k)
    by_usage Published e k = absurd (cc e)

-- ---- refusals

last_none : (a b c d e f : Option Reason) → first_reason (a ∷ b ∷ c ∷ d ∷ e ∷ f ∷ []) ≡ None → f ≡ None
last_none None None None None None f is = last f is
  where
    last : (o : Option Reason) → first_reason (o ∷ []) ≡ None → o ≡ None
    last None e = refl
    last (Some r) e = absurd (cc e)
last_none (Some r) b c d e f is = absurd (cc is)
last_none None (Some r) c d e f is = absurd (cc is)
last_none None None (Some r) d e f is = absurd (cc is)
last_none None None None (Some r) e f is = absurd (cc is)
last_none None None None None (Some r) f is = absurd (cc is)

-- an accepted stage finds a slice
pub stage_fits : (x : PeerPart) (user serial payload handles : ℕ) → stage_refusal x user serial payload handles ≡ None → full_reason x.slices payload handles ≡ None
stage_fits x user serial payload handles is =
    last_none (then_some (not (is_live (node_at x serial).state)) (reason.Gone x.me serial)) (then_some (nat_le clock_limit x.clock) (reason.Overflow x.clock)) (over_quota x user payload handles Entries) (over_quota x user payload handles Bytes) (over_quota x user payload handles HandleQuantity) (full_reason x.slices payload handles) is

-- ---- answers

pub stages_refused : (x : PeerPart) (origin user index serial : ℕ) (payload : List ℕ) (nodes : List NodeRef) (r : Reason) → stage_refusal x user serial (length payload) (length nodes) ≡ Some r → Stages x origin user index serial payload nodes (Err r) x
stages_refused x origin user index serial payload nodes r is = record { memory = false; event = ap (λ o. stage_by o false origin user index serial payload nodes x) is }

pub stages_memory : (x : PeerPart) (origin user index serial : ℕ) (payload : List ℕ) (nodes : List NodeRef) → stage_refusal x user serial (length payload) (length nodes) ≡ None → Stages x origin user index serial payload nodes (Err reason.Memory) x
stages_memory x origin user index serial payload nodes is = record { memory = true; event = ap (λ o. stage_by o true origin user index serial payload nodes x) is }

pub stages_done : (x : PeerPart) (origin user index serial : ℕ) (payload : List ℕ) (nodes : List NodeRef) → stage_refusal x user serial (length payload) (length nodes) ≡ None → Stages x origin user index serial payload nodes (Ok x.clock) (staged x origin user index serial payload nodes)
stages_done x origin user index serial payload nodes is = record { memory = false; event = ap (λ o. stage_by o false origin user index serial payload nodes x) is }

-- ---- as a stage finds it

-- what a stage needs of what is seen
pub record StageNeeds (s : PeerSeen) (origin user index serial : ℕ) (payload : List ℕ) (carries : List NodeRef) : Type 0 where
  pub even : s.part.clock % 2 ≡ 0
  pub made : serial < length s.part.nodes
  pub user_is : list_any (λ u. u == user) s.users ≡ true
  pub short : length payload ≤ MOST_PAYLOAD
  pub few : length carries ≤ MOST_HANDLES
  pub unstaged : find (is_stage origin index) s.part.queue ≡ None
  pub accepted : stage_refusal s.part user serial (length payload) (length carries) ≡ None

-- the message is what the draft has
pub entry_is : (e : Entry) (origin user index serial offset len : ℕ) (carries new_carries : List NodeRef) (slots : List Slot) (handles payload new_payload : List ℕ) → e ≡ Message origin user index serial offset len carries slots handles payload → len ≡ length new_payload → carries ≡ new_carries → slots ≡ map (λ node. Unattached) new_carries → handles ≡ [] → payload ≡ new_payload → e ≡ stage_entry origin user index serial offset new_payload new_carries
entry_is e origin user index serial offset len carries new_carries slots handles payload new_payload is a b c d f = is ∙ (λ i. Message origin user index serial offset (a i) (b i) (c i) (d i) (f i))

-- a message that was drafted is sound
pub draft_sound : (users : List ℕ) (k : Key) (e : Entry) (origin user index serial offset : ℕ) (payload : List ℕ) (carries : List NodeRef) → e ≡ stage_entry origin user index serial offset payload carries → k.origin ≡ origin → k.index ≡ index → list_any (λ u. u == user) users ≡ true → length payload ≤ MOST_PAYLOAD → length carries ≤ MOST_HANDLES → IsSound users (k, e)
draft_sound users k e origin user index serial offset payload carries is o i known short few =
    rw is (record { origin_is = o; index_is = i; user_known = known; len_is = refl; short = short; slots_are = as_many carries; few = few })
  where
    as_many : (ns : List NodeRef) → length (map {B = Slot} (λ node. Unattached) ns) ≡ length ns
    as_many [] = refl
    as_many (n ∷ rest) = let further = as_many rest in omega (arith, further)

pub stage_done : (p : Fields) → IsPeer p → (s : PeerSeen) → seen_of p ≡ s → (origin user index serial : ℕ) (payload : List ℕ) (carries : List NodeRef) → StageNeeds s origin user index serial payload carries →
    (mail new_mail : Mail) (store new_store : Stored) (dead new_dead : DeadSeen) → MoreRoom p.mail mail p.store store p.dead dead →
    Enough (length p.nodes.nodes) (length p.handles.records) (length carries) (length p.mail.queue) mail store dead → new_dead ≡ record dead { stacks = new_dead.stacks } → GainsOne (length carries) dead.stacks new_dead.stacks →
    (offset : ℕ) (entry : Entry) (handles : Handles) → entry ≡ stage_entry origin user index serial offset payload carries →
    new_mail ≡ record mail { queue = put (stage_key p origin index) entry mail.queue; spare = mail.spare - 1 } →
    handles ≡ record p.handles { records = expected (foreign p.me carries) p.handles.records } →
    offset ≡ taken_offset (slice_len (length payload) (length carries)) store.slices → new_store.slices ≡ taken (slice_len (length payload) (length carries)) store.slices →
    Holds offset new_store.bytes (padded payload) → SameElsewhere offset store.slices store.bytes new_store.bytes → IsStored new_store →
    IsPeer (record p { mail = new_mail; store = new_store; handles = handles; dead = new_dead })
stage_done p peer s is origin user index serial payload carries needs mail new_mail store new_store dead new_dead more enough dead_is gains offset entry handles entry_are mail_is handles_are offset_is slices_are holds same stored =
    rw (mail_is, entry_are, handles_are)
    (subst (λ (d : DeadSeen). IsPeer (record p { mail = record mail { queue = put (stage_key p origin index) (stage_entry origin user index serial offset payload carries) mail.queue; spare = mail.spare - 1 }; store = new_store; handles = record p.handles { records = expected (foreign p.me carries) p.handles.records }; dead = d })) (sym dead_is)
    (stage_kept (record p { mail = mail; store = store; dead = dead }) (more_kept p peer mail store dead more) origin user index serial payload carries new_store offset new_dead.stacks
    mine.even mine.made mine.short mine.few
    (subst (λ m. find (is_stage origin index) m.queue ≡ None) (sym more.mail_same) mine.unstaged)
    (subst (λ m. Enough (length p.nodes.nodes) (length p.handles.records) (length carries) (length m.queue) mail store dead) (sym more.mail_same) enough)
    gains
    (subst (λ ss. full_reason ss (length payload) (length carries) ≡ None) (sym more.slices) (stage_fits (part_of p) user serial (length payload) (length carries) mine.accepted))
    offset_is slices_are holds same stored))
  where
    mine : StageNeeds (seen_of p) origin user index serial payload carries
    mine = subst (λ x. StageNeeds x origin user index serial payload carries) (sym is) needs

-- the slices that were free before hold nothing that was received
pub none_received : (p : Fields) → IsPeer p → (s : PeerSeen) → seen_of p ≡ s → (origin user index serial : ℕ) (payload : List ℕ) (carries : List NodeRef) → StageNeeds s origin user index serial payload carries → (store : Stored) (offset : ℕ) → store.slices ≡ p.store.slices → offset ≡ taken_offset (slice_len (length payload) (length carries)) store.slices → (t : Slice) → slice_at offset p.store.slices ≡ Some t → is_published t ≡ true → ⊥
none_received p peer s is origin user index serial payload carries needs store offset same offset_is t found received =
    was_free_none (taken_offset (slice_len (length payload) (length carries)) p.store.slices) (slice_len (length payload) (length carries)) p.store.slices (taken (slice_len (length payload) (length carries)) p.store.slices)
    (slices_taken p.store.size (length payload) (length carries) p.store.slices peer.stored.pool (full_reason-none p.store.slices (length payload) (length carries) (stage_fits (part_of p) user serial (length payload) (length carries) mine.accepted)))
    t (subst (λ o. slice_at o p.store.slices ≡ Some t) (offset_is ∙ ap (taken_offset (slice_len (length payload) (length carries))) same) found) received
  where
    mine : StageNeeds (seen_of p) origin user index serial payload carries
    mine = subst (λ x. StageNeeds x origin user index serial payload carries) (sym is) needs
