-- A message arrives: what the calls need, that the peer stays what it is, and what RECV answers.
use Rattle.std.proofs.Common.{◌≡◌, refl, sym, ap, ◌∙◌, subst, ℕ, ◌+◌, ◌*◌, ◌≤◌, ◌<◌, Bool, true, false, cond, List, [], ◌∷◌, ◌++◌, drop, length, zip, fold, All, is_some, Option, Some, None, unwrap_or}
use Rattle.std.specs.Prelude.{slice_get}
use native.Mathlib.Omega.{arith}
use Rattle.b1_model.specs.declared.limits.TheConstants.{MOST_HANDLES, MOST_PAYLOAD}
use Rattle.b1_model.specs.declared.naming.Key.{Key}
use Rattle.b1_model.specs.declared.naming.NodeRef.{NodeRef}
use Rattle.b1_model.specs.declared.parts.Slot.{Slot}
use Rattle.b1_model.specs.declared.parts.Slot.TheVariants as slot
use Rattle.b1_model.specs.declared.tables.Usage.{Usage}
use Rattle.b1_model.specs.declared.tables.Usage.TheVariants.{Free, Unpublished, Published}
use Rattle.b1_model.specs.declared.entries.Entry.{Entry}
use Rattle.b1_model.specs.declared.entries.Entry.TheVariants.{Message}
use Rattle.b1_model.specs.declared.answers.Receipt.TheVariants as receipt
use Rattle.b1_model.specs.Names.{invalid}
use Rattle.b1_model.specs.MachineStep.{no_peer}
use Rattle.b1_model.specs.MachineParts.{PeerPart, NodePart, HandleRecord, Slice, is_staged, node_at, carried, record_or_none}
use Rattle.b1_model.specs.MachinePool.{slice_at, published, is_published}
use Rattle.b1_model.specs.MachineTables.{foreign, is_needed, next_number}
use Rattle.b1_model.specs.MachineSend.{offset_of}
use Rattle.b1_model.specs.MachineReceive.{Arriving, slot_arrives, slots_arrived, reference_by, with_item}
use Rattle.b1_step.specs.Rights.{Has}
use Rattle.b1_step.specs.Ordered.{Rising}
use Rattle.b1_handles.specs.Handles.{Handles}
use Rattle.b1_peer_queue.specs.Mail.{Mail}
use Rattle.b1_pool.specs.Bytes.{written}
use Rattle.b1_peer_pool.specs.Content.{Holds, padded, padded_len, number_bytes, message_bytes, SameElsewhere}
use Rattle.b1_peer_pool.proofs.Holding.{Holds-message}
use Rattle.b1_peer_pool.proofs.Filling.{ends_within}
use Rattle.b1_peer_pool.specs.Slices.{is_queued, is_unpublished, len_at}
use Rattle.b1_peer_pool.specs.Stored.{Stored, IsStored}
use Rattle.b1_peer_pool.proofs.Fits.{padded_len-within}
use Rattle.b1_peer_dead.specs.Dead.{DeadSeen}
use Rattle.b1_peer_carried.specs.Carry.{AreCarried, HasTables, arriving, may_arrive}
use Rattle.b1_peer_dead.specs.Buffers.{LosesOne, count_at}
use Rattle.b1_inv_peer.specs.Needs.{AreSlots}
use Rattle.b1_inv_peer.specs.PeerOk.{is_message, begins_at, AreOk, IsRoom}
use Rattle.b1_inv_peer.specs.Changes.{LessFlight, KeepsOthers}
use Rattle.b1_inv_peer.proofs.Counts.{has_count}
use Rattle.b1_inv_peer.proofs.Flights.{slots_arrive}
use Rattle.b1_inv_peer.proofs.QueueEvents.{message_left, left_apart}
use Rattle.b1_inv_peer.proofs.Rooms.{room_message_left}
use Rattle.b1_peer.specs.Seen.{PeerSeen}
use Rattle.b1_peer.specs.State.{Fields, IsPeer, part_of, seen_of}
use Rattle.b1_peer.specs.Arrivals.{HasArrived}
use Rattle.b1_peer.specs.declared.front.Kind.TheVariants as kind
use Rattle.b1_peer.specs.Fronts.{kind_of}
use Rattle.b1_peer.proofs.Bridges.{queued_slice, message_queued, message_len, others_published, slots_may, carried_here}
use Rattle.b1_peer.proofs.KeptStage.{content_elsewhere}
use Rattle.b1_peer.proofs.KeptSends.{message_set}
use Rattle.b1_peer.proofs.KeptRecv.{FrontMessage, front_message}

abbrev Queue : Type 0
Queue = List (Key × Entry)

-- ---- one number for each slot

longer : (xs : List ℕ) (y : ℕ) → length (xs ++ y ∷ []) ≡ length xs + 1
longer [] y = refl
longer (x ∷ xs) y = let further = longer xs y in omega (arith, further)

reference_one : (dead : Bool) (a : Arriving) (node : NodeRef) → length (reference_by dead a node).numbers ≡ length a.numbers + 1
reference_one true a node = longer a.numbers invalid
reference_one false a node = longer a.numbers (unwrap_or (record_or_none node a.part.handles).number (next_number a.part.given))

numbers_one : (a : Arriving) (node : NodeRef) (s : Slot) → length (slot_arrives a (node, s)).numbers ≡ length a.numbers + 1
numbers_one a node slot.Unattached = longer a.numbers invalid
numbers_one a node slot.Void = longer a.numbers invalid
numbers_one a node slot.Own = longer a.numbers (cond (node_at a.part node.serial).taken invalid (node_at a.part node.serial).number)
numbers_one a node slot.Attached = reference_one (record_or_none node a.part.handles).dead a node

numbers_most : (nodes : List NodeRef) (slots : List Slot) (a : Arriving) → length (fold slot_arrives a (zip nodes slots)).numbers ≤ length a.numbers + length nodes
numbers_most [] slots a = omega arith
numbers_most (node ∷ nodes) [] a = omega arith
numbers_most (node ∷ nodes) (s ∷ slots) a = let further = numbers_most nodes slots (slot_arrives a (node, s)) in let head = numbers_one a node s in omega (arith, further, head)

pub numbers_few : (x : PeerPart) (nodes : List NodeRef) (slots : List Slot) → length (slots_arrived x nodes slots).numbers ≤ length nodes
numbers_few x nodes slots = let most = numbers_most nodes slots (record { part = x; numbers = []; refs = [] }) in omega (arith, most)

-- ---- what has arrived

-- some part with these tables
some_part : ℕ → List NodePart → Handles → PeerPart
some_part me own table = record no_peer { me = me; nodes = own; handles = table.records; given = table.given }

has_tables : (me : ℕ) (own : List NodePart) (table : Handles) → HasTables me own table (record no_peer { me = me; nodes = own; handles = table.records; given = table.given })
has_tables me own table = record { me = refl; nodes = refl; records = refl; given = refl }

pub numbers_fit : (me : ℕ) (own : List NodePart) (table new : Handles) (nodes : List NodeRef) (slots : List Slot) (numbers : List ℕ) (refs : List (NodeRef × ℕ)) → ((x : PeerPart) → HasTables me own table x → slots_arrived x nodes slots ≡ arriving x new numbers refs) → length numbers ≤ length nodes
numbers_fit me own table new nodes slots numbers refs arrived =
    let x : PeerPart = record no_peer { me = me; nodes = own; handles = table.records; given = table.given } in
    let same = ap (λ (a : Arriving). length a.numbers) (arrived x (has_tables me own table)) in
    let few = numbers_few x nodes slots in
    omega (arith, same, few)

pub has_arrived : (me : ℕ) (own : List NodePart) (table new : Handles) (nodes : List NodeRef) (slots : List Slot) (numbers : List ℕ) (refs : List (NodeRef × ℕ)) (key : Key) (number offset : ℕ) (payload handles : List ℕ) (old_dead new_dead : List (List (NodeRef × ℕ))) → ((x : PeerPart) → HasTables me own table x → slots_arrived x nodes slots ≡ arriving x new numbers refs) → handles ≡ numbers → new_dead ≡ with_item refs old_dead → (x : PeerPart) → HasTables me own table x → HasArrived x key number offset nodes slots payload (receipt.Message key number offset handles payload) new old_dead new_dead
has_arrived me own table new nodes slots numbers refs key number offset payload handles old_dead new_dead arrived handles_are dead_is x has = record {
  receipt_is = ap (λ (ns : List ℕ). receipt.Message key number offset ns payload) (handles_are ∙ sym (ap (λ (a : Arriving). a.numbers) (arrived x has)));
  part_is = ap (λ (a : Arriving). a.part) (arrived x has);
  dead_is = dead_is ∙ ap (λ (rs : List (NodeRef × ℕ)). with_item rs old_dead) (sym (ap (λ (a : Arriving). a.refs) (arrived x has)));
}

pub delivered : (store : Stored) (offset at : ℕ) (payload numbers handles new : List ℕ) → IsStored store → is_queued offset store.slices ≡ true → at ≡ padded_len (length payload) → at + 8 * length numbers ≤ len_at offset store.slices → new ≡ written (offset + at) (number_bytes numbers) store.bytes → Holds offset store.bytes (padded payload) → handles ≡ numbers → Holds offset new (message_bytes payload handles)
delivered store offset at payload numbers handles new stored queued at_is within written_is holds handles_are =
    subst (λ (ns : List ℕ). Holds offset new (message_bytes payload ns)) (sym handles_are)
    (Holds-message offset at payload numbers store.bytes new at_is written_is
    (let end = ends_within store.size offset store.slices stored.pool queued in let long = stored.as_long in omega (arith, end, long, within)) holds)

-- ---- what a message at the front needs

queued_found : (offset : ℕ) (slices : List Slice) → is_queued offset slices ≡ true → (s : Slice) × (slice_at offset slices ≡ Some s)
queued_found offset slices is = at (slice_at offset slices) refl is
  where
    at : (o : Option Slice) → slice_at offset slices ≡ o → (elim o [ None ↦ false | Some s ↦ is_unpublished s ]) ≡ true → (s : Slice) × (slice_at offset slices ≡ Some s)
    at None there e = absurd (cc e)
    at (Some s) there e = (s, there)

-- what stands behind a queued message that is committed
pub record Arrivable (p : Fields) (serial offset : ℕ) (nodes : List NodeRef) (slots : List Slot) (payload : List ℕ) : Type 0 where
  pub made : serial < length p.nodes.nodes
  pub queued : is_queued offset p.store.slices ≡ true
  pub within : padded_len (length payload) + 8 * length nodes ≤ len_at offset p.store.slices
  pub short : length payload ≤ MOST_PAYLOAD
  pub few : length nodes ≤ MOST_HANDLES
  pub room : 1 ≤ p.dead.room
  pub set : 1 ≤ count_at p.dead.stacks (length nodes)
  pub may : All (λ o. may_arrive p.me (length p.nodes.nodes) o ≡ true) (zip nodes slots)
  pub carried : AreCarried (foreign p.me nodes) p.handles.records
  pub holds : Holds offset p.store.bytes (padded payload)
  pub are : AreSlots p.me (length p.nodes.nodes) nodes slots

pub arrivable : (p : Fields) → IsPeer p → (k : Key) (origin user index serial offset len : ℕ) (nodes : List NodeRef) (slots : List Slot) (handles payload : List ℕ) → Has p.mail.queue (k, Message origin user index serial offset len nodes slots handles payload) → is_staged (k, Message origin user index serial offset len nodes slots handles payload) ≡ false → Arrivable p serial offset nodes slots payload
arrivable p peer k origin user index serial offset len nodes slots handles payload has even =
    let f : Key × Entry = (k, Message origin user index serial offset len nodes slots handles payload) in
    let message = peer.ok.messages (k, Message origin user index serial offset len nodes slots handles payload) has in
    let sliced : slice_at offset p.store.slices ≡ Some (queued_slice offset len (length nodes)) = peer.ok.sliced (k, Message origin user index serial offset len nodes slots handles payload) has in
    let some = has_count is_message p.mail.queue (k, Message origin user index serial offset len nodes slots handles payload) has refl in
    let items = peer.room.dead in
    let as_long = message.as_long in
    let short = message.short in
    record {
      made = message.there;
      queued = message_queued offset len (length nodes) p.store.slices sliced;
      within = (let fits = padded_len-within len (length nodes) in let long = message_len offset len (length nodes) p.store.slices sliced in let same : padded_len len ≡ padded_len (length payload) = ap padded_len as_long in omega (arith, fits, long, same));
      short = omega (arith, as_long, short);
      few = message.few;
      room = omega (arith, some, items);
      set = message_set p peer (k, Message origin user index serial offset len nodes slots handles payload) has refl;
      may = slots_may p.me (length p.nodes.nodes) nodes slots (message.known even);
      carried = carried_here p.me p.nodes.nodes p.store.slices p.mail.queue p.handles.records peer.ok (k, Message origin user index serial offset len nodes slots handles payload) has;
      holds = peer.contents (k, Message origin user index serial offset len nodes slots handles payload) has;
      are = message.known even;
    }

-- the table after the slots arrived counts one fewer, as slots_arrive says of parts
arrived_less : (p : Fields) → IsPeer p → (x : PeerPart) (nodes : List NodeRef) (slots : List Slot) (table : Handles) → x.me ≡ p.me → x.handles ≡ p.handles.records → AreSlots p.me (length p.nodes.nodes) nodes slots → (slots_arrived x nodes slots).part ≡ record x { handles = table.records; given = table.given } → LessFlight p.me nodes p.handles.records table.records
arrived_less p peer x nodes slots table me_is handles_are are part_is =
    let start : Arriving = record { part = x; numbers = []; refs = [] } in
    let arrives = slots_arrive p.me (length p.nodes.nodes) nodes slots (record { part = x; numbers = []; refs = [] }) me_is are (subst Rising (sym handles_are) peer.ok.rising) (subst (λ hs. (h : HandleRecord) → Has hs h → is_needed h ≡ true) (sym handles_are) peer.ok.needed) in
    subst (λ hs. LessFlight p.me nodes hs table.records) handles_are (subst (λ (y : PeerPart). LessFlight p.me nodes x.handles y.handles) part_is arrives.less)

-- a peer whose message at the front arrived
pub arrived_kept : (p : Fields) → IsPeer p → (f : Key × Entry) → FrontMessage p f → (serial offset : ℕ) (nodes : List NodeRef) (slots : List Slot) (payload : List ℕ) → Arrivable p serial offset nodes slots payload → carried f.1 ≡ nodes → offset_of f.1 ≡ offset → (x : PeerPart) → x.me ≡ p.me → x.handles ≡ p.handles.records → (mail : Mail) (store : Stored) (table : Handles) (dead : DeadSeen) → mail.queue ≡ drop 1 p.mail.queue → p.mail.spare ≤ mail.spare → store.slices ≡ published offset p.store.slices → SameElsewhere offset p.store.slices p.store.bytes store.bytes → IsStored store → (slots_arrived x nodes slots).part ≡ record x { handles = table.records; given = table.given } → p.dead.room ≤ dead.room + 1 → p.dead.singles ≤ dead.singles → LosesOne (length nodes) p.dead.stacks dead.stacks → IsPeer (record p { mail = mail; store = store; handles = table; dead = dead })
arrived_kept p peer f front serial offset nodes slots payload can carried_is offset_is x me_is handles_are mail store table dead queue_is spare_is slices_are same stored part_is items_le singles_le sets_le = record {
  ok = subst (λ q. AreOk p.me p.nodes.nodes store.slices q table.records) (sym queue_is) (message_left p.me p.nodes.nodes p.store.slices p.mail.queue p.handles.records peer.ok (drop 1 p.mail.queue) f front.gone front.is store.slices table.records keeps less);
  room = subst (λ q. IsRoom q (length p.nodes.nodes) table.records mail.spare dead.room dead.singles (count_at dead.stacks)) (sym queue_is) (room_message_left p.mail.queue (length p.nodes.nodes) p.handles.records p.mail.spare p.dead.room p.dead.singles (count_at p.dead.stacks) peer.room (drop 1 p.mail.queue) f table.records p.me (carried f.1) mail.spare dead.room dead.singles (count_at dead.stacks) front.gone front.is less spare_is items_le singles_le (subst (λ ns. LosesOne (length ns) p.dead.stacks dead.stacks) (sym carried_is) sets_le));
  contents = λ g h. (let there = subst (λ q. Has q g) queue_is h in content_elsewhere offset p.me (length p.nodes.nodes) p.store.slices p.store.bytes store.bytes g same (peer.ok.messages g (front.gone.less g there)) (peer.ok.sliced g (front.gone.less g there)) (subst (λ o. begins_at o g ≡ false) offset_is (left_apart p.me p.nodes.nodes p.store.slices p.mail.queue p.handles.records peer.ok (drop 1 p.mail.queue) f front.gone front.is g there)) (peer.contents g (front.gone.less g there)));
  stored = stored;
  owner = peer.owner;
  among = peer.among;
  few = peer.few;
}
  where
    less : LessFlight p.me (carried f.1) p.handles.records table.records
    less = subst (λ ns. LessFlight p.me ns p.handles.records table.records) (sym carried_is) (arrived_less p peer x nodes slots table me_is handles_are can.are part_is)

    keeps : KeepsOthers (offset_of f.1) p.store.slices store.slices
    keeps = subst (λ o. KeepsOthers o p.store.slices store.slices) (sym offset_is) (subst (λ ss. KeepsOthers offset p.store.slices ss) (sym slices_are) (let found = queued_found offset p.store.slices can.queued in others_published p.store.size offset p.store.slices found.0 peer.stored.pool found.1))

-- ---- as RECV finds it

pub taken_arrivable : (p : Fields) (s : PeerSeen) → IsPeer p → seen_of p ≡ s → (serial : ℕ) → kind_of s.part.queue ≡ kind.Message serial → (r : Option (Key × Entry)) (k : Key) (e : Entry) → r ≡ Some (k, e) → r ≡ slice_get p.mail.queue 0 → (origin user index dest offset len : ℕ) (nodes new_nodes : List NodeRef) (slots new_slots : List Slot) (handles payload : List ℕ) → e ≡ Message origin user index dest offset len nodes slots handles payload → new_nodes ≡ nodes → new_slots ≡ slots → Arrivable p dest offset new_nodes new_slots payload
taken_arrivable p s peer is serial kinds r k e some found origin user index dest offset len nodes new_nodes slots new_slots handles payload e_is nodes_are slots_are =
    let front = front_message p s peer is serial kinds r (k, e) some found in
    subst (λ ns. Arrivable p dest offset ns new_slots payload) (sym nodes_are) (subst (λ ss. Arrivable p dest offset nodes ss payload) (sym slots_are)
    (arrivable p peer k origin user index dest offset len nodes slots handles payload (subst (λ d. Has p.mail.queue (k, d)) e_is front.gone.was) (subst (λ d. is_staged (k, d) ≡ false) e_is front.even)))

pub taken_kept : (p : Fields) (s : PeerSeen) → IsPeer p → seen_of p ≡ s → (serial : ℕ) → kind_of s.part.queue ≡ kind.Message serial → (r : Option (Key × Entry)) (k : Key) (e : Entry) → r ≡ Some (k, e) → r ≡ slice_get p.mail.queue 0 → (origin user index dest offset len : ℕ) (nodes new_nodes : List NodeRef) (slots new_slots : List Slot) (handles payload : List ℕ) → e ≡ Message origin user index dest offset len nodes slots handles payload → new_nodes ≡ nodes → new_slots ≡ slots →
    (mail : Mail) (store : Stored) (table : Handles) (dead : DeadSeen) → mail ≡ record p.mail { queue = drop 1 p.mail.queue; spare = cond (is_some r) (p.mail.spare + 1) p.mail.spare } → store.slices ≡ published offset p.store.slices → SameElsewhere offset p.store.slices p.store.bytes store.bytes → IsStored store → (slots_arrived (part_of p) new_nodes new_slots).part ≡ record (part_of p) { handles = table.records; given = table.given } → p.dead.room ≤ dead.room + 1 → p.dead.singles ≤ dead.singles → LosesOne (length new_nodes) p.dead.stacks dead.stacks → IsPeer (record p { mail = mail; store = store; handles = table; dead = dead })
taken_kept p s peer is serial kinds r k e some found origin user index dest offset len nodes new_nodes slots new_slots handles payload e_is nodes_are slots_are mail store table dead mail_is slices_are same stored part_is items_le singles_le sets_le =
    arrived_kept p peer (k, e) (front_message p s peer is serial kinds r (k, e) some found) dest offset new_nodes new_slots payload
    (taken_arrivable p s peer is serial kinds r k e some found origin user index dest offset len nodes new_nodes slots new_slots handles payload e_is nodes_are slots_are)
    (ap carried e_is ∙ sym nodes_are) (ap offset_of e_is) (part_of p) refl refl mail store table dead
    (ap (λ (m : Mail). m.queue) mail_is)
    (let more = ap (λ (m : Mail). m.spare) mail_is in let grown : cond (is_some r) (p.mail.spare + 1) p.mail.spare ≡ p.mail.spare + 1 = ap (λ (o : Option (Key × Entry)). cond (is_some o) (p.mail.spare + 1) p.mail.spare) some in omega (arith, more, grown))
    slices_are same stored part_is items_le singles_le sets_le

-- the slice of a queued message isn't a received one
pub not_received : (offset : ℕ) (slices : List Slice) → is_queued offset slices ≡ true → (t : Slice) → slice_at offset slices ≡ Some t → is_published t ≡ true → ⊥
not_received offset slices queued t found received =
    let told : is_unpublished t ≡ true = sym (ap (λ (o : Option Slice). elim o [ None ↦ false | Some s ↦ is_unpublished s ]) found) ∙ queued in
    by_usage t.usage told received
  where
    by_usage : (u : Usage) → (elim u [ Free ↦ false | Unpublished ↦ true | Published ↦ false ]) ≡ true → (elim u [ Free ↦ false | Unpublished ↦ false | Published ↦ true ]) ≡ true → ⊥
    by_usage Free e k = no_way e
      where
        no_way : false ≡ true → ⊥
        no_way e = absurd (cc e)
    by_usage Unpublished e k = no_way k
      where
        no_way : false ≡ true → ⊥
        no_way e = absurd (cc e)
    by_usage Published e k = no_way e
      where
        no_way : false ≡ true → ⊥
        no_way e = absurd (cc e)
