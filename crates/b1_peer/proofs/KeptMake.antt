-- A peer is what it is once it is made, and stays so where it is wired and where its nodes are destroyed.
use Rattle.std.proofs.Common.{◌≡◌, refl, sym, ap, ◌∙◌, inl, inr, subst, ℕ, suc, ◌+◌, ◌≤◌, ◌<◌, true, false, cond, List, [], ◌∷◌, ◌++◌, length, All, replicate, Option, Some, None, map, ◌||◌, ◌==◌}
use Rattle.std.specs.List.{list_any}
use Rattle.std.proofs.lemmas.List.{length-set}
use native.Mathlib.Omega.{arith}
use Rattle.b1_model.specs.declared.limits.TheConstants.{MOST_PEERS}
use Rattle.b1_model.specs.declared.naming.Key.{Key}
use Rattle.b1_model.specs.declared.naming.NodeRef.{NodeRef}
use Rattle.b1_model.specs.declared.parts.NodeState.{NodeState}
use Rattle.b1_model.specs.declared.parts.NodeState.TheVariants.{Live, Dying, Destroyed}
use Rattle.b1_model.specs.declared.naming.PeerSpec.{PeerSpec}
use Rattle.b1_model.specs.declared.entries.Entry.{Entry}
use Rattle.b1_model.specs.MachineParts.{NodePart, is_live, is_dying}
use Rattle.b1_model.specs.MachineTables.{counted, in_state, with_node, with_nodes, with_made, serial_of, changed_or_made, more_held, next_number}
use Rattle.b1_step.specs.Rights.{Has}
use Rattle.b1_step.proofs.Lookups.{rising_made}
use Rattle.b1_nodes.specs.Nodes.{Nodes}
use Rattle.b1_nodes.proofs.NodeLemmas.{length-with_nodes}
use Rattle.b1_handles.specs.Handles.{Handles, wired, given_for}
use Rattle.b1_peer_queue.specs.Mail.{Mail}
use Rattle.b1_peer_pool.specs.Stored.{IsStored}
use Rattle.b1_peer_dead.specs.Dead.{DeadSeen}
use Rattle.b1_peer_dead.specs.Buffers.{count_at}
use Rattle.b1_inv_peer.specs.Needs.{AreDying}
use Rattle.b1_inv_peer.specs.PeerOk.{count, is_notice_for, is_message, AreOk, IsRoom}
use Rattle.b1_inv_peer.proofs.RecordFields.{field_stays_made, unneeded_flight, unneeded_notice}
use Rattle.b1_inv_peer.proofs.RecordLists.{needed_made, held_needs, one_more_made, unnoticed_made}
use Rattle.b1_inv_peer.proofs.NodeEvents.{node_in, node_without_notice, destroyed_ok, made_ok}
use Rattle.b1_inv_peer.proofs.Rooms.{places_most, unnoticed_most, count_most}
use Rattle.b1_peer.specs.State.{Fields, IsPeer, part_of}

abbrev Queue : Type 0
Queue = List (Key × Entry)

-- ---- nodes are destroyed

has_all : {X : Type 0} (P : X → Type 0) (xs : List X) (d : X) (x : X) → All P xs → Has xs x → P x
has_all P [] d x all has = absurd has
has_all P (y ∷ rest) d x all (inl same) = subst P (sym same) (all 0 d (let e : 0 < suc (length rest) = omega arith in e))
has_all P (y ∷ rest) d x all (inr there) = has_all P rest d x (λ k e low. all (suc k) e (let up : suc k < suc (length rest) = omega (arith, low) in up)) there

dying_is_not_live : (state : NodeState) → is_dying state ≡ true → is_live state ≡ false
dying_is_not_live Live is = absurd (cc is)
dying_is_not_live Dying is = refl
dying_is_not_live (Destroyed stamp) is = refl

pub destroyed_kept : (p : Fields) → IsPeer p → (doomed : List ℕ) (stamp clock : ℕ) (nodes : Nodes) → AreDying (part_of p) doomed → nodes ≡ record p.nodes { nodes = with_nodes doomed (in_state (Destroyed stamp)) p.nodes.nodes; late = [] } → IsPeer (record p { clock = clock; nodes = nodes })
destroyed_kept p peer doomed stamp clock nodes dying nodes_are = rw nodes_are (record {
  ok = destroyed_ok stamp doomed p.me p.nodes.nodes p.store.slices p.mail.queue p.handles.records (λ s h. dying_is_not_live (node_in p.nodes.nodes s).state (has_all (λ serial. (serial < length p.nodes.nodes) × (is_dying (node_in p.nodes.nodes serial).state ≡ true)) doomed 0 s dying h).1) peer.ok;
  room = subst (λ n. IsRoom p.mail.queue n p.handles.records p.mail.spare p.dead.room p.dead.singles (count_at p.dead.stacks)) (sym (length-with_nodes doomed (in_state (Destroyed stamp)) p.nodes.nodes)) peer.room;
  contents = peer.contents;
  stored = peer.stored;
  owner = peer.owner;
  among = peer.among;
  few = peer.few;
})

-- ---- a peer is made

pub made_peer : (p : Fields) → p.mail.queue ≡ [] → p.nodes.nodes ≡ [] → p.handles.records ≡ [] → IsStored p.store → p.nodes.owner ≡ p.me → p.nodes.peers ≡ p.peers → p.peers ≤ MOST_PEERS → IsPeer p
made_peer p no_queue no_nodes no_records stored owner among few = record {
  ok = subst (λ q. AreOk p.me p.nodes.nodes p.store.slices q p.handles.records) (sym no_queue) (subst (λ hs. AreOk p.me p.nodes.nodes p.store.slices [] hs) (sym no_records) (record {
    rising = tt;
    needed = λ h has. absurd has;
    messages = λ f has. absurd has;
    notices = λ f has. absurd has;
    sliced = λ f has. absurd has;
    apart = λ offset. omega arith;
    stages = λ o i. omega arith;
    flight = λ node far. refl;
    noticed = λ node. omega arith;
  }));
  room = subst (λ q. IsRoom q (length p.nodes.nodes) p.handles.records p.mail.spare p.dead.room p.dead.singles (count_at p.dead.stacks)) (sym no_queue) (subst (λ hs. IsRoom [] (length p.nodes.nodes) hs p.mail.spare p.dead.room p.dead.singles (count_at p.dead.stacks)) (sym no_records) (subst (λ ns. IsRoom [] (length {A = NodePart} ns) [] p.mail.spare p.dead.room p.dead.singles (count_at p.dead.stacks)) (sym no_nodes) (record { notices = omega arith; dead = omega arith; records = omega arith; messages = λ m. omega arith })));
  contents = λ f has. absurd (subst (λ q. Has q f) no_queue has);
  stored = stored;
  owner = owner;
  among = among;
  few = few;
}

-- ---- a node is counted before the first event

pub count_kept : (p : Fields) → IsPeer p → (serial to : ℕ) (nodes : Nodes) → p.mail.queue ≡ [] → nodes ≡ record p.nodes { nodes = with_node serial (counted to) p.nodes.nodes } → IsPeer (record p { nodes = nodes })
count_kept p peer serial to nodes no_queue nodes_are = rw nodes_are (record {
  ok = node_without_notice p.me p.nodes.nodes p.store.slices p.mail.queue p.handles.records peer.ok serial (counted to) (λ g h. absurd (subst (λ q. Has q g) no_queue h));
  room = subst (λ n. IsRoom p.mail.queue n p.handles.records p.mail.spare p.dead.room p.dead.singles (count_at p.dead.stacks)) (sym (length-set p.nodes.nodes serial (counted to (node_in p.nodes.nodes serial)))) peer.room;
  contents = peer.contents;
  stored = peer.stored;
  owner = peer.owner;
  among = peer.among;
  few = peer.few;
})

-- ---- a node is made, and there is room for its notice

with_made_most : (peers number : ℕ) (nodes : List NodePart) → length (with_made peers number nodes) ≤ length nodes + 1
with_made_most peers number nodes = at (serial_of number nodes)
  where
    new : NodePart
    new = record { number = number; state = Live; counts = replicate peers 0; taken = false }

    one_more : (xs : List NodePart) → length (xs ++ new ∷ []) ≤ length xs + 1
    one_more [] = omega arith
    one_more (x ∷ xs) = let further = one_more xs in omega (arith, further)

    made_by : Option ℕ → List NodePart
    made_by o = elim o [ None ↦ nodes ++ new ∷ [] | Some serial ↦ nodes ]

    at : (o : Option ℕ) → length (made_by o) ≤ length nodes + 1
    at None = one_more nodes
    at (Some serial) = omega arith

pub spare_kept : (p : Fields) → IsPeer p → (mail : Mail) → mail ≡ record p.mail { spare = mail.spare } → p.mail.spare ≤ mail.spare → IsPeer (record p { mail = mail })
spare_kept p peer mail same more = rw same (record {
  ok = peer.ok;
  room = record { notices = (let old = peer.room.notices in omega (arith, old, more)); dead = peer.room.dead; records = peer.room.records; messages = peer.room.messages };
  contents = peer.contents;
  stored = peer.stored;
  owner = peer.owner;
  among = peer.among;
  few = peer.few;
})

pub node_made_kept : (p : Fields) → IsPeer p → (number spare : ℕ) → length p.nodes.nodes + 1 + length p.handles.records ≤ p.mail.spare → IsPeer (record p { nodes = record p.nodes { nodes = with_made p.nodes.peers number p.nodes.nodes; spare = spare } })
node_made_kept p peer number spare enough = record {
  ok = made_ok p.me p.nodes.peers number p.nodes.nodes p.store.slices p.mail.queue p.handles.records peer.ok;
  room = record {
    notices = (let one = places_most p.mail.queue (length (with_made p.nodes.peers number p.nodes.nodes)) in let two = with_made_most p.nodes.peers number p.nodes.nodes in let three = unnoticed_most p.handles.records in omega (arith, one, two, three, enough));
    dead = peer.room.dead;
    records = peer.room.records;
    messages = peer.room.messages;
  };
  contents = peer.contents;
  stored = peer.stored;
  owner = peer.owner;
  among = peer.among;
  few = peer.few;
}

-- ---- another peer's node is held once more

pub held_kept : (p : Fields) → IsPeer p → (node : NodeRef) (next given : ℕ) → length p.nodes.nodes + 1 + length p.handles.records ≤ p.mail.spare → length p.handles.records + 1 + length p.mail.queue ≤ p.dead.room → length p.handles.records + 1 ≤ p.dead.singles → IsPeer (record p { handles = record { records = changed_or_made node (more_held next) p.handles.records; given = given } })
held_kept p peer node next given enough items singles = record {
  ok = record {
    rising = rising_made node (more_held next) (λ h. refl) p.handles.records peer.ok.rising;
    needed = needed_made node (more_held next) (λ h. held_needs (more_held next h) h.held refl) p.handles.records peer.ok.needed;
    messages = peer.ok.messages;
    notices = peer.ok.notices;
    sliced = peer.ok.sliced;
    apart = peer.ok.apart;
    stages = peer.ok.stages;
    flight = λ other far. field_stays_made (λ h. h.flight) 0 unneeded_flight (λ m. refl) (more_held next) (λ h. refl) (λ h. refl) node other p.handles.records peer.ok.rising ∙ peer.ok.flight other far;
    noticed = λ other. subst (λ b. count (is_notice_for other) p.mail.queue ≤ cond b 1 0) (sym (field_stays_made (λ h. h.notice) false unneeded_notice (λ m. refl) (more_held next) (λ h. refl) (λ h. refl) node other p.handles.records peer.ok.rising)) (peer.ok.noticed other);
  };
  room = record {
    notices = (let one = places_most p.mail.queue (length p.nodes.nodes) in let two = unnoticed_made node (more_held next) (λ h. refl) p.handles.records in let three = unnoticed_most p.handles.records in omega (arith, one, two, three, enough));
    dead = (let one = count_most is_message p.mail.queue in let two = one_more_made node (more_held next) p.handles.records in omega (arith, one, two, items));
    records = (let two = one_more_made node (more_held next) p.handles.records in omega (arith, two, singles));
    messages = peer.room.messages;
  };
  contents = peer.contents;
  stored = peer.stored;
  owner = peer.owner;
  among = peer.among;
  few = peer.few;
}

pub items_kept : (p : Fields) → IsPeer p → (dead : DeadSeen) → dead ≡ record p.dead { room = dead.room; singles = dead.singles } → p.dead.room ≤ dead.room → p.dead.singles ≤ dead.singles → IsPeer (record p { dead = dead })
items_kept p peer dead same more grown = rw same (record {
  ok = peer.ok;
  room = record { notices = peer.room.notices; dead = (let old = peer.room.dead in omega (arith, old, more)); records = (let old = peer.room.records in omega (arith, old, grown)); messages = peer.room.messages };
  contents = peer.contents;
  stored = peer.stored;
  owner = peer.owner;
  among = peer.among;
  few = peer.few;
})

pub with_table : (p : Fields) → IsPeer p → (number spare : ℕ) (nodes : Nodes) → nodes ≡ record p.nodes { nodes = with_made p.nodes.peers number p.nodes.nodes; spare = spare } → length p.nodes.nodes + 1 + length p.handles.records ≤ p.mail.spare → IsPeer (record p { nodes = nodes })
with_table p peer number spare nodes is enough = subst (λ (t : Nodes). IsPeer (record p { nodes = t })) (sym is) (node_made_kept p peer number spare enough)

pub held_done : (p : Fields) → IsPeer p → (node : NodeRef) (mail : Mail) (mid dead : DeadSeen) (handles : Handles) → mail ≡ record p.mail { spare = mail.spare } → p.mail.spare ≤ mail.spare → mid ≡ record p.dead { room = mid.room } → p.dead.room ≤ mid.room → dead ≡ record mid { singles = dead.singles } → mid.singles ≤ dead.singles → handles ≡ wired node p.handles → length p.nodes.nodes + 1 + length p.handles.records ≤ mail.spare → length p.handles.records + 1 + length p.mail.queue ≤ mid.room → length p.handles.records + 1 ≤ dead.singles → IsPeer (record p { mail = mail; handles = handles; dead = dead })
held_done p peer node mail mid dead handles mail_same mail_more mid_same mid_more dead_same dead_more wired_is enough items singles =
    let rooms : dead.room ≡ mid.room = ap (λ (d : DeadSeen). d.room) dead_same in
    let same : dead ≡ record p.dead { room = dead.room; singles = dead.singles } = dead_same ∙ ap {A = DeadSeen} {B = DeadSeen} (λ d. record d { room = mid.room; singles = dead.singles }) mid_same ∙ ap {A = ℕ} {B = DeadSeen} (λ n. record p.dead { room = n; singles = dead.singles }) (sym rooms) in
    let ones : mid.singles ≡ p.dead.singles = ap (λ (d : DeadSeen). d.singles) mid_same in
    subst (λ (hs : Handles). IsPeer (record p { mail = mail; handles = hs; dead = dead })) (sym wired_is)
    (held_kept (record p { mail = mail; dead = dead }) (items_kept (record p { mail = mail }) (spare_kept p peer mail mail_same mail_more) dead same (omega (arith, rooms, mid_more)) (omega (arith, ones, dead_more))) node (next_number p.handles.given) (given_for node p.handles) enough
    (subst (λ (m : Mail). length p.handles.records + 1 + length m.queue ≤ dead.room) (sym mail_same) (omega (arith, rooms, items))) singles)

-- ---- users

abbrev pub no_spec : PeerSpec
no_spec = record { user = 0; pool = 0; limits = record { entries = 0; bytes = 0; handles = 0 } }

-- one more stands behind the others
pub pushed : (xs : List ℕ) (y : ℕ) (ys : List ℕ) → (xs ++ y ∷ []) ++ ys ≡ xs ++ (y ∷ ys)
pushed [] y ys = refl
pushed (x ∷ xs) y ys = ap (λ zs. x ∷ zs) (pushed xs y ys)

-- a user is among the users of specs
pub any_user : (user : ℕ) (specs : List PeerSpec) → list_any (λ u. u == user) (map (λ (spec : PeerSpec). spec.user) specs) ≡ list_any (λ (spec : PeerSpec). spec.user == user) specs
any_user user [] = refl
any_user user (spec ∷ rest) = ap (λ b. (spec.user == user) || b) (any_user user rest)
