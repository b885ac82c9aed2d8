-- A peer stays what it is where its nodes are doomed, and its part is then the machine's.
use Rattle.std.proofs.Common.{◌≡◌, ◌≢◌, refl, sym, ap, ◌∙◌, subst, ℕ, ◌+◌, ◌≤◌, ◌<◌, Bool, true, false, cond, List, [], ◌∷◌, find, length, is_some, All, Option, Some, None}
use Rattle.std.specs.Prelude.{AllPairs}
use Rattle.std.proofs.lemmas.Bool.{eq-eqb}
use Rattle.std.proofs.lemmas.List.{length-set}
use Rattle.std.proofs.lemmas.List.Elements.{All-nil, All-cons, All-head, All-tail, All-weaker}
use native.Mathlib.Omega.{arith}
use Rattle.b1_model.specs.declared.naming.Key.{Key}
use Rattle.b1_model.specs.declared.parts.NodeState.TheVariants.{Dying}
use Rattle.b1_model.specs.declared.entries.Entry.{Entry}
use Rattle.b1_model.specs.declared.entries.Entry.TheVariants.{OwnNotice}
use Rattle.b1_model.specs.MachineParts.{PeerPart, NodePart, is_live, is_release_notice}
use Rattle.b1_model.specs.MachineTables.{without, in_state, with_node, with_nodes}
use Rattle.b1_model.specs.MachineDestroy.{with_own_notices, doomed_part, visit_set}
use Rattle.b1_step.specs.Ordered.{NewKey}
use Rattle.b1_step.proofs.Orders.{new_without}
use Rattle.b1_step.proofs.Queues.{without_has}
use Rattle.b1_queue.proofs.Entries.{AllPairs-head, AllPairs-tail}
use Rattle.b1_nodes.specs.Nodes.{Nodes, node_in, AllMade, holders}
use Rattle.b1_peer_queue.specs.Mail.{Mail}
use Rattle.b1_nodes.proofs.Doomed.{no_more}
use Rattle.b1_peer_dead.specs.Buffers.{count_at}
use Rattle.b1_inv_peer.specs.Needs.{StagesAnew}
use Rattle.b1_inv_peer.specs.PeerOk.{count, is_notice_of, IsRoom}
use Rattle.b1_inv_peer.proofs.Counts.{none_found}
use Rattle.b1_inv_peer.proofs.Entries.{all_put}
use Rattle.b1_inv_peer.proofs.CommitEvents.{notice_put}
use Rattle.b1_inv_peer.proofs.NodeEvents.{own_node, other_node, released_doomed}
use Rattle.b1_inv_peer.proofs.DestroyEvents.{new_put, none_unreleased}
use Rattle.b1_inv_peer.proofs.Rooms.{room_released, room_for_notice, room_notice_put}
use Rattle.b1_peer.specs.State.{Fields, IsPeer, ContentOk, part_of, seen_of}
use Rattle.b1_peer.specs.Destructions.{notice_key, without_release, own_noticed, all_own_noticed, OwnNoticesFit}

abbrev Queue : Type 0
Queue = List (Key × Entry)

-- ---- a release notice leaves

spare_le : (b : Bool) (n : ℕ) → n ≤ cond b (n + 1) n
spare_le true n = omega arith
spare_le false n = omega arith

spare_more : (b : Bool) (n : ℕ) → b ≡ true → n + 1 ≤ cond b (n + 1) n
spare_more b n is = rw is (let e : n + 1 ≤ n + 1 = omega arith in e)

found_some : (test : Key × Entry → Bool) (queue : Queue) → 1 ≤ count test queue → is_some (find test queue) ≡ true
found_some test queue some = at (find test queue) refl
  where
    at : (o : Option (Key × Entry)) → find test queue ≡ o → is_some (find test queue) ≡ true
    at None is = let none = none_found test queue is in absurd (omega (arith, none, some))
    at (Some f) is = ap is_some is

room_without : (p : Fields) → IsPeer p → (serial : ℕ) → IsRoom (without (is_release_notice serial) p.mail.queue) (length p.nodes.nodes) p.handles.records (without_release serial p.mail).spare p.dead.room p.dead.singles (count_at p.dead.stacks)
room_without p peer serial =
    room_released p.mail.queue (length p.nodes.nodes) p.handles.records p.mail.spare p.dead.room p.dead.singles (count_at p.dead.stacks) peer.room serial (without_release serial p.mail).spare
    (λ none. spare_le (is_some (find (is_release_notice serial) p.mail.queue)) p.mail.spare)
    (λ some. spare_more (is_some (find (is_release_notice serial) p.mail.queue)) p.mail.spare (found_some (is_release_notice serial) p.mail.queue some))

-- ---- one doomed node

-- the node is dying, its release notice leaves, and its own notice comes in
abbrev pub doomed_one : ℕ → ℕ → Fields → Fields
doomed_one index serial p = record p { mail = own_noticed p.clock p.me index serial p.mail; nodes = record p.nodes { nodes = with_node serial (in_state Dying) p.nodes.nodes } }

module _ (p : Fields) (peer : IsPeer p) (index serial : ℕ) (made : serial < length p.nodes.nodes) (live : is_live (node_in p.nodes.nodes serial).state ≡ true) where
  abbrev left : Queue
  left = without (is_release_notice serial) p.mail.queue

  abbrev key : Key
  key = notice_key p.clock p.me index

  abbrev dying : List NodePart
  dying = with_node serial (in_state Dying) p.nodes.nodes

  same_length : length dying ≡ length p.nodes.nodes
  same_length = length-set p.nodes.nodes serial (in_state Dying (node_in p.nodes.nodes serial))

  none_left : count (is_notice_of serial) left ≡ 0
  none_left = none_unreleased serial p.nodes.nodes p.mail.queue live peer.ok.notices

  pub doomed_spare : 0 < (without_release serial p.mail).spare
  doomed_spare = room_for_notice left (length p.nodes.nodes) p.handles.records (without_release serial p.mail).spare p.dead.room p.dead.singles (count_at p.dead.stacks) (room_without p peer serial) key (OwnNotice serial index) serial refl (eq-eqb serial serial refl) made none_left

  pub doomed_kept : IsPeer (doomed_one index serial p)
  doomed_kept = record {
    ok =
        notice_put p.me dying p.store.slices left p.handles.records
        (released_doomed p.me p.nodes.nodes p.store.slices p.mail.queue p.handles.records peer.ok serial (in_state Dying) refl)
        key (OwnNotice serial index) refl (λ node. refl)
        (subst (λ n. serial < n) (sym same_length) made, ap (λ n. is_live n.state) (own_node serial (in_state Dying) p.nodes.nodes made));
    room =
        subst (λ n. IsRoom (own_noticed p.clock p.me index serial p.mail).queue n p.handles.records (own_noticed p.clock p.me index serial p.mail).spare p.dead.room p.dead.singles (count_at p.dead.stacks)) (sym same_length)
        (room_notice_put left (length p.nodes.nodes) p.handles.records (without_release serial p.mail).spare p.dead.room p.dead.singles (count_at p.dead.stacks) (room_without p peer serial) key (OwnNotice serial index) serial refl (eq-eqb serial serial refl) made none_left);
    contents = all_put (ContentOk p.store.bytes) key (OwnNotice serial index) left tt (λ f h. peer.contents f (without_has (is_release_notice serial) p.mail.queue f h));
    stored = peer.stored;
    owner = peer.owner;
    among = peer.among;
    few = peer.few;
  }

-- ---- all doomed nodes

-- the others are live still
still_live : (s : ℕ) (nodes : List NodePart) (rest : List ℕ) → AllMade (λ n. is_live n.state) nodes rest → All (λ t. s ≢ t) rest → AllMade (λ n. is_live n.state) (with_node s (in_state Dying) nodes) rest
still_live s nodes [] live apart = All-nil (λ r. (r < length (with_node s (in_state Dying) nodes)) × (is_live (node_in (with_node s (in_state Dying) nodes) r).state ≡ true))
still_live s nodes (t ∷ rest) live apart =
    let was = All-head (λ r. (r < length nodes) × (is_live (node_in nodes r).state ≡ true)) t rest live in
    let far = All-head (λ r. s ≢ r) t rest apart in
    All-cons (λ r. (r < length (with_node s (in_state Dying) nodes)) × (is_live (node_in (with_node s (in_state Dying) nodes) r).state ≡ true)) t rest
    (subst (λ n. t < n) (sym (length-set nodes s (in_state Dying (node_in nodes s)))) was.0, ap (λ n. is_live n.state) (other_node t s (in_state Dying) nodes (λ e. far (sym e))) ∙ was.1)
    (still_live s nodes rest (All-tail (λ r. (r < length nodes) × (is_live (node_in nodes r).state ≡ true)) t rest live) (All-tail (λ r. s ≢ r) t rest apart))

-- so many keys from a place on are new
abbrev pub KeysFrom : ℕ → ℕ → ℕ → ℕ → Queue → Type 0
KeysFrom clock origin index n queue = (i : ℕ) → index ≤ i → i < index + n → NewKey (notice_key clock origin i) queue

pub other_place : (clock origin index i : ℕ) → index + 1 ≤ i → notice_key clock origin index ≢ notice_key clock origin i
other_place clock origin index i behind same = let e : index ≡ i = ap (λ (k : Key). k.index) same in absurd (omega (arith, e, behind))

-- a peer with these nodes dying and their notices staged, which had room and new keys
pub record AreDoomed (p : Fields) (index : ℕ) (doomed : List ℕ) : Type 0 where
  pub peer : IsPeer (record p { mail = all_own_noticed p.clock p.me index doomed p.mail; nodes = record p.nodes { nodes = with_nodes doomed (in_state Dying) p.nodes.nodes } })
  pub fit : OwnNoticesFit p.clock p.me index doomed p.mail

pub all_doomed : (doomed : List ℕ) (p : Fields) (index : ℕ) → IsPeer p → AllMade (λ n. is_live n.state) p.nodes.nodes doomed → AllPairs ◌≢◌ doomed → KeysFrom p.clock p.me index (length doomed) p.mail.queue → AreDoomed p index doomed
all_doomed [] p index peer live apart new = record { peer = peer; fit = tt }
all_doomed (s ∷ rest) p index peer live apart new =
    let one = All-head (λ r. (r < length p.nodes.nodes) × (is_live (node_in p.nodes.nodes r).state ≡ true)) s rest live in
    let further = all_doomed rest (doomed_one index s p) (index + 1) (doomed_kept p peer index s one.0 one.1)
    (still_live s p.nodes.nodes rest (All-tail (λ r. (r < length p.nodes.nodes) × (is_live (node_in p.nodes.nodes r).state ≡ true)) s rest live) (AllPairs-head ◌≢◌ s rest apart))
    (AllPairs-tail ◌≢◌ s rest apart)
    (λ i from below. new_put (notice_key p.clock p.me i) (notice_key p.clock p.me index) (OwnNotice s index) (without (is_release_notice s) p.mail.queue)
    (new_without (is_release_notice s) (notice_key p.clock p.me i) p.mail.queue (new i (omega (arith, from)) (omega (arith, below))))
    (other_place p.clock p.me index i from)) in
    record {
      peer = further.peer;
      fit = (doomed_spare p peer index s one.0 one.1, new_without (is_release_notice s) (notice_key p.clock p.me index) p.mail.queue (new index (omega arith) (omega arith)), further.fit);
    }

-- ---- a destruction begins

-- fewer than 2^32 nodes are doomed where fewer were made
pub doomed_few : (nodes : List NodePart) (doomed : List ℕ) → AllMade (λ n. is_live n.state) nodes doomed → AllPairs ◌≢◌ doomed → length doomed ≤ length nodes
doomed_few nodes doomed live apart = no_more (length nodes) doomed apart (All-weaker (λ r. (r < length nodes) × (is_live (node_in nodes r).state ≡ true)) (λ r. r < length nodes) (λ r h. h.0) doomed live)

pub begin_doomed : (p : Fields) → IsPeer p → (doomed : List ℕ) → AllMade (λ n. is_live n.state) p.nodes.nodes doomed → AllPairs ◌≢◌ doomed → StagesAnew (part_of p) p.me (length doomed) → AreDoomed p 0 doomed
begin_doomed p peer doomed live apart new = all_doomed doomed p 0 peer live apart (λ i from below. new i (omega (arith, below)))

-- the late set is empty then
pub begin_kept : (p : Fields) (doomed : List ℕ) (mail : Mail) (nodes : Nodes) → AreDoomed p 0 doomed → mail ≡ all_own_noticed p.clock p.me 0 doomed p.mail → nodes ≡ record p.nodes { nodes = with_nodes doomed (in_state Dying) p.nodes.nodes; late = [] } → IsPeer (record p { mail = mail; nodes = nodes })
begin_kept p doomed mail nodes are mail_is nodes_are =
    subst (λ m. IsPeer (record p { mail = m; nodes = nodes })) (sym mail_is)
    (subst (λ t. IsPeer (record p { mail = all_own_noticed p.clock p.me 0 doomed p.mail; nodes = t })) (sym nodes_are)
    (record {
      ok = are.peer.ok;
      room = are.peer.room;
      contents = are.peer.contents;
      stored = are.peer.stored;
      owner = are.peer.owner;
      among = are.peer.among;
      few = are.peer.few;
    }))

-- what waits then is the machine's queue
pub own_mail : (x : PeerPart) (doomed : List ℕ) (index : ℕ) (m : Mail) → all_own_noticed x.clock x.me index doomed m ≡ record m { queue = with_own_notices x index doomed m.queue; spare = (all_own_noticed x.clock x.me index doomed m).spare }
own_mail x [] index m = refl
own_mail x (s ∷ rest) index m = own_mail x rest (index + 1) (own_noticed x.clock x.me index s m)

pub begin_seen : (p : Fields) → IsPeer p → (doomed : List ℕ) (mail : Mail) (nodes : Nodes) → mail ≡ all_own_noticed p.clock p.me 0 doomed p.mail → nodes ≡ record p.nodes { nodes = with_nodes doomed (in_state Dying) p.nodes.nodes; late = [] } → seen_of (record p { mail = mail; nodes = nodes }) ≡ record (seen_of p) { part = doomed_part (part_of p) doomed }
begin_seen p peer doomed mail nodes mail_is nodes_are =
    ap (λ (t : Nodes). seen_of (record p { mail = mail; nodes = t })) nodes_are
    ∙ ap (λ (m : Mail). seen_of (record p { mail = m; nodes = record p.nodes { nodes = with_nodes doomed (in_state Dying) p.nodes.nodes; late = [] } })) (mail_is ∙ own_mail (part_of p) doomed 0 p.mail)

pub begin_holders : (p : Fields) → IsPeer p → (doomed : List ℕ) → holders p.nodes.peers p.nodes.nodes doomed ≡ visit_set (part_of p) doomed
begin_holders p peer doomed = ap (λ n. holders n p.nodes.nodes doomed) peer.among
