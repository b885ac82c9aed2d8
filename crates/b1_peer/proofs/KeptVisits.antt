-- A peer stays what it is where it is visited, and its part is then the machine's.
use Rattle.std.proofs.Common.{◌≡◌, refl, sym, ap, ◌∙◌, subst, ℕ, suc, ◌+◌, ◌<◌, Bool, true, false, not, List, [], ◌∷◌, length, slice_get, Option, Some, None}
use native.Mathlib.Omega.{arith}
use Rattle.b1_model.specs.declared.naming.Key.{Key}
use Rattle.b1_model.specs.declared.naming.NodeRef.{NodeRef}
use Rattle.b1_model.specs.declared.entries.Entry.{Entry}
use Rattle.b1_model.specs.declared.entries.Entry.TheVariants.{ForeignNotice}
use Rattle.b1_model.specs.MachineParts.{PeerPart, HandleRecord, record_of}
use Rattle.b1_model.specs.MachineDestroy.{notice_by, visited_from, visited}
use Rattle.b1_step.specs.Ordered.{NewKey}
use Rattle.b1_handles.specs.Handles.{Handles, needs_notice}
use Rattle.b1_peer_queue.specs.Mail.{Mail}
use Rattle.b1_peer_dead.specs.Buffers.{count_at}
use Rattle.b1_inv_peer.specs.Needs.{VisitsAnew}
use Rattle.b1_inv_peer.proofs.Entries.{all_put}
use Rattle.b1_inv_peer.proofs.CommitEvents.{foreign_notice_put}
use Rattle.b1_inv_peer.proofs.DestroyEvents.{new_put, still_needs}
use Rattle.b1_inv_peer.proofs.Rooms.{room_for_foreign, room_foreign_put}
use Rattle.b1_peer.specs.State.{Fields, IsPeer, ContentOk, part_of, seen_of}
use Rattle.b1_peer.specs.Destructions.{notice_key, Visiting, doomed_ref, notified_by, notified, all_notified, NoticesAreNew}
use Rattle.b1_peer.proofs.KeptDestroys.{other_place}

abbrev Queue : Type 0
Queue = List (Key × Entry)

-- what a visit changes, of a peer
abbrev pub visiting : Fields → Visiting
visiting p = record { mail = p.mail; records = p.handles.records }

-- a peer after that
abbrev pub after : Fields → Visiting → Fields
after p v = record p { mail = v.mail; handles = record p.handles { records = v.records } }

-- ---- one doomed node

module _ (p : Fields) (peer : IsPeer p) (index : ℕ) (node : NodeRef) (needs : needs_notice node p.handles.records ≡ true) where
  abbrev key : Key
  key = notice_key p.clock node.owner index

  found : (o : Option HandleRecord) → record_of node p.handles.records ≡ o → (elim o [ None ↦ false | Some h ↦ not h.notice ]) ≡ true → (h : HandleRecord) × (record_of node p.handles.records ≡ Some h) × (h.notice ≡ false)
  found None is e = absurd (cc e)
  found (Some h) is e = (h, is, by h.notice e)
    where
      by : (b : Bool) → not b ≡ true → b ≡ false
      by true e = absurd (cc e)
      by false e = refl

  pub visit_spare : 0 < p.mail.spare
  visit_spare = room_for_foreign p.mail.queue (length p.nodes.nodes) p.handles.records p.mail.spare p.dead.room p.dead.singles (count_at p.dead.stacks) peer.room key node index needs

  pub visit_noticed : IsPeer (after p (notified_by true p.clock index node (visiting p)))
  visit_noticed =
      let there = found (record_of node p.handles.records) refl needs in
      record {
        ok = foreign_notice_put p.me p.nodes.nodes p.store.slices p.mail.queue p.handles.records peer.ok key node index there.0 there.1 there.2;
        room = room_foreign_put p.mail.queue (length p.nodes.nodes) p.handles.records p.mail.spare p.dead.room p.dead.singles (count_at p.dead.stacks) peer.room key node index needs;
        contents = all_put (ContentOk p.store.bytes) key (ForeignNotice node index) p.mail.queue tt peer.contents;
        stored = peer.stored;
        owner = peer.owner;
        among = peer.among;
        few = peer.few;
      }

-- whether it needs a notice is given
visit_one : (p : Fields) → IsPeer p → (index : ℕ) (node : NodeRef) (b : Bool) → needs_notice node p.handles.records ≡ b → IsPeer (after p (notified_by b p.clock index node (visiting p)))
visit_one p peer index node true is = visit_noticed p peer index node is
visit_one p peer index node false is = peer

-- the keys of the notices that doomed nodes need, from a place on
abbrev pub KeysFor : ℕ → ℕ → ℕ → List ℕ → Visiting → Type 0
KeysFor clock owner index doomed v = (i serial : ℕ) → slice_get doomed i ≡ Some serial → needs_notice (doomed_ref owner serial) v.records ≡ true → NewKey (notice_key clock owner (index + i)) v.mail.queue

keys_after : (clock owner index s : ℕ) (rest : List ℕ) (v : Visiting) (b : Bool) → KeysFor clock owner index (s ∷ rest) v → KeysFor clock owner (index + 1) rest (notified_by b clock index (doomed_ref owner s) v)
keys_after clock owner index s rest v false new = λ i serial is needs.
    let e : index + suc i ≡ index + 1 + i = omega arith in
    subst (λ n. NewKey (notice_key clock owner n) v.mail.queue) e (new (suc i) serial is needs)
keys_after clock owner index s rest v true new = λ i serial is needs.
    let e : index + suc i ≡ index + 1 + i = omega arith in
    new_put (notice_key clock owner (index + 1 + i)) (notice_key clock owner index) (ForeignNotice (doomed_ref owner s) index) v.mail.queue
    (subst (λ n. NewKey (notice_key clock owner n) v.mail.queue) e (new (suc i) serial is (still_needs (doomed_ref owner serial) (doomed_ref owner s) v.records needs)))
    (other_place clock owner index (index + 1 + i) (omega arith))

-- ---- all doomed nodes

-- a peer with the notices that were needed, which had room and new keys
pub record AreVisited (p : Fields) (owner index : ℕ) (doomed : List ℕ) : Type 0 where
  pub peer : IsPeer (after p (all_notified p.clock owner index doomed (visiting p)))
  pub new : NoticesAreNew p.clock owner index doomed (visiting p)

pub all_visited : (doomed : List ℕ) (p : Fields) (owner index : ℕ) → IsPeer p → KeysFor p.clock owner index doomed (visiting p) → AreVisited p owner index doomed
all_visited [] p owner index peer new = record { peer = peer; new = tt }
all_visited (s ∷ rest) p owner index peer new =
    let further = all_visited rest (after p (notified p.clock index (doomed_ref owner s) (visiting p))) owner (index + 1)
    (visit_one p peer index (doomed_ref owner s) (needs_notice (doomed_ref owner s) p.handles.records) refl)
    (keys_after p.clock owner index s rest (visiting p) (needs_notice (doomed_ref owner s) p.handles.records) new) in
    let e : index + 0 ≡ index = omega arith in
    record {
      peer = further.peer;
      new = (λ needs. (visit_spare p peer index (doomed_ref owner s) needs, subst (λ n. NewKey (notice_key p.clock owner n) p.mail.queue) e (new 0 s refl needs)), further.new);
    }

pub visit_fits : (p : Fields) → IsPeer p → (owner : ℕ) (doomed : List ℕ) → VisitsAnew (part_of p) owner doomed → AreVisited p owner 0 doomed
visit_fits p peer owner doomed new = all_visited doomed p owner 0 peer (λ i serial is needs. let e : i ≡ 0 + i = omega arith in subst (λ n. NewKey (notice_key p.clock owner n) p.mail.queue) e (new i serial is needs))

pub visit_kept : (p : Fields) (owner : ℕ) (doomed : List ℕ) (mail : Mail) (handles : Handles) → AreVisited p owner 0 doomed → mail ≡ (all_notified p.clock owner 0 doomed (visiting p)).mail → handles ≡ record p.handles { records = (all_notified p.clock owner 0 doomed (visiting p)).records } → IsPeer (record p { mail = mail; handles = handles })
visit_kept p owner doomed mail handles are mail_is handles_are =
    subst (λ m. IsPeer (record p { mail = m; handles = handles })) (sym mail_is)
    (subst (λ t. IsPeer (record p { mail = (all_notified p.clock owner 0 doomed (visiting p)).mail; handles = t })) (sym handles_are) are.peer)

-- ---- the part is the machine's

visited_is : (doomed : List ℕ) (p : Fields) (owner index : ℕ) → part_of (after p (all_notified p.clock owner index doomed (visiting p))) ≡ visited_from owner index doomed (part_of p)
visited_is [] p owner index = refl
visited_is (s ∷ rest) p owner index = by (λ q. visited_is rest q owner (index + 1)) (needs_notice (doomed_ref owner s) p.handles.records)
  where
    by : ((q : Fields) → part_of (after q (all_notified q.clock owner (index + 1) rest (visiting q))) ≡ visited_from owner (index + 1) rest (part_of q)) → (b : Bool) → part_of (after p (all_notified p.clock owner (index + 1) rest (notified_by b p.clock index (doomed_ref owner s) (visiting p)))) ≡ visited_from owner (index + 1) rest (notice_by b owner (part_of p) index (doomed_ref owner s))
    by further true = further (after p (notified_by true p.clock index (doomed_ref owner s) (visiting p)))
    by further false = further p

users_stay : (doomed : List ℕ) (clock owner index : ℕ) (v : Visiting) → (all_notified clock owner index doomed v).mail.users ≡ v.mail.users
users_stay [] clock owner index v = refl
users_stay (s ∷ rest) clock owner index v = users_stay rest clock owner (index + 1) (notified clock index (doomed_ref owner s) v) ∙ by (needs_notice (doomed_ref owner s) v.records)
  where
    by : (b : Bool) → (notified_by b clock index (doomed_ref owner s) v).mail.users ≡ v.mail.users
    by true = refl
    by false = refl

pub visit_seen : (p : Fields) → IsPeer p → (owner : ℕ) (doomed : List ℕ) (mail : Mail) (handles : Handles) → mail ≡ (all_notified p.clock owner 0 doomed (visiting p)).mail → handles ≡ record p.handles { records = (all_notified p.clock owner 0 doomed (visiting p)).records } → seen_of (record p { mail = mail; handles = handles }) ≡ record (seen_of p) { part = visited (part_of p) owner doomed }
visit_seen p peer owner doomed mail handles mail_is handles_are =
    ap (λ (t : Handles). seen_of (record p { mail = mail; handles = t })) handles_are
    ∙ ap (λ (m : Mail). seen_of (record p { mail = m; handles = record p.handles { records = (all_notified p.clock owner 0 doomed (visiting p)).records } })) mail_is
    ∙ ap (λ (x : PeerPart). record { part = x; bytes = p.store.bytes; users = (all_notified p.clock owner 0 doomed (visiting p)).mail.users }) (visited_is doomed p owner 0)
    ∙ ap (λ (us : List ℕ). record { part = visited (part_of p) owner doomed; bytes = p.store.bytes; users = us }) (users_stay doomed p.clock owner 0 (visiting p))
