-- A peer stays what it is where RECV removes or takes an entry, and what its part is then.
use Rattle.std.proofs.Common.{◌≡◌, ◌≢◌, refl, sym, ap, ◌∙◌, inl, subst, ℕ, ◌+◌, ◌≤◌, ◌<◌, Bool, true, false, cond, not, ◌&&◌, List, [], ◌∷◌, drop, length, is_some, Option, Some, Result, Ok, ◌==◌, unwrap_or}
use Rattle.std.specs.Prelude.{slice_get}
use Rattle.std.proofs.lemmas.List.{length-set}
use native.Mathlib.Omega.{arith}
use Rattle.b1_model.specs.declared.naming.Key.{Key}
use Rattle.b1_model.specs.declared.naming.NodeRef.{NodeRef}
use Rattle.b1_model.specs.declared.entries.Entry.{Entry}
use Rattle.b1_model.specs.declared.entries.Entry.TheVariants.{Message, OwnNotice, ForeignNotice, ReleaseNotice}
use Rattle.b1_model.specs.declared.answers.Front.{Front}
use Rattle.b1_model.specs.declared.answers.Receipt.{Receipt}
use Rattle.b1_model.specs.declared.answers.Receipt.TheVariants as receipt
use Rattle.b1_model.specs.Names.{invalid}
use Rattle.b1_model.specs.MachineParts.{PeerPart, NodePart, is_data, is_odd, is_staged, node_at, carried, record_or_none}
use Rattle.b1_model.specs.MachinePool.{given_back}
use Rattle.b1_model.specs.MachineTables.{changed, made_dead, foreign, unexpected, with_node, notice_taken}
use Rattle.b1_model.specs.MachineSend.{offset_of}
use Rattle.b1_model.specs.MachineReceive.{discarded, references, with_item, is_for_nobody, front_by, front_taken}
use Rattle.b1_step.specs.Rights.{Has}
use Rattle.b1_step.proofs.Orders.{same_ref_itself}
use Rattle.b1_handles.specs.Handles.{Handles}
use Rattle.b1_peer_queue.specs.Mail.{Mail}
use Rattle.b1_peer_pool.specs.Stored.{Stored, IsStored}
use Rattle.b1_peer_dead.specs.Dead.{DeadSeen}
use Rattle.b1_peer_dead.specs.Buffers.{LosesOne, count_at}
use Rattle.b1_inv_peer.specs.PeerOk.{is_message, is_notice_for, is_notice_of, IsRoom, MessageOk, NoticeOk}
use Rattle.b1_inv_peer.specs.Changes.{Removes}
use Rattle.b1_inv_peer.proofs.Counts.{has_count}
use Rattle.b1_inv_peer.proofs.CommitEvents.{foreign_notice_left, notice_left}
use Rattle.b1_inv_peer.proofs.NodeEvents.{node_in, node_changed_ok}
use Rattle.b1_inv_peer.proofs.Rooms.{room_foreign_left, room_notice_left}
use Rattle.b1_peer.specs.Seen.{PeerSeen}
use Rattle.b1_peer.specs.State.{Fields, IsPeer, part_of, seen_of}
use Rattle.b1_peer.specs.declared.front.Kind.{Kind}
use Rattle.b1_peer.specs.declared.front.Kind.TheVariants as kind
use Rattle.b1_peer.specs.Fronts.{kind_by, kind_of, goes_by, front_goes, without_by, front_gone}
use Rattle.b1_peer.proofs.Fronts.{front_is, front_removed, message_front, foreign_front}
use Rattle.b1_peer.proofs.KeptSends.{message_gone}

abbrev Queue : Type 0
Queue = List (Key × Entry)

-- ---- who goes

-- by what stands at the front
abbrev pub goes_of : PeerPart → Kind → Bool
goes_of x kind.Absent = false
goes_of x (kind.Staged origin stamp) = false
goes_of x (kind.Message serial) = (node_at x serial).taken
goes_of x (kind.Own serial) = false
goes_of x (kind.Foreign node) = (record_or_none node x.handles).held == 0
goes_of x (kind.Release serial) = false

goes_by_kind : (x : PeerPart) (queue : Queue) → goes_by x queue ≡ goes_of x (kind_of queue)
goes_by_kind x [] = refl
goes_by_kind x ((k, e) ∷ rest) = at (is_odd k.stamp) e
  where
    at : (b : Bool) (d : Entry) → (not b && is_for_nobody x d) ≡ goes_of x (kind_by b k d)
    at true d = refl
    at false (Message origin user index serial offset len nodes slots handles payload) = refl
    at false (OwnNotice serial index) = refl
    at false (ForeignNotice node index) = refl
    at false (ReleaseNotice serial) = refl

pub goes_kind : (x : PeerPart) → front_goes x ≡ goes_of x (kind_of x.queue)
goes_kind x = goes_by_kind x x.queue

-- a message's node was made
kind_made : (me made serial : ℕ) (b : Bool) (k : Key) (e : Entry) → kind_by b k e ≡ kind.Message serial → MessageOk me made (k, e) → serial < made
kind_made me made serial true k e is right = absurd (cc is)
kind_made me made serial false k (Message origin user index dest offset len nodes slots handles payload) is right = let same : dest ≡ serial = cc is in subst (λ s. s < made) same right.there
kind_made me made serial false k (OwnNotice mine index) is right = absurd (cc is)
kind_made me made serial false k (ForeignNotice node index) is right = absurd (cc is)
kind_made me made serial false k (ReleaseNotice mine) is right = absurd (cc is)

pub front_made : (me made serial : ℕ) (queue : Queue) → kind_of queue ≡ kind.Message serial → ((f : Key × Entry) → Has queue f → MessageOk me made f) → serial < made
front_made me made serial [] is all = absurd (cc is)
front_made me made serial (f ∷ rest) is all = kind_made me made serial (is_odd f.0.stamp) f.0 f.1 is (all f (inl refl))

-- a notice's node was made
own_made : (nodes : List NodePart) (serial : ℕ) (b : Bool) (k : Key) (e : Entry) → kind_by b k e ≡ kind.Own serial → NoticeOk nodes (k, e) → serial < length nodes
own_made nodes serial true k e is right = absurd (cc is)
own_made nodes serial false k (Message origin user index dest offset len carries slots handles payload) is right = absurd (cc is)
own_made nodes serial false k (OwnNotice mine index) is right = let same : mine ≡ serial = cc is in subst (λ s. s < length nodes) same right.0
own_made nodes serial false k (ForeignNotice node index) is right = absurd (cc is)
own_made nodes serial false k (ReleaseNotice mine) is right = absurd (cc is)

pub front_own_made : (nodes : List NodePart) (serial : ℕ) (queue : Queue) → kind_of queue ≡ kind.Own serial → ((f : Key × Entry) → Has queue f → NoticeOk nodes f) → serial < length nodes
front_own_made nodes serial [] is all = absurd (cc is)
front_own_made nodes serial (f ∷ rest) is all = own_made nodes serial (is_odd f.0.stamp) f.0 f.1 is (all f (inl refl))

release_made : (nodes : List NodePart) (serial : ℕ) (b : Bool) (k : Key) (e : Entry) → kind_by b k e ≡ kind.Release serial → NoticeOk nodes (k, e) → serial < length nodes
release_made nodes serial true k e is right = absurd (cc is)
release_made nodes serial false k (Message origin user index dest offset len carries slots handles payload) is right = absurd (cc is)
release_made nodes serial false k (OwnNotice mine index) is right = absurd (cc is)
release_made nodes serial false k (ForeignNotice node index) is right = absurd (cc is)
release_made nodes serial false k (ReleaseNotice mine) is right = let same : mine ≡ serial = cc is in subst (λ s. s < length nodes) same right.0

pub front_release_made : (nodes : List NodePart) (serial : ℕ) (queue : Queue) → kind_of queue ≡ kind.Release serial → ((f : Key × Entry) → Has queue f → NoticeOk nodes f) → serial < length nodes
front_release_made nodes serial [] is all = absurd (cc is)
front_release_made nodes serial (f ∷ rest) is all = release_made nodes serial (is_odd f.0.stamp) f.0 f.1 is (all f (inl refl))

-- something stands there
pub front_some : (queue : Queue) (k : Kind) → kind_of queue ≡ k → (k ≡ kind.Absent → ⊥) → 1 ≤ length queue
front_some [] k is some = absurd (some (sym is))
front_some (f ∷ rest) k is some = omega arith

-- ---- the destroy notice of another peer's node

-- the first entry, as it is there
pub first_there : (queue : Queue) → 1 ≤ length queue → (f : Key × Entry) × (Some f ≡ slice_get queue 0)
first_there [] some = absurd (omega (arith, some))
first_there (f ∷ rest) some = (f, refl)

pub notice_queued : (p : Fields) → IsPeer p → (node : NodeRef) → kind_of p.mail.queue ≡ kind.Foreign node → (record_or_none node p.handles.records).notice ≡ true
notice_queued p peer node is = at (first_there p.mail.queue (front_some p.mail.queue (kind.Foreign node) is (λ e. absurd (cc e))))
  where
    bit : (b : Bool) → 1 ≤ cond b 1 0 → b ≡ true
    bit true some = refl
    bit false some = absurd (omega (arith, some))

    at : (f : Key × Entry) × (Some f ≡ slice_get p.mail.queue 0) → (record_or_none node p.handles.records).notice ≡ true
    at (f, front) =
        let told = foreign_front p.mail.queue node f is front in
        let gone = front_removed p.mail.queue f front in
        let passes : is_notice_for node f ≡ true = ap (is_notice_for node) told.1 ∙ same_ref_itself node in
        let some = has_count (is_notice_for node) p.mail.queue f gone.was passes in
        let few = peer.ok.noticed node in
        bit (record_or_none node p.handles.records).notice (omega (arith, some, few))

pub end_kept : (p : Fields) → IsPeer p → (node : NodeRef) → kind_of p.mail.queue ≡ kind.Foreign node → IsPeer (record p { mail = record p.mail { queue = drop 1 p.mail.queue; spare = p.mail.spare + 1 }; handles = record p.handles { records = changed node made_dead p.handles.records } })
end_kept p peer node is = at (first_there p.mail.queue (front_some p.mail.queue (kind.Foreign node) is (λ e. absurd (cc e))))
  where
    at : (f : Key × Entry) × (Some f ≡ slice_get p.mail.queue 0) → IsPeer (record p { mail = record p.mail { queue = drop 1 p.mail.queue; spare = p.mail.spare + 1 }; handles = record p.handles { records = changed node made_dead p.handles.records } })
    at (f, front) =
        let told = foreign_front p.mail.queue node f is front in
        let gone : Removes p.mail.queue (drop 1 p.mail.queue) (f.0, ForeignNotice node told.0) = subst (Removes p.mail.queue (drop 1 p.mail.queue)) told.1 (front_removed p.mail.queue f front) in
        record {
          ok = foreign_notice_left p.me p.nodes.nodes p.store.slices p.mail.queue p.handles.records peer.ok (drop 1 p.mail.queue) f.0 node told.0 gone;
          room = room_foreign_left p.mail.queue (length p.nodes.nodes) p.handles.records p.mail.spare p.dead.room p.dead.singles (count_at p.dead.stacks) peer.room (drop 1 p.mail.queue) f.0 node told.0 (p.mail.spare + 1) gone (omega arith);
          contents = λ g h. peer.contents g (gone.less g h);
          stored = peer.stored;
          owner = peer.owner;
          among = peer.among;
          few = peer.few;
        }

-- ---- a message goes

pub discarded_message : (x : PeerPart) (e : Entry) → is_data e ≡ true → discarded x e ≡ record x { slices = given_back (offset_of e) x.slices; handles = unexpected (foreign x.me (carried e)) x.handles; dead = with_item (references e) x.dead }
discarded_message x (Message origin user index serial offset len nodes slots handles payload) is = refl
discarded_message x (OwnNotice serial index) is = absurd (cc is)
discarded_message x (ForeignNotice node index) is = absurd (cc is)
discarded_message x (ReleaseNotice serial) is = absurd (cc is)

-- at the front there is room for its references
pub room_for_item : (p : Fields) → IsPeer p → (f : Key × Entry) → Has p.mail.queue f → is_data f.1 ≡ true → 1 ≤ p.dead.room
room_for_item p peer f h is = let some = has_count is_message p.mail.queue f h is in let room = peer.room.dead in omega (arith, some, room)

-- what stands at the front, by what was taken
pub record FrontMessage (p : Fields) (f : Key × Entry) : Type 0 where
  pub is : is_data f.1 ≡ true
  pub even : is_staged f ≡ false
  pub queue_is : p.mail.queue ≡ f ∷ drop 1 p.mail.queue
  pub gone : Removes p.mail.queue (drop 1 p.mail.queue) f

pub front_message : (p : Fields) (s : PeerSeen) → IsPeer p → seen_of p ≡ s → (serial : ℕ) → kind_of s.part.queue ≡ kind.Message serial → (r : Option (Key × Entry)) (f : Key × Entry) → r ≡ Some f → r ≡ slice_get p.mail.queue 0 → FrontMessage p f
front_message p s peer is serial kinds r f some front =
    let there : Some f ≡ slice_get p.mail.queue 0 = sym some ∙ front in
    let told = message_front p.mail.queue serial f (subst (λ (x : PeerSeen). kind_of x.part.queue ≡ kind.Message serial) (sym is) kinds) there in
    record { is = told.0; even = told.1; queue_is = front_is p.mail.queue f there; gone = front_removed p.mail.queue f there }

pub discard_kept : (p : Fields) → IsPeer p → (f : Key × Entry) → FrontMessage p f → (r : Option (Key × Entry)) (mail : Mail) (store : Stored) (handles : Handles) (dead : DeadSeen) → r ≡ Some f → mail ≡ record p.mail { queue = drop 1 p.mail.queue; spare = cond (is_some r) (p.mail.spare + 1) p.mail.spare } → store.slices ≡ given_back (offset_of f.1) p.store.slices → store.bytes ≡ p.store.bytes → IsStored store → handles ≡ record p.handles { records = unexpected (foreign p.me (carried f.1)) p.handles.records } → p.dead.room ≤ dead.room + 1 → p.dead.singles ≤ dead.singles → LosesOne (length (carried f.1)) p.dead.stacks dead.stacks → IsPeer (record p { mail = mail; store = store; handles = handles; dead = dead })
discard_kept p peer f front r mail store handles dead some mail_is slices_are same stored handles_are room singles loses =
    message_gone p peer (drop 1 p.mail.queue) f mail store handles dead front.gone front.is
    (ap (λ (m : Mail). m.queue) mail_is)
    (let more = ap (λ (m : Mail). m.spare) mail_is in let grown : cond (is_some r) (p.mail.spare + 1) p.mail.spare ≡ p.mail.spare + 1 = ap (λ (o : Option (Key × Entry)). cond (is_some o) (p.mail.spare + 1) p.mail.spare) some in omega (arith, more, grown))
    slices_are same stored handles_are room singles loses

pub discard_seen : (p : Fields) (s : PeerSeen) → IsPeer p → seen_of p ≡ s → (f : Key × Entry) → FrontMessage p f → (r : Option (Key × Entry)) (mail : Mail) (store : Stored) (handles : Handles) (dead : DeadSeen) → mail ≡ record p.mail { queue = drop 1 p.mail.queue; spare = cond (is_some r) (p.mail.spare + 1) p.mail.spare } → store.slices ≡ given_back (offset_of f.1) p.store.slices → store.size ≡ p.store.size → store.bytes ≡ p.store.bytes → handles ≡ record p.handles { records = unexpected (foreign p.me (carried f.1)) p.handles.records } → dead.items ≡ with_item (references f.1) p.dead.items → ◌≡◌ {A = PeerSeen} (seen_of (record p { mail = mail; store = store; handles = handles; dead = dead })) (record s { part = front_gone s.part })
discard_seen p s peer is f front r mail store handles dead mail_is slices_are size_is same handles_are dead_is =
    subst (λ (x : PeerSeen). seen_of (record p { mail = mail; store = store; handles = handles; dead = dead }) ≡ record x { part = front_gone x.part }) is
    (rw (mail_is, handles_are)
    ((λ i. record { part = record (part_of p) { pool = size_is i; slices = slices_are i; queue = drop 1 p.mail.queue; handles = unexpected (foreign p.me (carried f.1)) p.handles.records; dead = dead_is i }; bytes = same i; users = p.mail.users })
    ∙ ap {A = PeerPart} {B = PeerSeen} (λ x. record { part = x; bytes = p.store.bytes; users = p.mail.users }) (sym (discarded_message (record (part_of p) { queue = drop 1 p.mail.queue }) f.1 front.is))
    ∙ ap {A = Queue} {B = PeerSeen} (λ q. record { part = without_by (part_of p) q; bytes = p.store.bytes; users = p.mail.users }) (sym front.queue_is)))

-- ---- notices are taken

record_same : (x : PeerPart) → record x { queue = x.queue } ≡ x
record_same x = refl

pub taken_own : (x : PeerPart) (f : Key × Entry) (rest : Queue) (serial index : ℕ) → x.queue ≡ f ∷ rest → f ≡ (f.0, OwnNotice serial index) → is_staged f ≡ false → front_taken x x.queue ≡ (Ok (receipt.Destroyed f.0 (node_at x serial).number), record x { queue = rest; nodes = with_node serial notice_taken x.nodes })
taken_own x f rest serial index queue_is is even =
    ap (front_taken x) queue_is
    ∙ ap (λ b. front_by b x f rest) even
    ∙ ap {A = Key × Entry} {B = Result Receipt Front × PeerPart} (λ g. front_by false x g rest) is

pub taken_foreign : (x : PeerPart) (f : Key × Entry) (rest : Queue) (node : NodeRef) (index : ℕ) → x.queue ≡ f ∷ rest → f ≡ (f.0, ForeignNotice node index) → is_staged f ≡ false → front_taken x x.queue ≡ (Ok (receipt.Destroyed f.0 (unwrap_or (record_or_none node x.handles).number invalid)), record x { queue = rest; handles = changed node made_dead x.handles })
taken_foreign x f rest node index queue_is is even =
    ap (front_taken x) queue_is
    ∙ ap (λ b. front_by b x f rest) even
    ∙ ap {A = Key × Entry} {B = Result Receipt Front × PeerPart} (λ g. front_by false x g rest) is

pub taken_release : (x : PeerPart) (f : Key × Entry) (rest : Queue) (serial : ℕ) → x.queue ≡ f ∷ rest → f ≡ (f.0, ReleaseNotice serial) → is_staged f ≡ false → front_taken x x.queue ≡ (Ok (receipt.Released f.0.stamp (node_at x serial).number), record x { queue = rest })
taken_release x f rest serial queue_is is even =
    ap (front_taken x) queue_is
    ∙ ap (λ b. front_by b x f rest) even
    ∙ ap {A = Key × Entry} {B = Result Receipt Front × PeerPart} (λ g. front_by false x g rest) is

-- an own node's notice leaves, and the node changes but for its life and counts
pub own_taken_kept : (p : Fields) → IsPeer p → (f : Key × Entry) → Removes p.mail.queue (drop 1 p.mail.queue) f → is_data f.1 ≡ false → (serial : ℕ) → ((s : ℕ) → s ≢ serial → is_notice_of s f ≡ false) → IsPeer (record p { mail = record p.mail { queue = drop 1 p.mail.queue; spare = p.mail.spare + 1 }; nodes = record p.nodes { nodes = with_node serial notice_taken p.nodes.nodes } })
own_taken_kept p peer f gone is serial others = record {
  ok = node_changed_ok p.me p.nodes.nodes p.store.slices (drop 1 p.mail.queue) p.handles.records (notice_left p.me p.nodes.nodes p.store.slices p.mail.queue p.handles.records peer.ok (drop 1 p.mail.queue) f gone is) serial notice_taken (refl, refl);
  room = subst (λ n. IsRoom (drop 1 p.mail.queue) n p.handles.records (p.mail.spare + 1) p.dead.room p.dead.singles (count_at p.dead.stacks)) (sym (length-set p.nodes.nodes serial (notice_taken (node_in p.nodes.nodes serial)))) (room_notice_left p.mail.queue (length p.nodes.nodes) p.handles.records p.mail.spare p.dead.room p.dead.singles (count_at p.dead.stacks) peer.room (drop 1 p.mail.queue) f serial (p.mail.spare + 1) gone others (omega arith));
  contents = λ g h. peer.contents g (gone.less g h);
  stored = peer.stored;
  owner = peer.owner;
  among = peer.among;
  few = peer.few;
}

pub release_taken_kept : (p : Fields) → IsPeer p → (f : Key × Entry) → Removes p.mail.queue (drop 1 p.mail.queue) f → is_data f.1 ≡ false → (serial : ℕ) → ((s : ℕ) → s ≢ serial → is_notice_of s f ≡ false) → IsPeer (record p { mail = record p.mail { queue = drop 1 p.mail.queue; spare = p.mail.spare + 1 } })
release_taken_kept p peer f gone is serial others = record {
  ok = notice_left p.me p.nodes.nodes p.store.slices p.mail.queue p.handles.records peer.ok (drop 1 p.mail.queue) f gone is;
  room = room_notice_left p.mail.queue (length p.nodes.nodes) p.handles.records p.mail.spare p.dead.room p.dead.singles (count_at p.dead.stacks) peer.room (drop 1 p.mail.queue) f serial (p.mail.spare + 1) gone others (omega arith);
  contents = λ g h. peer.contents g (gone.less g h);
  stored = peer.stored;
  owner = peer.owner;
  among = peer.among;
  few = peer.few;
}
