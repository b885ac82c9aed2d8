-- A peer stays what it is where references to its nodes are dropped, and where a node's release notice comes in.
use Rattle.std.proofs.Common.{◌≡◌, refl, sym, ap, ◌∙◌, inl, inr, subst, ℕ, ◌≤◌, ◌<◌, Bool, true, false, ◌&&◌, List, [], ◌∷◌, find, length, None}
use Rattle.std.proofs.lemmas.Bool.{eq-eqb}
use Rattle.std.proofs.lemmas.List.{length-set}
use Rattle.b1_model.specs.declared.naming.Key.{Key}
use Rattle.b1_model.specs.declared.entries.Entry.{Entry}
use Rattle.b1_model.specs.declared.entries.Entry.TheVariants.{Message, OwnNotice, ForeignNotice, ReleaseNotice}
use Rattle.b1_model.specs.MachineParts.{is_live, is_release_notice}
use Rattle.b1_model.specs.MachineTables.{is_unheld, count_of, uncounted, with_node}
use Rattle.b1_step.specs.Rights.{Has}
use Rattle.b1_nodes.specs.Nodes.{Nodes, node_in}
use Rattle.b1_peer_queue.specs.Mail.{Mail}
use Rattle.b1_peer_dead.specs.Buffers.{count_at}
use Rattle.b1_inv_peer.specs.PeerOk.{count, is_notice_of, IsRoom}
use Rattle.b1_inv_peer.proofs.Counts.{none_count, count_none}
use Rattle.b1_inv_peer.proofs.Entries.{all_put}
use Rattle.b1_inv_peer.proofs.CommitEvents.{notice_put}
use Rattle.b1_inv_peer.proofs.NodeEvents.{own_node, node_dropped, none_queued}
use Rattle.b1_inv_peer.proofs.Rooms.{room_for_notice, room_notice_put}
use Rattle.b1_peer.specs.State.{Fields, IsPeer, ContentOk}
use Rattle.b1_peer.specs.Destructions.{with_entry}

abbrev Queue : Type 0
Queue = List (Key × Entry)

-- ---- a drop

-- a holder's count falls
abbrev pub detached : ℕ → ℕ → ℕ → Nodes → Nodes
detached serial holder k t = record t { nodes = with_node serial (uncounted holder k) t.nodes }

pub drop_kept : (p : Fields) → IsPeer p → (serial holder k clock : ℕ) → 1 ≤ count_of (node_in p.nodes.nodes serial) holder → IsPeer (record p { clock = clock; nodes = detached serial holder k p.nodes })
drop_kept p peer serial holder k clock some = record {
  ok = node_dropped p.me p.nodes.nodes p.store.slices p.mail.queue p.handles.records peer.ok serial holder k some;
  room = subst (λ n. IsRoom p.mail.queue n p.handles.records p.mail.spare p.dead.room p.dead.singles (count_at p.dead.stacks)) (sym (length-set p.nodes.nodes serial (uncounted holder k (node_in p.nodes.nodes serial)))) peer.room;
  contents = peer.contents;
  stored = peer.stored;
  owner = peer.owner;
  among = peer.among;
  few = peer.few;
}

-- ---- a release notice comes in

pub release_put : (p : Fields) → IsPeer p → (k : Key) (serial : ℕ) → serial < length p.nodes.nodes → is_live (node_in p.nodes.nodes serial).state ≡ true → is_unheld (node_in p.nodes.nodes serial) ≡ true → count (is_notice_of serial) p.mail.queue ≡ 0 → IsPeer (record p { mail = with_entry k (ReleaseNotice serial) p.mail })
release_put p peer k serial made live unheld none = record {
  ok = notice_put p.me p.nodes.nodes p.store.slices p.mail.queue p.handles.records peer.ok k (ReleaseNotice serial) refl (λ node. refl) (made, live, unheld);
  room = room_notice_put p.mail.queue (length p.nodes.nodes) p.handles.records p.mail.spare p.dead.room p.dead.singles (count_at p.dead.stacks) peer.room k (ReleaseNotice serial) serial refl (eq-eqb serial serial refl) made none;
  contents = all_put (ContentOk p.store.bytes) k (ReleaseNotice serial) p.mail.queue tt peer.contents;
  stored = peer.stored;
  owner = peer.owner;
  among = peer.among;
  few = peer.few;
}

-- ---- a drop that leaves a live node without references

both_true : (a b : Bool) → (a && b) ≡ true → (a ≡ true) × (b ≡ true)
both_true true b is = (refl, is)
both_true false b is = absurd (cc is)

release_is_notice : (serial : ℕ) (f : Key × Entry) → is_release_notice serial f ≡ true → is_notice_of serial f ≡ true
release_is_notice serial (k, Message origin user index dest offset len carries slots hs payload) is = absurd (cc is)
release_is_notice serial (k, OwnNotice mine index) is = absurd (cc is)
release_is_notice serial (k, ForeignNotice node index) is = absurd (cc is)
release_is_notice serial (k, ReleaseNotice mine) is = is

-- what holds where the node's release notice is due: it has none yet, and there is room
pub record IsDue (p : Fields) (serial holder k : ℕ) : Type 0 where
  pub live : is_live (node_in (detached serial holder k p.nodes).nodes serial).state ≡ true
  pub unheld : is_unheld (node_in (detached serial holder k p.nodes).nodes serial) ≡ true
  pub none : count (is_notice_of serial) p.mail.queue ≡ 0
  pub spare : 1 ≤ p.mail.spare

pub is_due : (p : Fields) → IsPeer p → (serial holder k : ℕ) (nodes : Nodes) (r : Bool) → serial < length p.nodes.nodes → 1 ≤ count_of (node_in p.nodes.nodes serial) holder → nodes ≡ detached serial holder k p.nodes → r ≡ (is_live (node_in nodes.nodes serial).state && is_unheld (node_in nodes.nodes serial)) → r ≡ true → IsDue p serial holder k
is_due p peer serial holder k nodes r made some is tells so =
    let both = both_true _ _ (subst (λ t. (is_live (node_in t.nodes serial).state && is_unheld (node_in t.nodes serial)) ≡ true) is (sym tells ∙ so)) in
    let was : is_live (node_in p.nodes.nodes serial).state ≡ true = ap (λ n. is_live n.state) (sym (own_node serial (uncounted holder k) p.nodes.nodes made)) ∙ both.0 in
    let none : count (is_notice_of serial) p.mail.queue ≡ 0 = none_count (is_notice_of serial) p.mail.queue (none_queued p.me p.nodes.nodes p.store.slices p.mail.queue p.handles.records peer.ok serial holder k some was) in
    record {
      live = both.0;
      unheld = both.1;
      none = none;
      spare = room_for_notice p.mail.queue (length p.nodes.nodes) p.handles.records p.mail.spare p.dead.room p.dead.singles (count_at p.dead.stacks) peer.room (record { stamp = 0; origin = 0; index = 0 }) (ReleaseNotice serial) serial refl (eq-eqb serial serial refl) made none;
    }

-- where none passes none is found
pub none_to_find : (test : Key × Entry → Bool) (queue : Queue) → ((f : Key × Entry) → Has queue f → test f ≡ false) → find test queue ≡ None
none_to_find test [] none = refl
none_to_find test (f ∷ rest) none = rw (none f (inl refl)) (none_to_find test rest (λ g h. none g (inr h)))

-- no release notice is found
pub no_release_found : (serial : ℕ) (queue : Queue) → count (is_notice_of serial) queue ≡ 0 → find (is_release_notice serial) queue ≡ None
no_release_found serial queue none = none_to_find (is_release_notice serial) queue (λ f h. at f h (is_release_notice serial f) refl)
  where
    at : (f : Key × Entry) → Has queue f → (b : Bool) → is_release_notice serial f ≡ b → is_release_notice serial f ≡ false
    at f h true e = absurd (cc (sym (count_none (is_notice_of serial) queue none f h) ∙ release_is_notice serial f e))
    at f h false e = e

pub drop_released_kept : (p : Fields) → IsPeer p → (serial holder k clock : ℕ) (key : Key) (nodes : Nodes) (mail : Mail) (r : Bool) → serial < length p.nodes.nodes → 1 ≤ count_of (node_in p.nodes.nodes serial) holder → nodes ≡ detached serial holder k p.nodes → r ≡ (is_live (node_in nodes.nodes serial).state && is_unheld (node_in nodes.nodes serial)) → r ≡ true → mail ≡ with_entry key (ReleaseNotice serial) p.mail → IsPeer (record p { clock = clock; mail = mail; nodes = nodes })
drop_released_kept p peer serial holder k clock key nodes mail r made some is tells so mail_is =
    let due = is_due p peer serial holder k nodes r made some is tells so in
    subst (λ m. IsPeer (record p { clock = clock; mail = m; nodes = nodes })) (sym mail_is)
    (subst (λ t. IsPeer (record p { clock = clock; mail = with_entry key (ReleaseNotice serial) p.mail; nodes = t })) (sym is)
    (release_put (record p { clock = clock; nodes = detached serial holder k p.nodes }) (drop_kept p peer serial holder k clock some) key serial
    (subst (λ n. serial < n) (sym (length-set p.nodes.nodes serial (uncounted holder k (node_in p.nodes.nodes serial)))) made)
    due.live due.unheld due.none))

pub drop_unreleased_kept : (p : Fields) → IsPeer p → (serial holder k clock : ℕ) (nodes : Nodes) → 1 ≤ count_of (node_in p.nodes.nodes serial) holder → nodes ≡ detached serial holder k p.nodes → IsPeer (record p { clock = clock; nodes = nodes })
drop_unreleased_kept p peer serial holder k clock nodes some is = subst (λ t. IsPeer (record p { clock = clock; nodes = t })) (sym is) (drop_kept p peer serial holder k clock some)
