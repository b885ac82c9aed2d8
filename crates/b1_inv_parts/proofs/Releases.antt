-- Release notices through one event: of live nodes that nobody has a reference to, one of a node at most.
use Rattle.std.proofs.Common.{◌≡◌, ◌≢◌, refl, sym, ap, ◌∙◌, inl, inr, subst, arith, ℕ, ◌+◌, ◌<◌, ◌≤◌, ◌==◌, max, Bool, true, false, ◌&&◌, not, List, [], ◌∷◌, drop, fold, filter, length, get_or, Option, Some, None, ◌⊎◌}
use Rattle.std.specs.Prelude.{⊤}
use Rattle.std.proofs.lemmas.Bool.{eq-eqb, and_parts}
use Rattle.b1_model.specs.declared.naming.Key.{Key}
use Rattle.b1_model.specs.declared.naming.Opening.{Opening}
use Rattle.b1_model.specs.declared.commands.SendCmd.{SendCmd}
use Rattle.b1_model.specs.declared.parts.Attach.{Attach}
use Rattle.b1_model.specs.declared.parts.Attach.TheVariants as attach
use Rattle.b1_model.specs.declared.parts.NodeState.TheVariants.{Dying, Destroyed}
use Rattle.b1_model.specs.declared.answers.Reason.{Reason}
use Rattle.b1_model.specs.declared.entries.Entry.{Entry}
use Rattle.b1_model.specs.declared.entries.Entry.TheVariants.{Message, OwnNotice, ForeignNotice, ReleaseNotice}
use Rattle.b1_model.specs.declared.events.Action.{Action}
use Rattle.b1_model.specs.declared.events.Action.TheVariants as act
use Rattle.b1_model.specs.declared.events.Doing.{Doing}
use Rattle.b1_model.specs.Names.{is_own}
use Rattle.b1_model.specs.MachineParts.{PeerPart, DriverPart, NodePart, no_node, no_origin, node_at, is_live, is_data, is_staged, is_release_notice}
use Rattle.b1_model.specs.MachineTables.{without, is_stage, is_staged_notice, is_unheld, count_of, uncounted, counted, notice_taken, with_made}
use Rattle.b1_model.specs.MachineSend.{send_refusal, attach_answer, attached_by, final_stamp}
use Rattle.b1_model.specs.MachineReceive.{discards, cleared, taken_entry, front_by, front_taken, received_part, with_release_notice, is_released, dropped_refs}
use Rattle.b1_model.specs.MachineDestroy.{with_own_notices, doom_by}
use Rattle.b1_model.specs.MachineDriver.{send_of}
use Rattle.b1_model.specs.MachineOrder.{is_any_release_notice}
use Rattle.b1_model.specs.MachineEvents.{happens, begin_by, destroy_by, begin_refusal, begin_serials, collected_of, doomed_of, slots_at}
use Rattle.b1_step.specs.Rights.{Has}
use Rattle.b1_step.proofs.Changed.{changes}
use Rattle.b1_step.proofs.Orders.{find_has}
use Rattle.b1_step.proofs.Queues.{put_has}
use Rattle.b1_inv_tools.proofs.Comes.{Comes, queue_comes, without_fails}
use Rattle.b1_inv_notices.proofs.Nodes.{undoomed_state}
use Rattle.b1_inv_peer.proofs.Entries.{data_committed}
use Rattle.b1_inv_peer.proofs.NodeEvents.{SameNode, made_length, node_changed, other_node, held_by_some}
use Rattle.b1_inv_refs.proofs.Arrivals.{all_removed, slots_rest}
use Rattle.b1_inv_refs.proofs.Peers.{stage_is_message}
use Rattle.b1_inv_parts.proofs.Serials.{live_made}

-- what is so of one part
pub record ReleasesOk (x : PeerPart) : Type 0 where
  pub live : (serial : ℕ) (k : Key) → Has x.queue (k, ReleaseNotice serial) → is_live (node_at x serial).state ≡ true
  pub unheld : (serial : ℕ) (k : Key) → Has x.queue (k, ReleaseNotice serial) → is_unheld (node_at x serial) ≡ true
  pub once : (serial : ℕ) (k l : Key) → Has x.queue (k, ReleaseNotice serial) → Has x.queue (l, ReleaseNotice serial) → k ≡ l

-- what an event needs: a drop is of references that are counted, the nodes that a destruction stamps aren't live, and no release notice is staged
abbrev pub Fits : Doing → PeerPart → Action → Type 0
Fits doing x (act.DropRefs peer serial holder n clock) = 1 ≤ count_of (node_at x serial) holder
Fits doing x act.StampDestroy = (serial : ℕ) → Has (doomed_of doing.phase) serial → is_live (node_at x serial).state ≡ false
Fits doing x (act.CommitNotices peer stamp) = (k : Key) (serial : ℕ) → Has x.queue (k, ReleaseNotice serial) → is_staged (k, ReleaseNotice serial) ≡ false
Fits doing x action = ⊤

-- ---- which events bring one

-- a drop that leaves nobody with a reference
abbrev pub NewRelease : PeerPart → Action → Key → ℕ → Type 0
NewRelease x (act.DropRefs peer serial holder n clock) k mine = (k ≡ record { stamp = max x.clock clock; origin = no_origin; index = serial }) × (mine ≡ serial) × (is_released (dropped_refs x serial holder n clock) serial ≡ true)
NewRelease x action k mine = ⊥

-- the serial of a release notice
abbrev released_serial : Entry → ℕ
released_serial (Message origin user index serial offset len nodes slots handles payload) = 0
released_serial (OwnNotice serial index) = 0
released_serial (ForeignNotice node index) = 0
released_serial (ReleaseNotice serial) = serial

staged_bit : (origin : ℕ) (f : Key × Entry) → is_staged_notice origin f ≡ true → is_staged f ≡ true
staged_bit origin f is = (and_parts (not (is_data f.1)) (is_staged f) (and_parts (not (is_data f.1) && is_staged f) (f.0.origin == origin) is).0).1

module _ (o : Opening) (d : DriverPart) (doing : Doing) (x : PeerPart) (k : Key) (mine : ℕ) where
  pub new_release : (action : Action) → Fits doing x action → Comes o d doing x action (k, ReleaseNotice mine) → NewRelease x action k mine
  new_release (act.Stage peer place) fits same = absurd (cc (ap (λ f. is_data f.1) same))
  new_release (act.Commit peer place stamp) fits (g, is, same) =
      let message : is_data g.1 ≡ true = stage_is_message d.me place g (find_has (is_stage d.me place) x.queue g is).1 in
      let there : false ≡ true = ap (λ f. is_data f.1) same ∙ data_committed (slots_at doing.phase place) g.1 ∙ message in
      absurd (cc there)
  new_release (act.CommitNotices peer stamp) fits (g, has, passes, same) =
      let entry : ReleaseNotice mine ≡ g.1 = ap (λ f. f.1) same in
      let calm : is_staged g ≡ false = fits g.0 mine (subst (λ e. Has x.queue (g.0, e)) (sym entry) has) in
      absurd (cc (sym calm ∙ staged_bit d.me g passes))
  new_release (act.DropRefs peer serial holder n clock) fits (same, due) = (ap (λ f. f.0) same, ap (λ f. released_serial f.1) same, due)
  new_release act.BeginDestroy fits (index, serial, is, same, none) = absurd (cc (ap is_any_release_notice same))
  new_release (act.Visit peer) fits (index, serial, is, same) = absurd (cc (ap is_any_release_notice same))
  new_release action fits c = absurd c

-- ---- nodes of release notices that stay

same_node : (n : NodePart) → SameNode n n
same_node n = (refl, refl)

node_is : (n m : NodePart) → n ≡ m → SameNode n m
node_is n m same = subst (SameNode n) same (same_node n)

all_made_stay : (peers : ℕ) (numbers : List ℕ) (nodes : List NodePart) (serial : ℕ) → serial < length nodes → get_or (fold (λ ns number. with_made peers number ns) nodes numbers) serial no_node ≡ get_or nodes serial no_node
all_made_stay peers [] nodes serial within = refl
all_made_stay peers (number ∷ rest) nodes serial within =
    let one = made_length peers number nodes in
    all_made_stay peers rest (with_made peers number nodes) serial (omega (arith, one.0, within)) ∙ one.1 serial within

at_begin : (r : Option Reason) (memory : Bool) (c : SendCmd) (x : PeerPart) (serial : ℕ) → serial < length x.nodes → SameNode (node_at (begin_by r memory c x).1 serial) (node_at x serial)
at_begin (Some r) memory c x serial within = same_node (node_at x serial)
at_begin None true c x serial within = same_node (node_at x serial)
at_begin None false c x serial within = node_is _ _ (all_made_stay x.peers (filter is_own c.with) x.nodes serial within)

module _ (k : Key) (serial : ℕ) where
  -- the notice is of another node than those whose notices left
  apart_from : (t : ℕ) (queue : List (Key × Entry)) → Has (without (is_release_notice t) queue) (k, ReleaseNotice serial) → serial ≢ t
  apart_from t queue h same = absurd (cc (sym (without_fails (is_release_notice t) queue (k, ReleaseNotice serial) h).1 ∙ eq-eqb serial t same))

  at_attach : (a : Attach) (x : PeerPart) (t dest : ℕ) → Has (attached_by a x t dest).queue (k, ReleaseNotice serial) → SameNode (node_at (attached_by a x t dest) serial) (node_at x serial)
  at_attach attach.Counted x t dest h = node_is _ _ (other_node serial t (counted dest) x.nodes (apart_from t x.queue h))
  at_attach attach.Own x t dest h = same_node (node_at x serial)
  at_attach (attach.Void stamp) x t dest h = same_node (node_at x serial)

  undoomed : (x : PeerPart) (index : ℕ) (doomed : List ℕ) (queue : List (Key × Entry)) → Has (with_own_notices x index doomed queue) (k, ReleaseNotice serial) → Has queue (k, ReleaseNotice serial) × (Has doomed serial → ⊥)
  undoomed x index [] queue h = (h, λ none. none)
  undoomed x index (t ∷ rest) queue h =
      let further = undoomed x (index + 1) rest _ h in
      elim (put_has _ _ (without (is_release_notice t) queue) (k, ReleaseNotice serial) further.0) [
        | inl new ↦ absurd (cc (ap is_any_release_notice new))
        | inr old ↦ ((without_fails (is_release_notice t) queue (k, ReleaseNotice serial) old).0, λ there. elim there [ inl same ↦ apart_from t queue old same | inr later ↦ further.1 later ])
      ]

  at_destroy : (r : Option Reason) (doomed : List ℕ) (x : PeerPart) → Has (destroy_by r doomed x).1.queue (k, ReleaseNotice serial) → SameNode (node_at (destroy_by r doomed x).1 serial) (node_at x serial)
  at_destroy (Some r) doomed x h = same_node (node_at x serial)
  at_destroy None doomed x h = node_is _ _ (undoomed_state Dying doomed x.nodes serial (undoomed x 0 doomed x.queue h).1)

at_doom : (late : List ℕ) (x : PeerPart) (collected : ℕ) (doomed : List ℕ) (serial : ℕ) → (Has doomed serial → ⊥) → SameNode (node_at (doom_by late x collected doomed) serial) (node_at x serial)
at_doom [] x collected doomed serial none = node_is _ _ (undoomed_state (Destroyed (final_stamp x collected)) doomed x.nodes serial none)
at_doom (peer ∷ rest) x collected doomed serial none = same_node (node_at x serial)

pub drop_node : (b : Bool) (x : PeerPart) (t serial : ℕ) → node_at (with_release_notice b x t) serial ≡ node_at x serial
drop_node true x t serial = refl
drop_node false x t serial = refl

-- ---- a RECV changes of a node only that its notice was taken

module _ (serial : ℕ) where
  nodes_are : (ns ms : List NodePart) → ns ≡ ms → SameNode (get_or ns serial no_node) (get_or ms serial no_node)
  nodes_are ns ms same = node_is _ _ (ap (λ l. get_or l serial no_node) same)

  at_taken : (e : Entry) (k : Key) (x : PeerPart) → serial < length x.nodes → SameNode (node_at (taken_entry x k e).1 serial) (node_at x serial)
  at_taken (Message origin user index t offset len nodes slots handles payload) k x within = nodes_are _ x.nodes (slots_rest nodes slots _).nodes
  at_taken (OwnNotice t index) k x within = node_changed serial t notice_taken x.nodes within SameNode same_node (refl, refl)
  at_taken (ForeignNotice node index) k x within = same_node (node_at x serial)
  at_taken (ReleaseNotice t) k x within = same_node (node_at x serial)

  at_front : (b : Bool) (x : PeerPart) (f : Key × Entry) (rest : List (Key × Entry)) → serial < length x.nodes → SameNode (node_at (front_by b x f rest).1 serial) (node_at x serial)
  at_front true x f rest within = same_node (node_at x serial)
  at_front false x f rest within = at_taken f.1 f.0 (record x { queue = rest }) within

  at_front_taken : (queue : List (Key × Entry)) (x : PeerPart) → serial < length x.nodes → SameNode (node_at (front_taken x queue).1 serial) (node_at x serial)
  at_front_taken [] x within = same_node (node_at x serial)
  at_front_taken (f ∷ rest) x within = at_front (is_staged f) x f rest within

  at_recv : (x : PeerPart) → serial < length x.nodes → SameNode (node_at (received_part x) serial) (node_at x serial)
  at_recv x within =
      let same : (cleared x).nodes ≡ x.nodes = (all_removed (discards x) (record x { queue = drop (length (discards x)) x.queue })).nodes in
      let further = at_front_taken (cleared x).queue (cleared x) (subst (λ ns. serial < length ns) (sym same) within) in
      let old = nodes_are (cleared x).nodes x.nodes same in
      (further.0 ∙ old.0, further.1 ∙ old.1)

-- ---- one event

module _ (o : Opening) (memory : Bool) (d : DriverPart) (doing : Doing) (x : PeerPart) (ok : ReleasesOk x) where
  abbrev after : Action → PeerPart
  after action = (happens o memory d doing action x).1

  module _ (k : Key) (serial : ℕ) (was : Has x.queue (k, ReleaseNotice serial)) where
    within : serial < length x.nodes
    within = live_made x serial (ok.live serial k was)

    same_nodes : (action : Action) → (after action).nodes ≡ x.nodes → SameNode (node_at (after action) serial) (node_at x serial)
    same_nodes action same = nodes_are serial (after action).nodes x.nodes same

    -- a drop of its references isn't possible
    not_dropped : (t holder : ℕ) → 1 ≤ count_of (node_at x t) holder → serial ≢ t
    not_dropped t holder some same =
        let unheld : is_unheld (node_at x t) ≡ true = subst (λ s. is_unheld (node_at x s) ≡ true) same (ok.unheld serial k was) in
        absurd (cc (sym unheld ∙ held_by_some (node_at x t) holder some))

    stays_node : (action : Action) → Fits doing x action → Has (after action).queue (k, ReleaseNotice serial) → SameNode (node_at (after action) serial) (node_at x serial)
    stays_node act.Begin fits h = at_begin (send_refusal x (send_of doing.command)) memory _ x serial within
    stays_node (act.Attach peer t dest) fits h = at_attach k serial (attach_answer x t dest) x t dest h
    stays_node act.Recv fits h = at_recv serial x within
    stays_node (act.DropRefs peer t holder n clock) fits h =
        node_is _ _ (drop_node (is_released (dropped_refs x t holder n clock) t) (dropped_refs x t holder n clock) t serial ∙ other_node serial t (uncounted holder n) x.nodes (not_dropped t holder fits))
    stays_node act.BeginDestroy fits h = at_destroy k serial (begin_refusal doing.command x) (begin_serials doing.command x) x h
    stays_node act.StampDestroy fits h = at_doom x.late x (collected_of doing.phase) (doomed_of doing.phase) serial (λ doomed. absurd (cc (sym (ok.live serial k was) ∙ fits serial doomed)))
    stays_node act.Rest fits h = same_nodes act.Rest refl
    stays_node (act.Stage peer place) fits h = same_nodes (act.Stage peer place) (ap (λ y. y.nodes) (changes o memory d doing (act.Stage peer place) x))
    stays_node (act.Unstage peer place) fits h = same_nodes (act.Unstage peer place) (ap (λ y. y.nodes) (changes o memory d doing (act.Unstage peer place) x))
    stays_node act.Stamp fits h = same_nodes act.Stamp refl
    stays_node (act.Sync peer stamp) fits h = same_nodes (act.Sync peer stamp) refl
    stays_node (act.Commit peer place stamp) fits h = same_nodes (act.Commit peer place stamp) (ap (λ y. y.nodes) (changes o memory d doing (act.Commit peer place stamp) x))
    stays_node (act.CommitNotices peer stamp) fits h = same_nodes (act.CommitNotices peer stamp) refl
    stays_node act.Reap fits h = same_nodes act.Reap refl
    stays_node act.Release fits h = same_nodes act.Release (ap (λ y. y.nodes) (changes o memory d doing act.Release x))
    stays_node (act.Visit peer) fits h = same_nodes (act.Visit peer) (ap (λ y. y.nodes) (changes o memory d doing (act.Visit peer) x))
    stays_node act.Flush fits h = same_nodes act.Flush refl
    stays_node act.Local fits h = same_nodes act.Local (ap (λ y. y.nodes) (changes o memory d doing act.Local x))

  -- a notice that comes
  new_node : (action : Action) (k : Key) (serial : ℕ) → NewRelease x action k serial → (is_live (node_at (after action) serial).state ≡ true) × (is_unheld (node_at (after action) serial) ≡ true)
  new_node (act.DropRefs peer t holder n clock) k serial (key, same, due) =
      let both = and_parts (is_live (node_at (dropped_refs x t holder n clock) t).state) (is_unheld (node_at (dropped_refs x t holder n clock) t)) due in
      let node : node_at (after (act.DropRefs peer t holder n clock)) serial ≡ node_at (dropped_refs x t holder n clock) t = drop_node (is_released (dropped_refs x t holder n clock) t) (dropped_refs x t holder n clock) t serial ∙ ap (node_at (dropped_refs x t holder n clock)) same in
      (ap (λ m. is_live m.state) node ∙ both.0, ap is_unheld node ∙ both.1)
  new_node action k serial new = absurd new

  -- no notice of its node was there
  new_alone : (action : Action) (k l : Key) (serial : ℕ) → Fits doing x action → Has x.queue (k, ReleaseNotice serial) → NewRelease x action l serial → ⊥
  new_alone (act.DropRefs peer t holder n clock) k l serial fits was (key, same, due) = not_dropped k serial was t holder fits same
  new_alone action k l serial fits was new = absurd new

  new_same : (action : Action) (k l : Key) (serial : ℕ) → NewRelease x action k serial → NewRelease x action l serial → k ≡ l
  new_same (act.DropRefs peer t holder n clock) k l serial (key, same, due) (other, too, again) = key ∙ sym other
  new_same action k l serial new other = absurd new

  module _ (action : Action) (fits : Fits doing x action) where
    from : (serial : ℕ) (k : Key) → Has (after action).queue (k, ReleaseNotice serial) → Has x.queue (k, ReleaseNotice serial) ⊎ NewRelease x action k serial
    from serial k h = elim (queue_comes o d doing (k, ReleaseNotice serial) memory action x h) [ inl was ↦ inl was.0 | inr new ↦ inr (new_release o d doing x k serial action fits new) ]

    once_by : (serial : ℕ) (k l : Key) → Has x.queue (k, ReleaseNotice serial) ⊎ NewRelease x action k serial → Has x.queue (l, ReleaseNotice serial) ⊎ NewRelease x action l serial → k ≡ l
    once_by serial k l (inl a) (inl b) = ok.once serial k l a b
    once_by serial k l (inl a) (inr b) = absurd (new_alone action k l serial fits a b)
    once_by serial k l (inr a) (inl b) = absurd (new_alone action l k serial fits b a)
    once_by serial k l (inr a) (inr b) = new_same action k l serial a b

    pub event_releases : ReleasesOk (after action)
    event_releases = record {
      live = λ serial k h. elim (from serial k h) [ inl was ↦ (stays_node k serial was action fits h).0 ∙ ok.live serial k was | inr new ↦ (new_node action k serial new).0 ];
      unheld = λ serial k h. elim (from serial k h) [ inl was ↦ (stays_node k serial was action fits h).1 ∙ ok.unheld serial k was | inr new ↦ (new_node action k serial new).1 ];
      once = λ serial k l h i. once_by serial k l (from serial k h) (from serial l i);
    }
