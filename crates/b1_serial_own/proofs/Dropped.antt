-- A drop at a node's owner, as the serial bus shows it.
use Rattle.std.proofs.Common.{◌≡◌, ◌≢◌, refl, sym, ap, ◌∙◌, subst, inl, inr, ℕ, zero, suc, ◌+◌, ◌<◌, ◌≤◌, ◌==◌, max, Bool, true, false, cond, ◌||◌, ◌&&◌, not, List, [], ◌∷◌, length, get_or, map, Some, None, is_none, is_some, arith}
use Rattle.std.specs.Prelude.{slice_get}
use Rattle.std.specs.List.{list_any}
use Rattle.std.proofs.lemmas.Bool.{eq-eqb, eqb-true, false_from_ne_true}
use Rattle.b1_model.specs.declared.naming.Key.{Key}
use Rattle.b1_model.specs.declared.naming.NodeRef.{NodeRef}
use Rattle.b1_model.specs.declared.naming.Opening.{Opening}
use Rattle.b1_model.specs.declared.parts.NodeState.{NodeState}
use Rattle.b1_model.specs.declared.parts.NodeState.TheVariants.{Live, Dying, Destroyed}
use Rattle.b1_model.specs.declared.entries.Entry.{Entry}
use Rattle.b1_model.specs.declared.entries.Entry.TheVariants.{Message, OwnNotice, ForeignNotice, ReleaseNotice}
use Rattle.b1_model.specs.declared.events.Doing.{Doing}
use Rattle.b1_model.specs.declared.events.OwedDrop.{OwedDrop}
use Rattle.b1_model.specs.declared.events.Action.TheVariants as act
use Rattle.b1_model.specs.MachineParts.{PeerPart, DriverPart, NodePart, State, is_release_notice, is_live, is_dying, node_at, no_node, no_origin}
use Rattle.b1_model.specs.MachineTables.{put, without, uncounted, count_of}
use Rattle.b1_model.specs.MachineReceive.{dropped_refs, with_release_notice, is_released, dropped}
use Rattle.b1_model.specs.MachineCounts.{driver_amount, owed_amount}
use Rattle.b1_model.specs.MachineDriver.{next_action}
use Rattle.b1_model.specs.MachineStep.{Step}
use Rattle.b1_step.specs.Rights.{Has}
use Rattle.b1_step.proofs.Lists.{map_set}
use Rattle.b1_step.proofs.Orders.{same_ref_itself}
use Rattle.b1_step.proofs.Queues.{any_put}
use Rattle.b1_inv.specs.Words.{IsPeer, IsDriver, fixed_stamp}
use Rattle.b1_inv.specs.References.{count_in}
use Rattle.b1_inv.specs.Sound.{IsSound}
use Rattle.b1_inv_record.specs.Right.{IsRight}
use Rattle.b1_inv_refs.proofs.Amounts.{owed_cons}
use Rattle.b1_inv_refs.proofs.Counting.{member_le}
use Rattle.b1_inv_tools.proofs.Facts.{next_owed}
use Rattle.b1_serial_bus.specs.Parts.{Part, Bus, at_peer, key_of}
use Rattle.b1_serial_bus.specs.Named.{line_of}
use Rattle.b1_serial_bus.specs.Lives.{destroyed_at}
use Rattle.b1_serial_bus.specs.References.{has_slot, refers, is_abroad}
use Rattle.b1_serial_bus.specs.GivenUp.{noticed}
use Rattle.b1_serial_rest.specs.Standing.{stamp_of, own_of, part_of, bus_of}
use Rattle.b1_serial_own.proofs.Shows.{elsewhere_shows}
use Rattle.b1_serial_own.proofs.Moved.{Moved, moved_at, moved_peer, further_moved}
use Rattle.b1_serial_own.proofs.Abroad.{zero_at}

-- ---- queues

-- a queue from which nothing leaves
pub without_none : (test : Key × Entry → Bool) (queue : List (Key × Entry)) → ((f : Key × Entry) → Has queue f → test f ≡ false) → without test queue ≡ queue
without_none test [] none = refl
without_none test (f ∷ rest) none = ap (λ b. cond (not b) (f ∷ without test rest) (without test rest)) (none f (inl refl)) ∙ ap (λ q. f ∷ q) (without_none test rest (λ g there. none g (inr there)))

-- what leaves passes no other test
pub any_left : (test leaves : Key × Entry → Bool) (queue : List (Key × Entry)) → ((f : Key × Entry) → leaves f ≡ true → test f ≡ false) → list_any test (without leaves queue) ≡ list_any test queue
any_left test leaves [] none = refl
any_left test leaves (f ∷ rest) none = by (any_left test leaves rest none) (leaves f) refl
  where
    by : list_any test (without leaves rest) ≡ list_any test rest → (b : Bool) → leaves f ≡ b → list_any test (cond (not b) (f ∷ without leaves rest) (without leaves rest)) ≡ test f || list_any test rest
    by further true goes = further ∙ sym (ap (λ b. b || list_any test rest) (none f goes))
    by further false stays = ap (λ b. test f || b) further

pub notice_is : (serial : ℕ) (f : Key × Entry) → is_release_notice serial f ≡ true → f ≡ (f.0, ReleaseNotice serial)
notice_is serial (k, Message origin user index dest offset len nodes slots handles payload) is = absurd (cc is)
notice_is serial (k, OwnNotice mine index) is = absurd (cc is)
notice_is serial (k, ForeignNotice node index) is = absurd (cc is)
notice_is serial (k, ReleaseNotice mine) is = ap (λ n. (k, ReleaseNotice n)) (eqb-true mine serial is)

-- a release notice has no slots
slotless : (x : NodeRef) (serial : ℕ) (f : Key × Entry) → is_release_notice serial f ≡ true → has_slot x f ≡ false
slotless x serial f is = ap (has_slot x) (notice_is serial f is)

-- ---- the bus where a release notice comes

-- what a release notice leaves of who refers to a node
pub noticed_refers : (x : NodeRef) (b : Bool) (serial : ℕ) (y : Part) → refers x (noticed b serial y) ≡ refers x y
noticed_refers x false serial y = refl
noticed_refers x true serial y =
    ap (λ b. is_some (line_of x y.lines) || b)
    (any_put (has_slot x) (key_of y.clock no_origin serial) (ReleaseNotice serial) (without (is_release_notice serial) y.box) ∙ any_left (has_slot x) (is_release_notice serial) y.box (slotless x serial))

pub abroad_at : (x : NodeRef) (g : Part → Part) (q : ℕ) (bus : Bus) → ((y : Part) → refers x (g y) ≡ refers x y) → is_abroad x (at_peer q g bus) ≡ is_abroad x bus
abroad_at x g q [] same = refl
abroad_at x g zero (y ∷ ys) same = ap (λ b. b || is_abroad x ys) (same y)
abroad_at x g (suc q) (y ∷ ys) same = ap (λ b. refers x y || b) (abroad_at x g q ys same)

-- ---- the owner's part

pub stamp_at : (nodes : List NodePart) (serial : ℕ) → serial < length nodes → elim (slice_get (map own_of nodes) serial) [ None ↦ None | Some n ↦ n.destroyed ] ≡ stamp_of (get_or nodes serial no_node).state
stamp_at [] serial less = absurd (omega (arith, less))
stamp_at (n ∷ rest) zero less = refl
stamp_at (n ∷ rest) (suc serial) less = stamp_at rest serial (omega (arith, less))

live_stamp : (state : NodeState) → is_dying state ≡ false → is_live state ≡ is_none (stamp_of state)
live_stamp Live alive = refl
live_stamp Dying alive = absurd (cc alive)
live_stamp (Destroyed stamp) alive = refl

-- a node that isn't dying is live where it has no stamp
pub live_is : (v : PeerPart) (e : DriverPart) (serial : ℕ) → serial < length v.nodes → is_dying (node_at v serial).state ≡ false → is_live (node_at v serial).state ≡ is_none (destroyed_at (part_of v e) serial)
live_is v e serial made alive = live_stamp (node_at v serial).state alive ∙ ap is_none (sym (stamp_at v.nodes serial made))

module _ (w : PeerPart) (e : DriverPart) (serial holder k clock : ℕ) where
  abbrev pub after : PeerPart
  after = dropped_refs w serial holder k clock

  pub nodes_shown : map own_of after.nodes ≡ map own_of w.nodes
  nodes_shown = map_set own_of w.nodes serial (uncounted holder k (get_or w.nodes serial no_node)) no_node refl

  -- where the notice is new
  part_by : (b : Bool) → without (is_release_notice serial) w.queue ≡ w.queue → part_of (with_release_notice b after serial) e ≡ noticed b serial (record (part_of w e) { clock = max w.clock clock })
  part_by false new = ap (λ nodes. record (part_of w e) { clock = max w.clock clock; nodes = nodes }) nodes_shown
  part_by true new =
      ap (λ nodes. record (part_of w e) { clock = max w.clock clock; nodes = nodes; box = put (key_of (max w.clock clock) no_origin serial) (ReleaseNotice serial) w.queue }) nodes_shown
      ∙ ap (λ q. record (part_of w e) { clock = max w.clock clock; box = put (key_of (max w.clock clock) no_origin serial) (ReleaseNotice serial) q }) (sym new)

  pub dropped_shown : without (is_release_notice serial) w.queue ≡ w.queue → part_of (dropped w serial holder k clock) e ≡ noticed (is_released after serial) serial (record (part_of w e) { clock = max w.clock clock })
  dropped_shown new = part_by (is_released after serial) new

  nodes_by : (b : Bool) → (with_release_notice b after serial).nodes ≡ after.nodes
  nodes_by true = refl
  nodes_by false = refl

  pub dropped_nodes : map own_of (dropped w serial holder k clock).nodes ≡ map own_of w.nodes
  dropped_nodes = ap (map own_of) (nodes_by (is_released after serial)) ∙ nodes_shown

  -- the notice changes no node
  pub dropped_node : node_at (dropped w serial holder k clock) serial ≡ node_at after serial
  dropped_node = ap (λ nodes. get_or nodes serial no_node) (nodes_by (is_released after serial))

-- ---- the step

module _ {o : Opening} {s : State} {p : ℕ} {t : State} (sound : IsSound o s) (right : IsRight o s) (step : Step o s p None t)
    (doing : Doing) (is_open : step.driver.doing ≡ Some doing) (one : OwedDrop) (rest : List OwedDrop) (owed : step.driver.owed ≡ one ∷ rest)
    (unfixed : fixed_stamp step.driver ≡ None) (x : PeerPart) (is_x : IsPeer s p x) where
  m : Moved o step.driver step.peer doing.command doing.phase step.at step.new_driver step.new_peer
  m = further_moved step doing is_open

  next : next_action m.e ≡ act.DropRefs one.node.owner one.node.serial one.holder one.amount one.clock
  next = next_owed m.e doing one rest m.is_open (m.owed ∙ owed)

  pub drop_at : step.at ≡ one.node.owner
  drop_at = moved_at m (act.DropRefs one.node.owner one.node.serial one.holder one.amount one.clock) next

  pub drop_peer : step.new_peer ≡ dropped step.peer one.node.serial one.holder one.amount one.clock
  drop_peer = moved_peer m (act.DropRefs one.node.owner one.node.serial one.holder one.amount one.clock) next

  there : Has step.driver.owed one
  there = subst (λ l. Has l one) (sym owed) (inl refl)

  -- the drop is for the driver's own peer, so another one is the owner
  pub holder_is : one.holder ≡ p
  holder_is = (right.clocks.owed.own p step.driver x one step.is_driver is_x there unfixed).0

  pub owner_apart : step.at ≢ p
  owner_apart same = (sound.references.owed p step.driver one step.is_driver there).other (holder_is ∙ sym same ∙ drop_at)

  owner_there : IsPeer s one.node.owner step.peer
  owner_there = ap (slice_get s.peers) (sym drop_at) ∙ step.is_peer

  -- the owner counts the reference still
  counted : 1 ≤ count_in s one.node one.holder
  counted =
      let some = (sound.references.owed p step.driver one step.is_driver there).some in
      let owes : owed_amount one.node one.holder step.driver.owed ≡ one.amount + owed_amount one.node one.holder rest =
      ap (owed_amount one.node one.holder) owed ∙ owed_cons one.node one.holder one rest
      ∙ ap (λ b. cond b one.amount 0 + owed_amount one.node one.holder rest) (ap (λ b. b && (one.holder == one.holder)) (same_ref_itself one.node) ∙ eq-eqb one.holder one.holder refl) in
      let within = member_le (driver_amount one.node one.holder) s.drivers p step.driver step.is_driver in
      let same = sound.references.counts one.node one.holder in
      omega (arith, some, owes, within, same)

  count_is : count_in s one.node one.holder ≡ count_of (node_at step.peer one.node.serial) one.holder
  count_is = ap (λ r. elim r [ None ↦ 0 | Some v ↦ count_of (node_at v one.node.serial) one.holder ]) owner_there

  -- so that no release notice of the node is queued
  pub none_queued : (f : Key × Entry) → Has step.peer.queue f → is_release_notice one.node.serial f ≡ false
  none_queued f queued = false_from_ne_true (is_release_notice one.node.serial f) never
    where
      never : is_release_notice one.node.serial f ≡ true → ⊥
      never is =
          let unheld = right.parts.releases.unheld one.node.owner one.node.serial step.peer f.0 owner_there (subst (Has step.peer.queue) (notice_is one.node.serial f is) queued) in
          let none = zero_at (node_at step.peer one.node.serial).counts one.holder unheld in
          let some = counted in
          let same = count_is in
          absurd (omega (arith, none, some, same))

  -- whether the release notice comes
  abbrev pub comes : Bool
  comes = is_released (dropped_refs step.peer one.node.serial one.holder one.amount one.clock) one.node.serial

  -- the bus after it
  pub drop_shows : (f : Part → Part) (e : DriverPart) → IsDriver s one.node.owner e → f (part_of x step.driver) ≡ part_of x step.new_driver
      → bus_of t ≡ at_peer one.node.owner (λ z. noticed comes one.node.serial (record z { clock = max z.clock one.clock })) (at_peer p f (bus_of s))
  drop_shows f e is_e same =
      elsewhere_shows step f (λ z. noticed comes one.node.serial (record z { clock = max z.clock one.clock })) x e is_x (ap (slice_get s.drivers) drop_at ∙ is_e) owner_apart same
      (sym (dropped_shown step.peer e one.node.serial one.holder one.amount one.clock (without_none (is_release_notice one.node.serial) step.peer.queue none_queued)) ∙ ap (λ z. part_of z e) (sym drop_peer))
      ∙ ap (λ q. at_peer q (λ z. noticed comes one.node.serial (record z { clock = max z.clock one.clock })) (at_peer p f (bus_of s))) drop_at
