-- A release notice comes exactly at the drop that leaves nobody with a reference to its live node, and under the owner's clock.
use Rattle.std.proofs.Common.{◌≡◌, ◌≢◌, refl, sym, ap, subst, ◌∙◌, inl, inr, ℕ, ◌<◌, ◌≤◌, ◌==◌, max, Bool, true, false, ◌&&◌, Option}
use Rattle.std.specs.List.{list_any}
use Rattle.std.proofs.lemmas.Bool.{cases_eq, eq-eqb, eqb-true, and_parts}
use Rattle.std.proofs.lemmas.List.{get_or-set_same}
use native.Mathlib.Omega.{arith}
use Rattle.b1_model.specs.declared.commands.Command.{Command}
use Rattle.b1_model.specs.declared.naming.Key.{Key}
use Rattle.b1_model.specs.declared.naming.NodeRef.{NodeRef}
use Rattle.b1_model.specs.declared.naming.Opening.{Opening}
use Rattle.b1_model.specs.declared.entries.Entry.TheVariants.{ReleaseNotice}
use Rattle.b1_model.specs.declared.events.Action.{Action}
use Rattle.b1_model.specs.declared.events.Action.TheVariants as act
use Rattle.b1_model.specs.declared.events.Doing.{Doing}
use Rattle.b1_model.specs.MachineParts.{PeerPart, DriverPart, State, no_node, no_origin, is_live, node_at}
use Rattle.b1_model.specs.MachineTables.{count_of, is_unheld, uncounted}
use Rattle.b1_model.specs.MachineReceive.{with_release_notice, is_released, dropped_refs}
use Rattle.b1_model.specs.MachineDriver.{peer_of}
use Rattle.b1_model.specs.MachineEvents.{happens}
use Rattle.b1_model.specs.MachineCounts.{total, has_release_notice, is_notified, is_live_in, is_drop_of, is_notice_with}
use Rattle.b1_model.specs.MachineStep.{Step}
use Rattle.b1_step.specs.Rights.{Has}
use Rattle.b1_step.proofs.Queues.{has_put_new}
use Rattle.b1_inv.specs.Words.{IsPeer}
use Rattle.b1_inv.specs.Sound.{IsSound}
use Rattle.b1_inv_record.specs.Right.{IsRight, PartsRight}
use Rattle.b1_inv_tools.proofs.Comes.{queue_comes}
use Rattle.b1_inv_tools.proofs.Grows.{step_grows}
use Rattle.b1_inv_tools.proofs.Leaves.{Did, step_did, new_peer}
use Rattle.b1_law.proofs.Reached.{step_sound}
use Rattle.b1_inv_parts.proofs.Kept.{parts_kept}
use Rattle.b1_inv_parts.proofs.Serials.{live_made}
use Rattle.b1_inv_parts.proofs.Releases.{Fits, NewRelease, new_release, drop_node}
use Rattle.b1_inv_parts.proofs.ReleasesKept.{next_fits}
use Rattle.b1_inv_due.proofs.Totals.{unheld_total, total_unheld, held_total}
use Rattle.b1_inv_due.proofs.Notified.{has_any, notice_there, there_notified, notified_by, live_by, notified_elsewhere}

-- ---- one event

-- an event that brings a notice is a drop at its node
drop_is : (node : NodeRef) (x : PeerPart) (key : Key) (me at : ℕ) (action : Action) → at ≡ peer_of me action → node.owner ≡ at → NewRelease x action key node.serial → is_drop_of node action ≡ true
drop_is node x key me at (act.DropRefs peer one holder k clock) is_at here (same, mine, due) =
    ap (λ b. b && (one == node.serial)) (eq-eqb peer node.owner (sym (here ∙ is_at))) ∙ eq-eqb one node.serial (sym mine)
drop_is node x key me at action is_at here new = absurd new

-- that drop is at the node's owner
drop_at : (node : NodeRef) (me at : ℕ) (action : Action) → at ≡ peer_of me action → is_drop_of node action ≡ true → node.owner ≡ at
drop_at node me at (act.DropRefs peer one holder k clock) is_at is = sym (is_at ∙ eqb-true peer node.owner (and_parts (peer == node.owner) (one == node.serial) is).0)
drop_at node me at action is_at is = absurd (cc is)

-- its holder has a reference before
holder_has : (doing : Doing) (x : PeerPart) (key : Key) (serial : ℕ) (action : Action) → Fits doing x action → NewRelease x action key serial → (holder : ℕ) × (1 ≤ count_of (node_at x serial) holder)
holder_has doing x key serial (act.DropRefs peer one holder k clock) fits (same, mine, due) = (holder, subst (λ n. 1 ≤ count_of (node_at x n) holder) (sym mine) fits)
holder_has doing x key serial action fits new = absurd new

-- a queued notice changes no clock
drop_clock : (b : Bool) (x : PeerPart) (serial : ℕ) → (with_release_notice b x serial).clock ≡ x.clock
drop_clock true x serial = refl
drop_clock false x serial = refl

module _ (o : Opening) (memory : Bool) (d : DriverPart) (doing : Doing) (x : PeerPart) (serial : ℕ) where
  -- its key has the owner's clock
  key_stamp : (key : Key) (action : Action) → NewRelease x action key serial → key.stamp ≡ (happens o memory d doing action x).1.clock
  key_stamp key (act.DropRefs peer one holder k clock) (same, mine, due) = ap (λ z. z.stamp) same ∙ sym (drop_clock (is_released (dropped_refs x one holder k clock) one) (dropped_refs x one holder k clock) one)
  key_stamp key action new = absurd new

  -- a drop that leaves nobody with a reference to a live node brings its notice
  drop_brings : (node : NodeRef) (action : Action) → node.serial ≡ serial → is_drop_of node action ≡ true → is_live (node_at x serial).state ≡ true → is_unheld (node_at (happens o memory d doing action x).1 serial) ≡ true
      → (key : Key) × Has (happens o memory d doing action x).1.queue (key, ReleaseNotice serial)
  drop_brings node (act.DropRefs peer one holder k clock) same is live unheld = (record { stamp = max x.clock clock; origin = no_origin; index = one }, brought (is_released y one) due)
    where
      y : PeerPart
      y = dropped_refs x one holder k clock

      mine : one ≡ serial
      mine = eqb-true one node.serial (and_parts (peer == node.owner) (one == node.serial) is).1 ∙ same

      changed : node_at y one ≡ uncounted holder k (node_at x one)
      changed = get_or-set_same x.nodes one (uncounted holder k (node_at x one)) no_node (live_made x one (subst (λ n. is_live (node_at x n).state ≡ true) (sym mine) live))

      lives : is_live (node_at y one).state ≡ true
      lives = ap (λ n. is_live n.state) changed ∙ subst (λ n. is_live (node_at x n).state ≡ true) (sym mine) live

      empty : is_unheld (node_at y one) ≡ true
      empty = ap is_unheld (sym (drop_node (is_released y one) y one one) ∙ ap (node_at (with_release_notice (is_released y one) y one)) mine) ∙ unheld

      due : is_released y one ≡ true
      due = ap (λ b. b && is_unheld (node_at y one)) lives ∙ empty

      brought : (b : Bool) → b ≡ true → Has (with_release_notice b y one).queue (record { stamp = max x.clock clock; origin = no_origin; index = one }, ReleaseNotice serial)
      brought true holds = subst (λ n. Has (with_release_notice true y one).queue (record { stamp = max x.clock clock; origin = no_origin; index = one }, ReleaseNotice n)) mine (has_put_new _ (ReleaseNotice one) x.queue)
      brought false none = absurd (cc none)
  drop_brings node action same is live unheld = absurd (cc is)

-- ---- one step

module _ {o : Opening} {s : State} {p : ℕ} {command : Option Command} {t : State} (sound : IsSound o s) (right : IsRight o s) (step : Step o s p command t) where
  abbrev k : Did o step.local.memory step.driver command step.peer step.action step.at step.new_driver step.new_peer
  k = step_did step

  -- the state after the step is sound, and its parts are right
  sound_after : IsSound o t
  sound_after = step_sound o s p command t sound step

  parts_after : PartsRight t
  parts_after = parts_kept o s p command t sound right.parts step

  module _ (node : NodeRef) (here : node.owner ≡ step.at) where
    -- the owner's part before and after the event
    pub owner_before : IsPeer s node.owner step.peer
    owner_before = subst (λ q. IsPeer s q step.peer) (sym here) step.is_peer

    pub owner_after : IsPeer t node.owner step.new_peer
    owner_after = subst (λ q. IsPeer t q step.new_peer) (sym here) (new_peer step)

    -- a queued notice is of a live node without references
    pub notice_total : (key : Key) → Has step.peer.queue (key, ReleaseNotice node.serial) → total s node ≡ 0
    notice_total key has =
        let releases = right.parts.releases in
        unheld_total sound node step.peer owner_before (live_made step.peer node.serial (releases.live node.owner node.serial step.peer key owner_before has)) (releases.unheld node.owner node.serial step.peer key owner_before has)

    -- after the event too
    pub after_live : (key : Key) → Has step.new_peer.queue (key, ReleaseNotice node.serial) → is_live (node_at step.new_peer node.serial).state ≡ true
    after_live key has = parts_after.releases.live node.owner node.serial step.new_peer key owner_after has

    after_total : (key : Key) → Has step.new_peer.queue (key, ReleaseNotice node.serial) → total t node ≡ 0
    after_total key has = unheld_total sound_after node step.new_peer owner_after (live_made step.new_peer node.serial (after_live key has)) (parts_after.releases.unheld node.owner node.serial step.new_peer key owner_after has)

    -- a notice that wasn't there is brought by the event
    brought : (key : Key) → has_release_notice node.serial step.peer ≡ false → Has step.new_peer.queue (key, ReleaseNotice node.serial) → NewRelease step.peer step.action key node.serial
    brought key none has = elim (queue_comes o k.e k.doing (key, ReleaseNotice node.serial) step.local.memory step.action step.peer (subst (λ y. Has y.queue (key, ReleaseNotice node.serial)) k.peer has)) [
      | inl was ↦ absurd (cc (sym none ∙ there_notified node.serial step.peer key was.0))
      | inr new ↦ new_release o k.e k.doing step.peer key node.serial step.action (next_fits sound step k.e.owed refl) new
    ]

    -- it stands under the owner's clock
    pub stamp_here : has_release_notice node.serial step.peer ≡ false → has_release_notice node.serial step.new_peer ≡ true → list_any (is_notice_with node.serial step.new_peer.clock) step.new_peer.queue ≡ true
    stamp_here none there =
        let found = notice_there node.serial step.new_peer there in
        let clock : found.0.stamp ≡ step.new_peer.clock = key_stamp o step.local.memory k.e k.doing step.peer node.serial found.0 step.action (brought found.0 none found.1) ∙ ap (λ y. y.clock) (sym k.peer) in
        has_any (is_notice_with node.serial step.new_peer.clock) step.new_peer.queue (found.0, ReleaseNotice node.serial) found.1
        (ap (λ b. b && (found.0.stamp == step.new_peer.clock)) (eq-eqb node.serial node.serial refl) ∙ eq-eqb found.0.stamp step.new_peer.clock clock)

    module _ (live : is_live (node_at step.peer node.serial).state ≡ true) where
      -- it comes at a drop, before which somebody has a reference and after which nobody has
      comes_here : has_release_notice node.serial step.peer ≡ false → has_release_notice node.serial step.new_peer ≡ true → (is_drop_of node step.action ≡ true) × (0 < total s node) × (total t node ≡ 0)
      comes_here none there =
          let found = notice_there node.serial step.new_peer there in
          let new = brought found.0 none found.1 in
          let holder = holder_has k.doing step.peer found.0 node.serial step.action (next_fits sound step k.e.owed refl) new in
          (drop_is node step.peer found.0 k.e.me step.at step.action k.is_at here new, held_total sound node step.peer owner_before (live_made step.peer node.serial live) holder.0 holder.1, after_total found.0 found.1)

      -- while references are counted none is queued
      none_before : 0 < total s node → has_release_notice node.serial step.peer ≡ false
      none_before some = by (has_release_notice node.serial step.peer) refl
        where
          by : (b : Bool) → has_release_notice node.serial step.peer ≡ b → b ≡ false
          by false is = refl
          by true is = let found = notice_there node.serial step.peer is in let none = notice_total found.0 found.1 in absurd (omega (arith, some, none))

      -- the last drop brings it
      last_drop : is_drop_of node step.action ≡ true → total t node ≡ 0 → has_release_notice node.serial step.new_peer ≡ true
      last_drop is none =
          let made = live_made step.peer node.serial live in
          let more = step_grows step in
          let unheld = total_unheld sound_after node step.new_peer owner_after (omega (arith, made, more)) none in
          let found = drop_brings o step.local.memory k.e k.doing step.peer node.serial node step.action refl is live (ap (λ y. is_unheld (node_at y node.serial)) (sym k.peer) ∙ unheld) in
          there_notified node.serial step.new_peer found.0 (subst (λ y. Has y.queue (found.0, ReleaseNotice node.serial)) (sym k.peer) found.1)

  -- ---- wherever the node's owner is

  module _ (node : NodeRef) (live : is_live_in s node ≡ true) where
    -- the tests of the two states, by the parts of the event's peer
    pub live_here : (here : node.owner ≡ step.at) → is_live (node_at step.peer node.serial).state ≡ true
    live_here here = sym (live_by s node step.peer (owner_before node here)) ∙ live

    pub before_is : (here : node.owner ≡ step.at) → is_notified s node ≡ has_release_notice node.serial step.peer
    before_is here = notified_by s node step.peer (owner_before node here)

    pub after_is : (here : node.owner ≡ step.at) → is_notified t node ≡ has_release_notice node.serial step.new_peer
    after_is here = notified_by t node step.new_peer (owner_after node here)

    -- what changes is at the event's peer
    pub changed_here : is_notified s node ≢ is_notified t node → node.owner ≡ step.at
    changed_here differs = elim (cases_eq node.owner step.at) [ inl here ↦ here | inr apart ↦ absurd (differs (sym (notified_elsewhere step node apart))) ]

    -- a notice comes only at the last drop
    pub comes_forth : (is_notified s node ≡ false) × (is_notified t node ≡ true) → (is_drop_of node step.action ≡ true) × (0 < total s node) × (total t node ≡ 0)
    comes_forth (none, there) =
        let here = changed_here (λ same. cc (sym none ∙ same ∙ there)) in
        comes_here node here (live_here here) (sym (before_is here) ∙ none) (sym (after_is here) ∙ there)

    -- and at the last drop it comes
    pub comes_back : (is_drop_of node step.action ≡ true) × (0 < total s node) × (total t node ≡ 0) → (is_notified s node ≡ false) × (is_notified t node ≡ true)
    comes_back (is, some, none) =
        let here = drop_at node k.e.me step.at step.action k.is_at is in
        (before_is here ∙ none_before node here (live_here here) some, after_is here ∙ last_drop node here (live_here here) is none)

    -- with the clock that its owner has after the event
    pub comes_stamped : is_notified s node ≡ false → is_notified t node ≡ true → list_any (is_notice_with node.serial step.new_peer.clock) step.new_peer.queue ≡ true
    comes_stamped none there =
        let here = changed_here (λ same. cc (sym none ∙ same ∙ there)) in
        stamp_here node here (sym (before_is here) ∙ none) (sym (after_is here) ∙ there)
