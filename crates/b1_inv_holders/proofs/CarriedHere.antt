-- Whoever has an entry with a counted reference to a node that isn't live is covered, where the event is at that peer.
use Rattle.std.proofs.Common.{◌≡◌, ◌≢◌, refl, sym, ap, subst, ◌∙◌, inl, inr, ℕ, ◌≤◌, Bool, true, false, cond, List, [], ◌∷◌, Option, Some, None}
use Rattle.std.specs.Prelude.{⊤, slice_get}
use native.Mathlib.Omega.{arith}
use Rattle.b1_model.specs.declared.naming.Key.{Key}
use Rattle.b1_model.specs.declared.naming.NodeRef.{NodeRef}
use Rattle.b1_model.specs.declared.naming.Opening.{Opening}
use Rattle.b1_model.specs.declared.commands.Command.{Command}
use Rattle.b1_model.specs.declared.answers.Reason.{Reason}
use Rattle.b1_model.specs.declared.entries.Entry.{Entry}
use Rattle.b1_model.specs.declared.events.Action.{Action}
use Rattle.b1_model.specs.declared.events.Action.TheVariants as act
use Rattle.b1_model.specs.declared.events.Doing.{Doing}
use Rattle.b1_model.specs.MachineParts.{PeerPart, DriverPart, HandleRecord, State, is_live, is_dying, node_at, no_record, same_ref, record_of, record_or_none, carried}
use Rattle.b1_model.specs.MachineTables.{changed_or_made, more_flight, expected, foreign, count_of}
use Rattle.b1_model.specs.MachineCounts.{fresh}
use Rattle.b1_model.specs.MachineEvents.{happens, stage_by}
use Rattle.b1_model.specs.MachineStep.{Step}
use Rattle.b1_step.specs.Rights.{Has}
use Rattle.b1_step.specs.Ordered.{Rising}
use Rattle.b1_step.proofs.Lookups.{own_made, other_made, rising_made}
use Rattle.b1_step.proofs.Orders.{same_ref_is, same_ref_itself}
use Rattle.b1_inv.specs.Words.{IsPeer, IsDriver}
use Rattle.b1_inv.specs.References.{times_in, carried_times}
use Rattle.b1_inv.specs.Sound.{IsSound}
use Rattle.b1_inv_record.specs.Holders.{HolderCovered, IsCovered, IsDue, slots_now}
use Rattle.b1_inv_tools.proofs.Leaves.{driver_cases, peer_cases, new_peer}
use Rattle.b1_inv_refs.proofs.Counting.{member_le}
use Rattle.b1_inv_refs.proofs.Flying.{flights_kept}
use Rattle.b1_inv_refs.proofs.GivenUp.{record_found, found_has}
use Rattle.b1_inv_notices.proofs.OwnCount.{own_count_none}
use Rattle.b1_inv_notices.proofs.Sets.{has_index}
use Rattle.b1_inv_notices.proofs.Turns.{parts, going, going_doing, going_action}
use Rattle.b1_inv_holders.proofs.Records.{stages_action, record_event}
use Rattle.b1_inv_holders.proofs.Visits.{Flagged, still_flagged}
use Rattle.b1_inv_holders.proofs.Counted.{IsAttached}
use Rattle.b1_inv_holders.proofs.Held.{visited_flags}
use Rattle.b1_inv_holders.proofs.Carried.{record_node}

abbrev Handles : Type 0
Handles = List HandleRecord

abbrev or_none : NodeRef → Option HandleRecord → HandleRecord
or_none node found = elim found [ None ↦ no_record node | Some h ↦ h ]

-- ---- what a stage leaves of a record

module _ (view : HandleRecord → Bool) (same : (h : HandleRecord) → view (more_flight h) ≡ view h) where
  view_made : (other node : NodeRef) (hs : Handles) → Rising hs → view (record_or_none node (changed_or_made other more_flight hs)) ≡ view (record_or_none node hs)
  view_made other node hs up = at (same_ref other node) refl
    where
      at : (b : Bool) → same_ref other node ≡ b → view (record_or_none node (changed_or_made other more_flight hs)) ≡ view (record_or_none node hs)
      at false is = ap (λ r. view (or_none node r)) (other_made other more_flight (λ h. refl) node is hs)
      at true is = subst (λ m. view (record_or_none node (changed_or_made m more_flight hs)) ≡ view (record_or_none node hs)) (sym (same_ref_is other node is)) (ap (λ r. view (or_none node r)) (own_made node more_flight (λ h. refl) hs up) ∙ same (record_or_none node hs))

  view_expected : (nodes : List NodeRef) (node : NodeRef) (hs : Handles) → Rising hs → view (record_or_none node (expected nodes hs)) ≡ view (record_or_none node hs)
  view_expected [] node hs up = refl
  view_expected (n ∷ rest) node hs up = view_expected rest node (changed_or_made n more_flight hs) (rising_made n more_flight (λ h. refl) hs up) ∙ view_made n node hs up

  view_stage : (r : Option Reason) (memory : Bool) (origin user place serial : ℕ) (payload : List ℕ) (nodes : List NodeRef) (x : PeerPart) (node : NodeRef) → Rising x.handles → view (record_or_none node (stage_by r memory origin user place serial payload nodes x).1.handles) ≡ view (record_or_none node x.handles)
  view_stage (Some r) memory origin user place serial payload nodes x node up = refl
  view_stage None true origin user place serial payload nodes x node up = refl
  view_stage None false origin user place serial payload nodes x node up = view_expected (foreign x.me nodes) node x.handles up

  view_event : (o : Opening) (memory : Bool) (d : DriverPart) (doing : Doing) (action : Action) (x : PeerPart) (node : NodeRef) → stages_action action ≡ true → Rising x.handles → view (record_or_none node (happens o memory d doing action x).1.handles) ≡ view (record_or_none node x.handles)
  view_event o memory d doing (act.Stage peer place) x node is up = view_stage _ memory _ _ place _ _ _ x node up
  view_event o memory d doing action x node is up = absurd (cc is)

-- ---- what carries a node has a record of it

times_there : (node : NodeRef) (nodes : List NodeRef) (j : ℕ) → slice_get nodes j ≡ Some node → 1 ≤ times_in node nodes
times_there node nodes j is =
    let k = member_le (λ n. cond (same_ref n node) 1 0) nodes j node is in
    let one : cond {A = ℕ} (same_ref node node) 1 0 ≡ 1 = ap (λ b. cond b 1 0) (same_ref_itself node) in
    omega (arith, k, one)

carried_there : (node : NodeRef) (queue : List (Key × Entry)) (f : Key × Entry) (j : ℕ) → Has queue f → slice_get (carried f.1) j ≡ Some node → 1 ≤ carried_times node queue
carried_there node queue f j there is =
    let at = has_index queue f there in
    let k = member_le (λ (g : Key × Entry). times_in node (carried g.1)) queue at.0 f at.1 in
    let some = times_there node (carried f.1) j is in
    omega (arith, k, some)

abbrev counts_by : NodeRef → ℕ → Option PeerPart → ℕ
counts_by node q found = elim found [ None ↦ 0 | Some x ↦ count_of (node_at x node.serial) q ]

-- ---- a step

module _ {o : Opening} {s : State} {p : ℕ} {c : Option Command} {t : State} (sound : IsSound o s) (covered : HolderCovered s) (step : Step o s p c t) where
  -- what is counted is of another peer
  pub foreign_node : (node : NodeRef) → 1 ≤ fresh s node step.at → node.owner ≢ step.at
  foreign_node node some own =
      let counts : counts_by node step.at (slice_get s.peers node.owner) ≡ fresh s node step.at = sound.references.counts node step.at in
      let read : counts_by node step.at (slice_get s.peers node.owner) ≡ count_of (node_at step.peer node.serial) step.at = ap (counts_by node step.at) (subst (λ r. IsPeer s r step.peer) (sym own) step.is_peer) in
      let none : count_of (node_at step.peer node.serial) step.at ≡ 0 = ap (count_of (node_at step.peer node.serial)) (sym (sound.numbered.peers step.at step.peer step.is_peer).me) ∙ own_count_none sound step.at step.peer step.is_peer node.serial in
      let same : fresh s node step.at ≡ 0 = sym counts ∙ read ∙ none in
      let never : 1 ≤ 0 = subst (λ n. 1 ≤ n) same some in absurd (omega (arith, never))

  module _ (node : NodeRef) (foreign_to : node.owner ≢ step.at) (f : Key × Entry) (j : ℕ) (there : Has step.new_peer.queue f) (node_is : slice_get (carried f.1) j ≡ Some node) where
    pub has_record : (h : HandleRecord) × (record_of node step.new_peer.handles ≡ Some h)
    has_record = by (record_of node step.new_peer.handles) refl
      where
        by : (found : Option HandleRecord) → record_of node step.new_peer.handles ≡ found → (h : HandleRecord) × (record_of node step.new_peer.handles ≡ Some h)
        by (Some h) is = (h, is)
        by None is =
            let flight : (or_none node (record_of node step.new_peer.handles)).flight ≡ carried_times node step.new_peer.queue = (flights_kept sound step).counted step.at step.new_peer node (new_peer step) foreign_to in
            let none : (or_none node (record_of node step.new_peer.handles)).flight ≡ 0 = ap (λ r. (or_none node r).flight) is in
            let some = carried_there node step.new_peer.queue f j there node_is in
            absurd (omega (arith, flight, none, some))

    abbrev pub after : HandleRecord
    after = has_record.0

    pub after_is : record_or_none node step.new_peer.handles ≡ after
    after_is = ap (or_none node) has_record.1

    after_there : Has step.new_peer.handles after × (same_ref after.node node ≡ true)
    after_there = found_has (λ h. same_ref h.node node) step.new_peer.handles after has_record.1

    flagged_after : Flagged (record_or_none node step.peer.handles) → Flagged after
    flagged_after flagged = by (stages_action (going_action step)) refl
      where
        up : Rising step.peer.handles
        up = sound.rising step.at step.peer step.is_peer

        by : (b : Bool) → stages_action (going_action step) ≡ b → Flagged after
        by true is =
            let now : (z : PeerPart) → z ≡ step.new_peer → record_or_none node z.handles ≡ after = (λ z same. ap (λ w. record_or_none node w.handles) same ∙ after_is) in
            let event = now (happens o step.local.memory (going step) (going_doing step) (going_action step) step.peer).1 (parts step).is_peer in
            elim flagged [
              | inl noted ↦ inl (ap (λ h. h.notice) (sym event) ∙ view_event (λ h. h.notice) (λ h. refl) o step.local.memory (going step) (going_doing step) (going_action step) step.peer node is up ∙ noted)
              | inr dies ↦ inr (ap (λ h. h.dead) (sym event) ∙ view_event (λ h. h.dead) (λ h. refl) o step.local.memory (going step) (going_doing step) (going_action step) step.peer node is up ∙ dies)
            ]
        by false is =
            let k = record_event (λ n. ⊤) o step.local.memory (going step) (going_doing step) (going_action step) step.peer is (λ n came. tt) after (subst (λ z. Has z.handles after) (sym (parts step).is_peer) after_there.0) in
            let of_node : k.0.node ≡ node = k.2.node ∙ same_ref_is after.node node after_there.1 in
            let was : record_or_none node step.peer.handles ≡ k.0 = ap (or_none node) (ap (λ n. record_of n step.peer.handles) (sym of_node) ∙ record_found step.peer.handles k.0 up k.1) in
            still_flagged (λ n. ⊤) k.0 after k.2 (subst Flagged was flagged)

    -- covered by an entry that carried the node before
    pub here_old : (g : Key × Entry) (i : ℕ) (y : PeerPart) (e : DriverPart) → Has step.peer.queue g → slice_get (carried g.1) i ≡ Some node → IsAttached (slots_now s g) i → IsPeer t node.owner y → IsDriver t node.owner e → is_live (node_at y node.serial).state ≡ false → IsCovered step.at after y e
    here_old g i y e was was_node was_slot is_owner is_driver dead =
        elim (peer_cases step node.owner y is_owner) [
          | inl at ↦ absurd (foreign_to at.0)
          | inr other ↦ elim (driver_cases step node.owner e is_driver) [
            | inr same ↦ by_other (covered.carried step.at i step.peer g node y e step.is_peer was was_node was_slot other.1 same.1 dead)
            | inl own ↦ by_own own.0 other.1 (covered.carried step.at i step.peer g node y step.driver step.is_peer was was_node was_slot other.1 (subst (λ r. IsDriver s r step.driver) (sym own.0) step.is_driver) dead)
          ]
        ]
      where
        serial_is : (record_or_none node step.peer.handles).node ≡ node → after.node ≡ (record_or_none node step.peer.handles).node
        serial_is is = same_ref_is after.node node after_there.1 ∙ sym is

        moved : (d : DriverPart) → (is_dying (node_at y (record_or_none node step.peer.handles).node.serial).state ≡ true) × IsDue step.at y d → (is_dying (node_at y after.node.serial).state ≡ true) × IsDue step.at y d
        moved d (dies, due) = (ap (λ n. is_dying (node_at y n.serial).state) (serial_is (record_node node step.peer.handles)) ∙ dies, due)

        by_other : IsCovered step.at (record_or_none node step.peer.handles) y e → IsCovered step.at after y e
        by_other (inl flagged) = inl (flagged_after flagged)
        by_other (inr due) = inr (moved e due)

        by_own : node.owner ≡ p → IsPeer s node.owner y → IsCovered step.at (record_or_none node step.peer.handles) y step.driver → IsCovered step.at after y e
        by_own owner is (inl flagged) = inl (flagged_after flagged)
        by_own owner is (inr (dies, inl left)) = let k = moved step.driver (dies, inl left) in inl (visited_flags sound covered step step.at after y left after_there.0 (ap (λ n. n.owner) (same_ref_is after.node node after_there.1) ∙ owner) (subst (λ r. IsPeer s r y) owner is) k.0)
        by_own owner is (inr (dies, inr late)) = inr ((moved step.driver (dies, inr late)).0, inr late)
