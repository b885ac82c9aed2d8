-- Whoever has an entry with a counted reference to a node that isn't live is covered.
use Rattle.std.proofs.Common.{◌≡◌, ◌≢◌, ◌⊎◌, refl, sym, ap, subst, ◌∙◌, inl, inr, ℕ, ◌<◌, ◌≤◌, ◌==◌, Bool, true, false, cond, List, [], ◌∷◌, length, Option, Some, None}
use Rattle.std.specs.Prelude.{slice_get}
use Rattle.std.proofs.lemmas.Option.{same_Some, slice_get_within, get_or_from_slice_get}
use Rattle.std.proofs.lemmas.List.Elements.{All-get_or}
use native.Mathlib.Omega.{arith}
use Rattle.b1_model.specs.declared.commands.Command.{Command}
use Rattle.b1_model.specs.declared.naming.Key.{Key}
use Rattle.b1_model.specs.declared.naming.NodeRef.{NodeRef}
use Rattle.b1_model.specs.declared.naming.Opening.{Opening}
use Rattle.b1_model.specs.declared.parts.Attach.{Attach}
use Rattle.b1_model.specs.declared.parts.Attach.TheVariants as attach
use Rattle.b1_model.specs.declared.parts.NodeState.{NodeState}
use Rattle.b1_model.specs.declared.parts.NodeState.TheVariants.{Live, Dying, Destroyed}
use Rattle.b1_model.specs.declared.parts.Slot.TheVariants as slot
use Rattle.b1_model.specs.declared.entries.Entry.{Entry}
use Rattle.b1_model.specs.declared.events.OwedDrop.{OwedDrop}
use Rattle.b1_model.specs.declared.events.Outcome.TheVariants as out
use Rattle.b1_model.specs.declared.events.Phase.{Phase}
use Rattle.b1_model.specs.declared.events.Phase.TheVariants.{Attaching}
use Rattle.b1_model.specs.MachineParts.{PeerPart, DriverPart, HandleRecord, State, is_live, is_dying, is_staged, node_at, no_record, same_ref, record_of, record_or_none, carried}
use Rattle.b1_model.specs.MachineTables.{with_peer, counted}
use Rattle.b1_model.specs.MachineSend.{attach_by, attach_answer, attached_by}
use Rattle.b1_model.specs.MachineDriver.{next_action, peer_of, node_of_place, no_ref}
use Rattle.b1_model.specs.MachineCounts.{fresh}
use Rattle.b1_model.specs.MachineEvents.{begun_of}
use Rattle.b1_model.specs.MachineStep.{Step}
use Rattle.b1_step.specs.Rights.{Has}
use Rattle.b1_step.proofs.Orders.{same_ref_is}
use Rattle.b1_inv.specs.Words.{IsPeer, IsDriver, IsMade}
use Rattle.b1_inv.specs.Sound.{IsSound}
use Rattle.b1_inv_record.specs.Holders.{HolderCovered, IsCovered, slots_now}
use Rattle.b1_inv_tools.proofs.Leaves.{peer_cases, new_peer}
use Rattle.b1_inv_notices.proofs.Nodes.{node_kept}
use Rattle.b1_inv_notices.proofs.Sets.{has_peer_new}
use Rattle.b1_inv_notices.proofs.Turns.{opened, answered, parts, going_doing, going_answer}
use Rattle.b1_inv_cover.proofs.Stamped.{same_peer_at}
use Rattle.b1_inv_holders.proofs.Counted.{IsAttached, carries_data, message_is, entry_counted}
use Rattle.b1_inv_holders.proofs.Held.{at_neither, at_owner}
use Rattle.b1_inv_holders.proofs.SlotTurns.{NewSlot}
use Rattle.b1_inv_holders.proofs.Filled.{filled_from}

pub apart_slots : slot.Unattached ≢ slot.Attached
apart_slots is = absurd (cc is)

abbrev found_or_none : NodeRef → Option HandleRecord → HandleRecord
found_or_none node found = elim found [ None ↦ no_record node | Some h ↦ h ]

-- a node's record, or what stands in its place, is of that node
pub record_node : (node : NodeRef) (hs : List HandleRecord) → (record_or_none node hs).node ≡ node
record_node node [] = refl
record_node node (h ∷ rest) = at (record_node node rest) (same_ref h.node node) refl
  where
    at : (record_or_none node rest).node ≡ node → (b : Bool) → same_ref h.node node ≡ b → (found_or_none node (cond b (Some h) (record_of node rest))).node ≡ node
    at further true is = same_ref_is h.node node is
    at further false is = further

-- ---- an attach

counted_dying : (state : NodeState) (own : Bool) → attach_by state own ≡ attach.Counted → is_live state ≡ false → is_dying state ≡ true
counted_dying Live own is dead = absurd (cc dead)
counted_dying Dying own is dead = refl
counted_dying (Destroyed stamp) own is dead = absurd (cc is)

module _ (o : Opening) (memory : Bool) (d : DriverPart) (command : Command) (x : PeerPart) where
  abbrev New : Phase → List OwedDrop → ℕ → ℕ → ℕ → Type 0
  New phase owed at j collected = NewSlot slot.Attached apart_slots phase (answered o memory d command phase owed x).0 at j collected

  -- a counted attach is at the node's owner
  attach_at : (phase : Phase) (owed : List OwedDrop) (at j collected : ℕ) (node : NodeRef) → New phase owed at j collected → slice_get (begun_of phase).with j ≡ Some node → peer_of d.me (next_action (opened d command phase owed)) ≡ node.owner
  attach_at (Attaching sending place handle) [] at j collected node new is = ap (λ n. (node_of_place sending.begun.with n).owner) (sym new.1) ∙ ap (λ n. n.owner) (get_or_from_slice_get sending.begun.with j node no_ref is)
  attach_at (Attaching sending place handle) (one ∷ rest) at j collected node new is = absurd new
  attach_at phase owed at j collected node new is = absurd new

  -- at a node that isn't live, its destination is late
  attach_new : (phase : Phase) (owed : List OwedDrop) (at j collected : ℕ) (node : NodeRef) → New phase owed at j collected → slice_get (begun_of phase).with j ≡ Some node → node.serial < length x.nodes
      → is_live (node_at (answered o memory d command phase owed x).1 node.serial).state ≡ false
      → (is_dying (node_at (answered o memory d command phase owed x).1 node.serial).state ≡ true) × Has (answered o memory d command phase owed x).1.late (node_of_place (begun_of phase).to at).owner
  attach_new (Attaching sending place handle) [] at j collected node new is within dead = by (attach_answer x serial dest) refl new dead
    where
      serial : ℕ
      serial = (node_of_place sending.begun.with handle).serial

      dest : ℕ
      dest = (node_of_place sending.begun.to place).owner

      by : (got : Attach) → attach_answer x serial dest ≡ got → NewSlot slot.Attached apart_slots (Attaching sending place handle) (out.Attach got) at j collected → is_live (node_at (attached_by got x serial dest) node.serial).state ≡ false
          → (is_dying (node_at (attached_by got x serial dest) node.serial).state ≡ true) × Has (attached_by got x serial dest).late (node_of_place sending.begun.to at).owner
      by attach.Own was none dead = absurd (cc none.2)
      by (attach.Void stamp) was none dead = absurd (cc none.2)
      by attach.Counted was (there, here, filled, low) dead =
          let same : serial ≡ node.serial = ap (λ n. (node_of_place sending.begun.with n).serial) (sym here) ∙ ap (λ n. n.serial) (get_or_from_slice_get sending.begun.with j node no_ref is) in
          let state = (node_kept (counted dest) (λ n. refl) serial x.nodes).state node.serial within in
          let dies : is_dying (node_at x serial).state ≡ true = counted_dying (node_at x serial).state (dest == x.me) was (ap (λ n. is_live (node_at x n).state) same ∙ ap is_live (sym state) ∙ dead) in (
            ap is_dying state ∙ ap (λ n. is_dying (node_at x n).state) (sym same) ∙ dies,
            subst (λ n. Has (cond (is_dying (node_at x serial).state) (with_peer dest x.late) x.late) (node_of_place sending.begun.to n).owner) (sym there)
                (subst (λ b. Has (cond b (with_peer dest x.late) x.late) dest) (sym dies) (has_peer_new dest x.late)),
          )
  attach_new (Attaching sending place handle) (one ∷ rest) at j collected node new is within dead = absurd new
  attach_new phase owed at j collected node new is within dead = absurd new

-- ---- a step

module _ {o : Opening} {s : State} {p : ℕ} {c : Option Command} {t : State} (sound : IsSound o s) (covered : HolderCovered s) (step : Step o s p c t) where
  abbrev pub Newly : ℕ → ℕ → ℕ → Type 0
  Newly at j collected = NewSlot slot.Attached apart_slots (parts step).phase (going_answer step) at j collected

  -- a counted reference of an entry was one before, or the event attached it
  pub slots_from : (f : Key × Entry) (j : ℕ) → IsAttached (slots_now t f) j → IsAttached (slots_now s f) j ⊎ ((is_staged f ≡ true) × (f.0.origin ≡ p) × (collected : ℕ) × Newly f.0.index j collected)
  slots_from f j is = filled_from slot.Attached apart_slots step f j is

  -- ---- where the event isn't at the holder

  module _ (q j : ℕ) (x : PeerPart) (f : Key × Entry) (node : NodeRef) (y : PeerPart) (e : DriverPart) (apart : q ≢ step.at) (is_peer : IsPeer s q x) (there : Has x.queue f) (node_is : slice_get (carried f.1) j ≡ Some node)
      (is_owner : IsPeer t node.owner y) (is_driver : IsDriver t node.owner e) (dead : is_live (node_at y node.serial).state ≡ false) where
    abbrev h : HandleRecord
    h = record_or_none node x.handles

    of_node : h.node ≡ node
    of_node = record_node node x.handles

    made : IsMade s node
    made = subst (IsMade s) (get_or_from_slice_get (carried f.1) j node no_ref node_is) (All-get_or (IsMade s) (carried f.1) j no_ref (slice_get_within (carried f.1) j node node_is) (sound.slots.made q x f is_peer there))

    else_old : IsAttached (slots_now s f) j → IsCovered q h y e
    else_old old =
        elim (peer_cases step node.owner y is_owner) [
          | inl at ↦
              at_owner sound covered step q x h y e apart is_peer (subst (IsMade s) (sym of_node) made) (subst (λ n. 1 ≤ fresh s n q) (sym of_node) (entry_counted o s sound q j x f node is_peer there node_is old))
              (λ d is over. covered.carried q j x f node step.peer d is_peer there node_is old (subst (λ r. IsPeer s r step.peer) (sym at.0) step.is_peer) (subst (λ n. IsDriver s n.owner d) of_node is) (subst (λ n. is_live (node_at step.peer n.serial).state ≡ false) of_node over))
              (ap (λ n. n.owner) of_node ∙ at.0) at.1 (subst (λ n. IsDriver t n.owner e) (sym of_node) is_driver) (subst (λ n. is_live (node_at y n.serial).state ≡ false) (sym of_node) dead)
          | inr other ↦
              at_neither sound covered step q h y e apart (subst (λ n. IsDriver t n.owner e) (sym of_node) is_driver)
              (λ d is. covered.carried q j x f node y d is_peer there node_is old other.1 (subst (λ n. IsDriver s n.owner d) of_node is) dead)
        ]

    else_new : is_staged f ≡ true → f.0.origin ≡ p → (collected : ℕ) → Newly f.0.index j collected → IsCovered q h y e
    else_new odd origin collected new =
        let k = sound.stages.sender q x f is_peer there (carries_data f.1 j node node_is) odd in
        let m = message_is o q k.doing f.0 f.1 k.message in
        let same_driver : k.driver ≡ step.driver = same_Some k.driver step.driver (sym k.is_driver ∙ ap (slice_get s.drivers) origin ∙ step.is_driver) in
        let open_is : step.driver.doing ≡ Some k.doing = ap (λ d. d.doing) (sym same_driver) ∙ k.is_open in
        let phase : k.doing.phase ≡ (parts step).phase = elim (parts step).was as (λ z. k.doing.phase ≡ (parts step).phase) [
          | inl was ↦ let both : Some k.doing ≡ Some (going_doing step) = sym open_is ∙ was in ap (λ z. z.phase) (same_Some k.doing (going_doing step) both)
          | inr none ↦ let both : Some k.doing ≡ None = sym open_is ∙ none.0 in absurd (cc both)
        ] in
        let node_before : slice_get (begun_of (parts step).phase).with j ≡ Some node = ap (λ l. slice_get l j) (sym (m.0 ∙ ap (λ ph. (begun_of ph).with) phase)) ∙ node_is in
        let here : step.at ≡ node.owner = sym (parts step).is_at ∙ attach_at o step.local.memory step.driver (parts step).command step.peer (parts step).phase step.driver.owed f.0.index j collected node new node_before in
        let is_new : y ≡ step.new_peer = same_peer_at t node.owner y step.new_peer is_owner (subst (λ r. IsPeer t r step.new_peer) here (new_peer step)) in
        let size = ap (λ w. length w.nodes) (same_peer_at s node.owner made.0 step.peer made.1 (subst (λ r. IsPeer s r step.peer) here step.is_peer)) in
        let within = made.2 in
        let after = is_new ∙ sym (parts step).is_peer in
        let result = attach_new o step.local.memory step.driver (parts step).command step.peer (parts step).phase step.driver.owed f.0.index j collected node new node_before (omega (arith, within, size)) (ap (λ z. is_live (node_at z node.serial).state) (sym after) ∙ dead) in
        let dies : is_dying (node_at y node.serial).state ≡ true = ap (λ z. is_dying (node_at z node.serial).state) after ∙ result.0 in
        let late : Has y.late q = subst (λ z. Has z.late q) (sym after) (subst (Has (answered o step.local.memory step.driver (parts step).command (parts step).phase step.driver.owed step.peer).1.late) (ap (λ ph. (node_of_place (begun_of ph).to f.0.index).owner) (sym phase) ∙ m.1) result.1) in
        inr (ap (λ n. is_dying (node_at y n.serial).state) of_node ∙ dies, inr late)

    pub carried_else : IsAttached (slots_now t f) j → IsCovered q h y e
    carried_else is = elim (slots_from f j is) [ inl old ↦ else_old old | inr new ↦ else_new new.0 new.1 new.2 new.3 ]
