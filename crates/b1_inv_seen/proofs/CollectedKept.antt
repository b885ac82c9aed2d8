-- A step keeps what the holders of dying nodes took collected by the destruction, or come to the owner, or the holders still to be visited.
use Rattle.std.proofs.Common.{◌≡◌, ◌≢◌, ◌⊎◌, refl, sym, ap, subst, ◌∙◌, inl, inr, ℕ, ◌≤◌, true, false, Option, Some}
use Rattle.std.specs.Prelude.{slice_get}
use native.Mathlib.Omega.{arith}
use Rattle.b1_model.specs.declared.commands.Command.{Command}
use Rattle.b1_model.specs.declared.naming.Key.{Key}
use Rattle.b1_model.specs.declared.naming.Opening.{Opening}
use Rattle.b1_model.specs.declared.parts.NodeState.{NodeState}
use Rattle.b1_model.specs.declared.parts.NodeState.TheVariants.{Live, Dying, Destroyed}
use Rattle.b1_model.specs.declared.records.Call.{Call}
use Rattle.b1_model.specs.Names.{Node, calls_of}
use Rattle.b1_model.specs.Ledger.{got_key}
use Rattle.b1_model.specs.MachineParts.{PeerPart, DriverPart, HandleRecord, State, is_live, is_dying, is_destroyed, node_at}
use Rattle.b1_model.specs.MachineStep.{Step, record_of_state}
use Rattle.b1_step.specs.Rights.{Has}
use Rattle.b1_step.proofs.Locality.{clocks_rise}
use Rattle.b1_ledger.specs.Growth.{calls_len}
use Rattle.b1_law.proofs.Reached.{step_sound}
use Rattle.b1_inv.specs.Words.{IsPeer, IsDriver}
use Rattle.b1_inv.specs.Sound.{IsSound}
use Rattle.b1_inv_record.specs.Epochs.{ref_of}
use Rattle.b1_inv_record.specs.Holders.{IsSeen, IsDue, collected_now, SeenCollected}
use Rattle.b1_inv_record.specs.Right.{IsRight}
use Rattle.b1_inv_tools.proofs.Leaves.{driver_cases, peer_cases}
use Rattle.b1_inv_notices.proofs.Turns.{parts, going, going_doing, going_action}
use Rattle.b1_inv_refs.proofs.Arrivals.{held_in}
use Rattle.b1_inv_refs.proofs.GivenUp.{held_of}
use Rattle.b1_inv_holders.proofs.Records.{TakenIn, held_event}
use Rattle.b1_inv_tables.proofs.LinesKept.{part_before, driver_there}
use Rattle.b1_inv_entries.proofs.NewCalls.{NewCall}
use Rattle.b1_inv_entries.proofs.Receipts.{receipt_taken}
use Rattle.b1_inv_seen.proofs.HoldEvents.{held_record}
use Rattle.b1_inv_seen.proofs.Collecting.{collects_on}
use Rattle.b1_inv_seen.proofs.Begins.{begins_due}
use Rattle.b1_inv_seen.proofs.Blocked.{taken_collected}
use Rattle.b1_inv_seen.proofs.SeenKept.{driver_before, driver_of, seen_before, listed_low, node_made, alive_before, at_own, own_peer, new_held, receipt_cases}

-- a dying node isn't destroyed
not_destroyed : (state : NodeState) → is_dying state ≡ true → is_destroyed state ≡ false
not_destroyed Live is = absurd (cc is)
not_destroyed Dying is = refl
not_destroyed (Destroyed stamp) is = absurd (cc is)

-- one that isn't destroyed is live or dying
live_or_dying : (state : NodeState) → is_destroyed state ≡ false → (is_live state ≡ true) ⊎ (is_dying state ≡ true)
live_or_dying Live is = inl refl
live_or_dying Dying is = inr refl
live_or_dying (Destroyed stamp) is = absurd (cc is)

module _ {o : Opening} {s : State} {p : ℕ} {c : Option Command} {t : State} (sound : IsSound o s) (right : IsRight o s) (step : Step o s p c t) where
  -- what is to be shown
  abbrev Then : ℕ → ℕ → PeerPart → DriverPart → Type 0
  Then low q y e = ((low ≤ y.clock) ⊎ (low ≤ collected_now e)) ⊎ IsDue q y e

  -- a receipt that was there before
  module _ (q k : ℕ) (one : Call) (key : Key) (n : Node) (there : slice_get (calls_of (record_of_state s) q) k ≡ Some one) (got : got_key one.answer ≡ Some key) (seen : IsSeen o t q k n) (x y : PeerPart) (e : DriverPart)
      (is_peer : IsPeer t q x) (is_owner : IsPeer t n.owner y) (is_driver : IsDriver t n.owner e) (dying : is_dying (node_at y n.serial).state ≡ true) where
    -- the holder's part, before the step
    x_was : (z : PeerPart) × IsPeer s q z
    x_was = part_before sound right step q x is_peer

    -- the owner's part, before
    y_was : (z : PeerPart) × IsPeer s n.owner z
    y_was = part_before sound right step n.owner y is_owner

    -- the owner's driver, before
    e_was : (d : DriverPart) × IsDriver s n.owner d
    e_was = driver_before sound right step n.owner e is_driver

    -- the holder's driver, before
    d_was : (d : DriverPart) × IsDriver s q d
    d_was = driver_of sound right step q x_was.0 x_was.1

    -- the node stood in the table before
    was_seen : IsSeen o s q k n
    was_seen = seen_before sound right step q k one key n there got seen

    -- the node was not destroyed
    was_alive : is_destroyed (node_at y_was.0 n.serial).state ≡ false
    was_alive = alive_before sound right step q k one key n there got seen y_was.0 y y_was.1 is_owner (not_destroyed (node_at y n.serial).state dying)

    -- where the node was dying
    was_dying : is_dying (node_at y_was.0 n.serial).state ≡ true → Then key.stamp q y e
    was_dying dies =
        collects_on sound right.holders.covered step q key.stamp x_was.0 (ref_of n) y_was.0 y e_was.0 e x_was.1 (listed_low sound right step q k one key n there got seen x_was.0 x_was.1) y_was.1 is_owner e_was.1 is_driver dies dying
        (right.holders.collected.collected q k x_was.0 one key n y_was.0 e_was.0 x_was.1 there got was_seen y_was.1 e_was.1 dies)

    -- where it was live
    was_live : is_live (node_at y_was.0 n.serial).state ≡ true → Then key.stamp q y e
    was_live alive = elim (begins_due sound right.holders.covered step key.stamp q x_was.0 d_was.0 (ref_of n) y_was.0 y e x_was.1 d_was.1 y_was.1 is_owner is_driver
        (y_was.0, y_was.1, node_made sound right step q k one key n there got seen y_was.0 y_was.1) alive dying
        (right.holders.travels.travels q k x_was.0 d_was.0 one key n y_was.0 x_was.1 d_was.1 there got was_seen y_was.1 was_alive)) [
          | inl came ↦ inl (inl (let rise = clocks_rise step n.owner y_was.0 y y_was.1 is_owner in omega (arith, came, rise)))
          | inr due ↦ inr due
        ]

    -- where it was either
    old_collected : Then key.stamp q y e
    old_collected = elim (live_or_dying (node_at y_was.0 n.serial).state was_alive) [ inl alive ↦ was_live alive | inr dies ↦ was_dying dies ]

  -- a new receipt
  module _ (new : NewCall step) (key : Key) (got : got_key new.call.answer ≡ Some key) (n : Node) (x y : PeerPart) (e : DriverPart)
      (is_peer : IsPeer t p x) (is_owner : IsPeer t n.owner y) (is_driver : IsDriver t n.owner e) (dying : is_dying (node_at y n.serial).state ≡ true) (some : 1 ≤ held_in (ref_of n) x.handles) where
    -- the state after the step is sound
    after : IsSound o t
    after = step_sound o s p c t sound step

    -- the node's record after the receipt
    held_now : (h : HandleRecord) × Has x.handles h × (h.node ≡ ref_of n) × (h.held ≡ held_in (ref_of n) x.handles)
    held_now = held_record (ref_of n) x.handles some

    -- the node is another peer's
    other : n.owner ≢ p
    other same = after.flights.foreign p x held_now.0 is_peer held_now.1 (ap (λ m. m.owner) held_now.2 ∙ same)

    -- the part that the receipt left
    is_new : x ≡ step.new_peer
    is_new = elim (peer_cases step p x is_peer) [ inl here ↦ here.1 | inr there ↦ absurd (there.0 (sym (at_own sound right step new key got))) ]

    -- where it was held before, or an attached slot of it was taken
    held_before : (1 ≤ held_in (ref_of n) step.peer.handles) ⊎ TakenIn step.peer (ref_of n)
    held_before =
        let from = held_event (TakenIn step.peer) o step.local.memory (going step) (going_doing step) (going_action step) step.peer (λ node is. is) held_now.0
        (subst (λ z. Has z.handles held_now.0) (is_new ∙ sym (parts step).is_peer) held_now.1) (let as_often = held_now.3 in omega (arith, as_often, some)) in
        elim (from.2.held (let as_often = held_now.3 in omega (arith, as_often, some))) [
          | inl was ↦
              let held = held_of step.peer.handles from.0 (sound.rising step.at step.peer step.is_peer) from.1 in
              let same = ap (λ m. held_in m step.peer.handles) (from.2.node ∙ held_now.2) in
              inl (omega (arith, was, held, same))
          | inr came ↦ inr (subst (TakenIn step.peer) held_now.2 came)
        ]

    -- the owner's part is as before
    owner_was : IsPeer s n.owner y
    owner_was = elim (peer_cases step n.owner y is_owner) [ inl here ↦ absurd (other (here.0 ∙ at_own sound right step new key got)) | inr there ↦ there.1 ]

    -- the owner's driver is as before
    driver_was : IsDriver s n.owner e
    driver_was = elim (driver_cases step n.owner e is_driver) [ inl own ↦ absurd (other own.0) | inr there ↦ there.1 ]

    -- the taken key is collected, or the holder is still to be visited
    new_collected : Then key.stamp p y e
    new_collected =
        let front = (receipt_taken step new key got).1 in
        let stamp = ap (λ k. k.stamp) front.2 in
        elim (taken_collected sound right p step.peer (ref_of n) y e (own_peer sound right step new key got) owner_was driver_was dying front.0 front.1 held_before) [
          | inl enough ↦ inl (inr (omega (arith, enough, stamp)))
          | inr due ↦ inr due
        ]

  -- a step keeps it
  pub collected_kept : SeenCollected o t
  collected_kept = record {
    collected = λ q k x one key n y e is_peer at got seen is_owner is_driver dying. elim (receipt_cases sound right step q k one at) [
      | inl old ↦ old_collected q k one key n old got seen x y e is_peer is_owner is_driver dying
      | inr (new, own, last, is) ↦
          let new_got = ap (λ z. got_key z.answer) (sym is) ∙ got in
          let here : IsPeer t p x = subst (λ r. IsPeer t r x) own is_peer in
          let d = driver_there sound right step p x here in
          let seen_here : IsSeen o t p (calls_len (record_of_state s) p) n = subst (λ r. IsSeen o t r (calls_len (record_of_state s) p) n) own (subst (λ m. IsSeen o t q m n) last seen) in
          subst (λ r. Then key.stamp r y e) (sym own) (new_collected new key new_got n x y e here is_owner is_driver dying (new_held sound right step new key new_got x d.0 n here d.1 seen_here))
    ];
  }
