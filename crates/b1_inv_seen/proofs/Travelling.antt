-- What a peer took comes to the owner of a node that it held: what a step leaves of that.
use Rattle.std.proofs.Common.{◌≡◌, refl, sym, ap, subst, ◌∙◌, inl, inr, ℕ, ◌≤◌, true, Option}
use Rattle.std.specs.Prelude.{slice_get}
use Rattle.std.proofs.lemmas.Option.{same_Some}
use native.Mathlib.Omega.{arith}
use Rattle.b1_model.specs.declared.commands.Command.{Command}
use Rattle.b1_model.specs.declared.naming.NodeRef.{NodeRef}
use Rattle.b1_model.specs.declared.naming.Opening.{Opening}
use Rattle.b1_model.specs.declared.events.Action.{Action}
use Rattle.b1_model.specs.declared.events.Action.TheVariants as act
use Rattle.b1_model.specs.declared.events.OwedDrop.{OwedDrop}
use Rattle.b1_model.specs.MachineParts.{PeerPart, DriverPart, State, same_ref}
use Rattle.b1_model.specs.MachineCounts.{dead_amount}
use Rattle.b1_model.specs.MachineDriver.{peer_of}
use Rattle.b1_model.specs.MachineEvents.{happens}
use Rattle.b1_model.specs.MachineStep.{Step}
use Rattle.b1_step.specs.Rights.{Has}
use Rattle.b1_step.proofs.Locality.{clocks_rise}
use Rattle.b1_step.proofs.Orders.{same_ref_is}
use Rattle.b1_inv.specs.Words.{IsPeer, IsDriver}
use Rattle.b1_inv.specs.Sound.{IsSound}
use Rattle.b1_inv_record.specs.Holders.{Travels}
use Rattle.b1_inv_tools.proofs.Leaves.{driver_cases, peer_cases, new_driver, new_peer}
use Rattle.b1_inv_notices.proofs.Turns.{parts, going, going_doing, going_action}
use Rattle.b1_inv_refs.proofs.Arrivals.{held_in}
use Rattle.b1_inv_seen.proofs.HoldEvents.{HeldThen, held_then, DeadThen, dead_then}
use Rattle.b1_inv_seen.proofs.Owes.{OwesNow, owes_released, owes_reaped, still_owed}

module _ {o : Opening} {s : State} {p : ℕ} {c : Option Command} {t : State} (sound : IsSound o s) (step : Step o s p c t)
    (stamp q : ℕ) (x x_then : PeerPart) (d d_then : DriverPart) (node : NodeRef) (y y_then : PeerPart)
    (was : IsPeer s q x) (now : IsPeer t q x_then) (driver_was : IsDriver s q d) (driver_now : IsDriver t q d_then) (owner_was : IsPeer s node.owner y) (owner_now : IsPeer t node.owner y_then) (low : stamp ≤ x.clock) where
  -- what is to be shown
  abbrev Then : Type 0
  Then = Travels stamp q x_then d_then y_then node

  -- the owner's clock doesn't fall
  y_rises : y.clock ≤ y_then.clock
  y_rises = clocks_rise step node.owner y y_then owner_was owner_now

  -- the driver's own event is at its own peer
  own_event : (action : Action) → going_action step ≡ action → peer_of step.driver.me action ≡ step.driver.me → q ≡ step.at → q ≡ p
  own_event action is own at = at ∙ sym (parts step).is_at ∙ ap (peer_of step.driver.me) is ∙ own ∙ sound.numbered.drivers p step.driver step.is_driver

  -- what is owed for the holder, from the step on
  owes_then : q ≡ p → step.peer ≡ x → OwesNow step node step.peer.clock → Then
  owes_then own same (one, there, is, holder, clock) =
      let driver : d_then ≡ step.new_driver = same_Some d_then step.new_driver (sym driver_now ∙ ap (slice_get t.drivers) own ∙ new_driver step) in
      let same_clock = ap (λ z. z.clock) same in
      inr (inr (one, subst (λ e. Has e.owed one) (sym driver) there, is, holder ∙ sound.numbered.drivers p step.driver step.is_driver ∙ sym own, omega (arith, low, clock, same_clock)))

  module _ (at : q ≡ step.at) (new : x_then ≡ step.new_peer) where
    -- the event's part is the holder's
    same : step.peer ≡ x
    same = same_Some step.peer x (sym step.is_peer ∙ ap (slice_get s.peers) (sym at) ∙ was)

    -- the holder's part after the event
    x_event : (happens o step.local.memory (going step) (going_doing step) (going_action step) step.peer).1 ≡ x_then
    x_event = (parts step).is_peer ∙ sym new

    -- where the event is at the holder, and it held the node
    held_here : 1 ≤ held_in node step.peer.handles → Then
    held_here some = by (held_then node o step.local.memory (going step) (going_doing step) step.peer (sound.rising step.at step.peer step.is_peer) (sound.numbers.numbered step.at step.peer step.is_peer) (going_action step) some)
      where
        by : HeldThen node o step.local.memory (going step) (going_doing step) step.peer (sound.rising step.at step.peer step.is_peer) (sound.numbers.numbered step.at step.peer step.is_peer) (going_action step) → Then
        by (inl (inl held)) = inl (inr (subst (λ z. 1 ≤ held_in node z.handles) x_event held))
        by (inl (inr dead)) = inr (inl (subst (λ z. 1 ≤ dead_amount node z.dead) x_event dead))
        by (inr (release, gone)) = owes_then (own_event act.Release release refl at) same (owes_released step node release gone)

    -- and where it was to give references up
    dead_here : 1 ≤ dead_amount node step.peer.dead → Then
    dead_here some = by (dead_then node o step.local.memory (going step) (going_doing step) step.peer (sound.rising step.at step.peer step.is_peer) (sound.numbers.numbered step.at step.peer step.is_peer) (going_action step) some)
      where
        by : DeadThen node o step.local.memory (going step) (going_doing step) step.peer (sound.rising step.at step.peer step.is_peer) (sound.numbers.numbered step.at step.peer step.is_peer) (going_action step) → Then
        by (inl dead) = inr (inl (subst (λ z. 1 ≤ dead_amount node z.dead) x_event dead))
        by (inr (reap, (item, rest, is, more))) = owes_then (own_event act.Reap reap refl at) same (owes_reaped step node item rest reap is more)

  -- what was held
  held_stays : 1 ≤ held_in node x.handles → Then
  held_stays some = elim (peer_cases step q x_then now) [
    | inl here ↦ held_here here.0 here.1 (subst (λ z. 1 ≤ held_in node z.handles) (sym (same here.0 here.1)) some)
    | inr there ↦ inl (inr (subst (λ z. 1 ≤ held_in node z.handles) (same_Some x x_then (sym was ∙ there.1)) some))
  ]

  -- what was to be given up
  dead_stays : 1 ≤ dead_amount node x.dead → Then
  dead_stays some = elim (peer_cases step q x_then now) [
    | inl here ↦ dead_here here.0 here.1 (subst (λ z. 1 ≤ dead_amount node z.dead) (sym (same here.0 here.1)) some)
    | inr there ↦ inr (inl (subst (λ z. 1 ≤ dead_amount node z.dead) (same_Some x x_then (sym was ∙ there.1)) some))
  ]

  -- what was owed
  owed_stays : (one : OwedDrop) → Has d.owed one → same_ref one.node node ≡ true → one.holder ≡ q → stamp ≤ one.clock → Then
  owed_stays one there is holder high = elim (driver_cases step q d_then driver_now) [
    | inr other ↦ inr (inr (one, subst (λ e. Has e.owed one) (same_Some d d_then (sym driver_was ∙ other.1)) there, is, holder, high))
    | inl own ↦
        let driver : d ≡ step.driver = same_Some d step.driver (sym driver_was ∙ ap (slice_get s.drivers) own.0 ∙ step.is_driver) in
        elim (still_owed step one (subst (λ e. Has e.owed one) driver there)) [
          | inl still ↦ inr (inr (one, subst (λ e. Has e.owed one) (sym own.1) still, is, holder, high))
          | inr made ↦
              let owner : node.owner ≡ step.at = sym (ap (λ n. n.owner) (same_ref_is one.node node is)) ∙ sym made.0 in
              let part : y_then ≡ step.new_peer = same_Some y_then step.new_peer (sym owner_now ∙ ap (slice_get t.peers) owner ∙ new_peer step) in
              let clock = ap (λ z. z.clock) part in
              let reached = made.1 in
              inl (inl (omega (arith, high, reached, clock)))
        ]
  ]

  -- what travelled travels on
  pub travels_on : Travels stamp q x d y node → Then
  travels_on (inl (inl came)) = let rise = y_rises in inl (inl (omega (arith, came, rise)))
  travels_on (inl (inr some)) = held_stays some
  travels_on (inr (inl some)) = dead_stays some
  travels_on (inr (inr (one, there, is, holder, high))) = owed_stays one there is holder high
