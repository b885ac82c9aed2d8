-- A destruction begins: a peer whose receipts haven't come to a doomed node's owner has references to it, and is to be visited.
use Rattle.std.proofs.Common.{◌≡◌, ◌≢◌, ◌⊎◌, refl, sym, ap, subst, ◌∙◌, inl, inr, ℕ, zero, suc, ◌+◌, ◌≤◌, ◌==◌, ◌&&◌, true, false, cond, List, [], ◌∷◌, Option, Some, None}
use Rattle.std.specs.Prelude.{slice_get}
use Rattle.std.proofs.lemmas.Bool.{eq-eqb}
use Rattle.std.proofs.lemmas.Option.{same_Some}
use native.Mathlib.Omega.{arith}
use Rattle.b1_model.specs.declared.commands.Command.{Command}
use Rattle.b1_model.specs.declared.naming.NodeRef.{NodeRef}
use Rattle.b1_model.specs.declared.naming.Opening.{Opening}
use Rattle.b1_model.specs.declared.events.OwedDrop.{OwedDrop}
use Rattle.b1_model.specs.MachineParts.{PeerPart, DriverPart, State, is_live, is_dying, same_ref, node_at, no_record}
use Rattle.b1_model.specs.declared.parts.NodeState.{NodeState}
use Rattle.b1_model.specs.declared.parts.NodeState.TheVariants.{Live, Dying, Destroyed}
use Rattle.b1_model.specs.MachineCounts.{amount_in, dead_amount, queue_amount, peer_amount, owed_amount, driver_amount, fresh}
use Rattle.b1_model.specs.MachineStep.{Step}
use Rattle.b1_step.specs.Rights.{Has}
use Rattle.b1_step.proofs.Orders.{same_ref_is}
use Rattle.b1_inv.specs.Words.{IsPeer, IsDriver, IsMade}
use Rattle.b1_inv.specs.Sound.{IsSound}
use Rattle.b1_inv_record.specs.Holders.{HolderCovered, IsCovered, IsDue, Travels}
use Rattle.b1_inv_tools.proofs.Leaves.{peer_cases}
use Rattle.b1_inv_refs.proofs.Amounts.{Refs, dead_cons, owed_cons}
use Rattle.b1_inv_refs.proofs.Counting.{member_le}
use Rattle.b1_inv_refs.proofs.Arrivals.{held_in}
use Rattle.b1_inv_holders.proofs.Held.{at_owner}
use Rattle.b1_inv_seen.proofs.HoldEvents.{held_record}
use Rattle.b1_inv_seen.proofs.Owes.{ref_there}

-- an item of a dead list that has references to a node
dead_there : (node : NodeRef) (dead : List Refs) → 1 ≤ dead_amount node dead → (item : Refs) × Has dead item × (1 ≤ amount_in node item)
dead_there node [] none = absurd (omega (arith, none))
dead_there node (item ∷ rest) some = by (amount_in node item) refl (λ more. dead_there node rest more)
  where
    by : (n : ℕ) → amount_in node item ≡ n → (1 ≤ dead_amount node rest → (one : Refs) × Has rest one × (1 ≤ amount_in node one)) → (one : Refs) × Has (item ∷ rest) one × (1 ≤ amount_in node one)
    by zero none further = let all_of = dead_cons node item rest in let k = further (omega (arith, all_of, none, some)) in (k.0, inr k.1, k.2)
    by (suc n) more further = (item, inl refl, omega (arith, more))

-- an owed drop counts
owed_there : (node : NodeRef) (holder : ℕ) (owed : List OwedDrop) (one : OwedDrop) → Has owed one → same_ref one.node node ≡ true → one.holder ≡ holder → one.amount ≤ owed_amount node holder owed
owed_there node holder [] one there same mine = absurd there
owed_there node holder (first ∷ rest) one (inl is) same mine =
    let all_of = owed_cons node holder first rest in
    let test : (same_ref first.node node && (first.holder == holder)) ≡ true = ap (λ z. same_ref z.node node && (z.holder == holder)) (sym is) ∙ ap (λ b. b && (one.holder == holder)) same ∙ eq-eqb one.holder holder mine in
    let counted : cond {A = ℕ} (same_ref first.node node && (first.holder == holder)) first.amount 0 ≡ first.amount = ap (λ b. cond b first.amount 0) test in
    let amount = ap (λ z. z.amount) is in
    omega (arith, all_of, counted, amount)
owed_there node holder (first ∷ rest) one (inr more) same mine = let all_of = owed_cons node holder first rest in let further = owed_there node holder rest one more same mine in omega (arith, all_of, further)

module _ {o : Opening} {s : State} (sound : IsSound o s) where
  -- what hasn't come to the owner is counted there, of another peer
  pub counted_or_came : (low q : ℕ) (x : PeerPart) (d : DriverPart) (y : PeerPart) (node : NodeRef) → IsPeer s q x → IsDriver s q d → Travels low q x d y node → (low ≤ y.clock) ⊎ ((q ≢ node.owner) × (1 ≤ fresh s node q))
  counted_or_came low q x d y node is_peer is_driver (inl (inl came)) = inl came
  counted_or_came low q x d y node is_peer is_driver (inl (inr some)) =
      let h = held_record node x.handles some in
      let mine : elim (slice_get s.peers q) [ None ↦ 0 | Some z ↦ peer_amount node z ] ≡ held_in node x.handles + queue_amount node x.queue + dead_amount node x.dead = ap (λ r. elim r [ None ↦ 0 | Some z ↦ peer_amount node z ]) is_peer in
      inr (λ same. sound.flights.foreign q x h.0 is_peer h.1 (ap (λ n. n.owner) h.2 ∙ sym same), omega (arith, mine, some))
  counted_or_came low q x d y node is_peer is_driver (inr (inl some)) =
      let item = dead_there node x.dead some in
      let r = ref_there node item.0 item.2 in
      let mine : elim (slice_get s.peers q) [ None ↦ 0 | Some z ↦ peer_amount node z ] ≡ held_in node x.handles + queue_amount node x.queue + dead_amount node x.dead = ap (λ z. elim z [ None ↦ 0 | Some w ↦ peer_amount node w ]) is_peer in
      inr (λ same. (sound.references.dead q x item.0 r.0 is_peer item.1 r.1).2 (ap (λ n. n.owner) (same_ref_is r.0.0 node r.2) ∙ sym same), omega (arith, mine, some))
  counted_or_came low q x d y node is_peer is_driver (inr (inr (one, there, is, holder, high))) =
      let drop = sound.references.owed q d one is_driver there in
      let some = drop.some in
      let counted = owed_there node q d.owed one there is holder in
      let member = member_le (driver_amount node q) s.drivers q d is_driver in
      inr (λ same. drop.other (holder ∙ same ∙ sym (ap (λ n. n.owner) (same_ref_is one.node node is))), omega (arith, some, counted, member))

  module _ (covered : HolderCovered s) {p : ℕ} {c : Option Command} {t : State} (step : Step o s p c t) where
    -- a node that was live and is dying: its holders are to be visited
    pub begins_due : (low q : ℕ) (x : PeerPart) (d : DriverPart) (node : NodeRef) (y y_then : PeerPart) (e_then : DriverPart) → IsPeer s q x → IsDriver s q d → IsPeer s node.owner y → IsPeer t node.owner y_then → IsDriver t node.owner e_then → IsMade s node
        → is_live (node_at y node.serial).state ≡ true → is_dying (node_at y_then node.serial).state ≡ true → Travels low q x d y node → (low ≤ y.clock) ⊎ IsDue q y_then e_then
    begins_due low q x d node y y_then e_then is_peer is_driver owner_was owner_now driver_now made alive dying travels = elim (counted_or_came low q x d y node is_peer is_driver travels) [
      | inl came ↦ inl came
      | inr (other, some) ↦ elim (peer_cases step node.owner y_then owner_now) [
        | inr there ↦
            let same : y ≡ y_then = same_Some y y_then (sym owner_was ∙ there.1) in
            let both : true ≡ false = sym alive ∙ ap (λ z. is_live (node_at z node.serial).state) same ∙ not_live (node_at y_then node.serial).state dying in
            absurd (cc both)
        | inl here ↦
            let same : y ≡ step.peer = same_Some y step.peer (sym owner_was ∙ ap (slice_get s.peers) here.0 ∙ step.is_peer) in
            let alive_here : is_live (node_at step.peer node.serial).state ≡ true = subst (λ z. is_live (node_at z node.serial).state ≡ true) same alive in
            due (at_owner sound covered step q x (no_record node) y_then e_then (λ at. other (at ∙ sym here.0)) is_peer made some
            (λ e is dead. let both : true ≡ false = sym alive_here ∙ dead in absurd (cc both)) here.0 here.1 driver_now (not_live (node_at y_then node.serial).state dying))
      ]
    ]
      where
        not_live : (state : NodeState) → is_dying state ≡ true → is_live state ≡ false
        not_live Live is = absurd (cc is)
        not_live Dying is = refl
        not_live (Destroyed stamp) is = absurd (cc is)

        due : IsCovered q (no_record node) y_then e_then → (low ≤ y.clock) ⊎ IsDue q y_then e_then
        due (inl (inl noted)) = absurd (cc noted)
        due (inl (inr dead)) = absurd (cc dead)
        due (inr (dies, is)) = inr is
