-- What a driver owes behind a step: what it owed, but for the drop that it has just made; or what its peer released or reaped.
use Rattle.std.proofs.Common.{◌≡◌, ◌⊎◌, refl, sym, ap, subst, ◌∙◌, inl, inr, ℕ, ◌≤◌, Bool, true, false, cond, List, [], ◌∷◌, drop, Option, Some, None, Ok}
use native.Mathlib.Omega.{arith}
use Rattle.b1_model.specs.declared.commands.Command.{Command}
use Rattle.b1_model.specs.declared.naming.NodeRef.{NodeRef}
use Rattle.b1_model.specs.declared.naming.Opening.{Opening}
use Rattle.b1_model.specs.declared.events.Action.{Action}
use Rattle.b1_model.specs.declared.events.Action.TheVariants as act
use Rattle.b1_model.specs.declared.events.OwedDrop.{OwedDrop}
use Rattle.b1_model.specs.declared.events.Outcome.TheVariants as out
use Rattle.b1_model.specs.MachineParts.{State, same_ref}
use Rattle.b1_model.specs.MachineReceive.{reaped, has_dead, reaped_part, released, is_released, dropped_refs}
use Rattle.b1_model.specs.MachineCounts.{amount_in}
use Rattle.b1_model.specs.MachineDriver.{next_action, peer_of, turn}
use Rattle.b1_model.specs.MachineTook.{drops_of, owed_after, with_facts}
use Rattle.b1_model.specs.MachineEvents.{happens, number_of}
use Rattle.b1_model.specs.MachineStep.{Step}
use Rattle.b1_step.specs.Rights.{Has}
use Rattle.b1_step.proofs.Orders.{same_ref_itself}
use Rattle.b1_inv_notices.proofs.Turns.{opened, parts, going, going_doing, going_action, going_answer}
use Rattle.b1_inv_refs.proofs.Amounts.{Refs, refs_cons}
use Rattle.b1_inv_refs.proofs.Owing.{turned_owed}
use Rattle.b1_inv_cover.proofs.Came.{drop_clock}

-- references of which some are to a node have one to it
pub ref_there : (node : NodeRef) (refs : Refs) → 1 ≤ amount_in node refs → (r : NodeRef × ℕ) × Has refs r × (same_ref r.0 node ≡ true)
ref_there node [] none = absurd (omega (arith, none))
ref_there node (r ∷ rest) some = by (same_ref r.0 node) refl (λ more. ref_there node rest more)
  where
    by : (b : Bool) → same_ref r.0 node ≡ b → (1 ≤ amount_in node rest → (q : NodeRef × ℕ) × Has rest q × (same_ref q.0 node ≡ true)) → (q : NodeRef × ℕ) × Has (r ∷ rest) q × (same_ref q.0 node ≡ true)
    by true is further = (r, inl refl, is)
    by false is further =
        let all_of = refs_cons node r rest in
        let none : cond {A = ℕ} (same_ref r.0 node) r.1 0 ≡ 0 = ap (λ b. cond b r.1 0) is in
        let k = further (omega (arith, all_of, none, some)) in
        (k.0, inr k.1, k.2)

-- each of the references is a drop
drop_there : (holder clock : ℕ) (refs : Refs) (r : NodeRef × ℕ) → Has refs r → Has (drops_of holder clock refs) (record { node = r.0; holder = holder; amount = r.1; clock = clock })
drop_there holder clock [] r there = absurd there
drop_there holder clock (q ∷ rest) r (inl same) = inl (ap (λ z. record { node = z.0; holder = holder; amount = z.1; clock = clock }) same)
drop_there holder clock (q ∷ rest) r (inr there) = inr (drop_there holder clock rest r there)

module _ {o : Opening} {s : State} {p : ℕ} {c : Option Command} {t : State} (step : Step o s p c t) where
  -- a drop of a node for the driver's own peer, with a clock
  abbrev pub OwesNow : NodeRef → ℕ → Type 0
  OwesNow node clock = (one : OwedDrop) × Has step.new_driver.owed one × (same_ref one.node node ≡ true) × (one.holder ≡ step.driver.me) × (one.clock ≡ clock)

  -- what is owed, by the event's answer
  new_owed : step.new_driver.owed ≡ owed_after step.driver.me (parts step).phase step.driver.owed (going_answer step)
  new_owed =
      ap (λ e. e.owed) (sym (parts step).is_driver)
      ∙ turned_owed (with_facts (going step) (going_doing step) (going_answer step)) (parts step).command (turn step.driver.me (parts step).command (parts step).phase (going_answer step))

  -- the event's answer, by the event
  answer_is : (action : Action) → going_action step ≡ action → going_answer step ≡ (happens o step.local.memory (going step) (going_doing step) action step.peer).0
  answer_is action is = ap (λ a. (happens o step.local.memory (going step) (going_doing step) a step.peer).0) is

  -- what was released is owed
  pub owes_released : (node : NodeRef) → going_action step ≡ act.Release → released step.peer (number_of (parts step).command) ≡ Ok (record { node = node; clock = step.peer.clock }) → OwesNow node step.peer.clock
  owes_released node is gone =
      let owed : step.new_driver.owed ≡ drops_of step.driver.me step.peer.clock ((node, 1) ∷ []) =
      new_owed ∙ ap (owed_after step.driver.me (parts step).phase step.driver.owed) (answer_is act.Release is) ∙ ap (λ got. owed_after step.driver.me (parts step).phase step.driver.owed (out.Release got)) gone
      in
      (record { node = node; holder = step.driver.me; amount = 1; clock = step.peer.clock }, subst (λ l. Has l (record { node = node; holder = step.driver.me; amount = 1; clock = step.peer.clock })) (sym owed) (inl refl), same_ref_itself node, refl, refl)

  -- what was reaped is owed
  pub owes_reaped : (node : NodeRef) (item : Refs) (rest : List Refs) → going_action step ≡ act.Reap → step.peer.dead ≡ item ∷ rest → 1 ≤ amount_in node item → OwesNow node step.peer.clock
  owes_reaped node item rest is dead some =
      let got : reaped step.peer ≡ Some (record { drops = item; clock = step.peer.clock }) = ap (λ d. elim d [ [] ↦ None | one ∷ more ↦ Some (record { drops = one; clock = step.peer.clock }) ]) dead in
      let owed : step.new_driver.owed ≡ drops_of step.driver.me step.peer.clock item =
      new_owed ∙ ap (owed_after step.driver.me (parts step).phase step.driver.owed) (answer_is act.Reap is) ∙ ap (λ z. owed_after step.driver.me (parts step).phase step.driver.owed (out.Reap z (has_dead (reaped_part step.peer)))) got
      in
      let r = ref_there node item some in
      let one : OwedDrop = record { node = r.0.0; holder = step.driver.me; amount = r.0.1; clock = step.peer.clock } in
      (one, subst (λ l. Has l one) (sym owed) (drop_there step.driver.me step.peer.clock item r.0 r.1), r.2, refl, refl)

  -- the drop that is made comes to its node's owner
  first_drop : (first : OwedDrop) (rest : List OwedDrop) → step.driver.owed ≡ first ∷ rest → (step.new_driver.owed ≡ rest) × ((step.at ≡ first.node.owner) × (first.clock ≤ step.new_peer.clock))
  first_drop first rest owed =
      let is : going_action step ≡ act.DropRefs first.node.owner first.node.serial first.holder first.amount first.clock = ap (λ l. next_action (opened step.driver (parts step).command (parts step).phase l)) owed in
      let left : step.new_driver.owed ≡ rest =
      new_owed ∙ ap (owed_after step.driver.me (parts step).phase step.driver.owed) (answer_is (act.DropRefs first.node.owner first.node.serial first.holder first.amount first.clock) is) ∙ ap (drop 1) owed
      in
      let at : step.at ≡ first.node.owner = sym (parts step).is_at ∙ ap (peer_of step.driver.me) is in
      let peer = ap (λ z. z.clock) (sym (parts step).is_peer ∙ ap (λ a. (happens o step.local.memory (going step) (going_doing step) a step.peer).1) is) in
      let clock = drop_clock (is_released (dropped_refs step.peer first.node.serial first.holder first.amount first.clock) first.node.serial) step.peer first.node.serial first.holder first.amount first.clock in
      (left, (at, omega (arith, peer, clock)))

  -- what was owed is still owed, or has come to its node's owner
  pub still_owed : (one : OwedDrop) → Has step.driver.owed one → Has step.new_driver.owed one ⊎ ((step.at ≡ one.node.owner) × (one.clock ≤ step.new_peer.clock))
  still_owed one there = by step.driver.owed refl there
    where
      by : (owed : List OwedDrop) → step.driver.owed ≡ owed → Has owed one → Has step.new_driver.owed one ⊎ ((step.at ≡ one.node.owner) × (one.clock ≤ step.new_peer.clock))
      by [] is none = absurd none
      by (first ∷ rest) is (inl same) = inr (subst (λ z. (step.at ≡ z.node.owner) × (z.clock ≤ step.new_peer.clock)) (sym same) (first_drop first rest is).1)
      by (first ∷ rest) is (inr more) = inl (subst (λ l. Has l one) (sym (first_drop first rest is).0) more)
