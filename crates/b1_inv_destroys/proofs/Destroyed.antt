-- Destroyed nodes have their destruction in the record, after every step that gives no destruction its stamp.
use Rattle.std.proofs.Common.{◌≡◌, refl, sym, ap, subst, ◌∙◌, inl, inr, ℕ, ◌<◌, Bool, true, false, List, length, Option, Some, None}
use Rattle.std.specs.Prelude.{slice_get}
use Rattle.std.proofs.lemmas.Bool.{cases_lt}
use Rattle.std.proofs.lemmas.Option.{slice_get_within, get_or_from_slice_get}
use native.Mathlib.Omega.{arith}
use Rattle.b1_model.specs.declared.commands.Command.{Command}
use Rattle.b1_model.specs.declared.naming.Key.{Key}
use Rattle.b1_model.specs.declared.naming.Opening.{Opening}
use Rattle.b1_model.specs.declared.answers.Reason.{Reason}
use Rattle.b1_model.specs.declared.events.Action.{Action}
use Rattle.b1_model.specs.declared.events.Action.TheVariants as act
use Rattle.b1_model.specs.declared.parts.NodeState.TheVariants.{Live, Dying, Destroyed}
use Rattle.b1_model.specs.MachineParts.{PeerPart, NodePart, State, no_node, node_at, is_destroyed}
use Rattle.b1_model.specs.MachineEvents.{happens, destroy_by, begin_refusal, begin_serials}
use Rattle.b1_model.specs.MachineStep.{Step}
use Rattle.b1_inv.specs.Words.{IsPeer}
use Rattle.b1_inv.specs.Sound.{IsSound}
use Rattle.b1_inv_record.specs.Destructions.{own_ref, doomed_key, DyingIsDoomed}
use Rattle.b1_inv_tools.proofs.Leaves.{peer_cases}
use Rattle.b1_inv_notices.proofs.Nodes.{NodesKept, nodes_kept, doomed_length, undoomed_state, doomed_state}
use Rattle.b1_inv_notices.proofs.Sets.{in_or_not}
use Rattle.b1_inv_notices.proofs.Turns.{parts, going, going_doing, going_action, get_there}
use Rattle.b1_inv_record.specs.Numbers.{DestroysOwn}
use Rattle.b1_inv_destroys.proofs.Stays.{doomed_stays}

-- the event that may give a destruction its stamp
abbrev pub is_stamp_destroy : Action → Bool
is_stamp_destroy act.StampDestroy = true
is_stamp_destroy action = false

-- a node that is destroyed afterwards was so before
abbrev WasDestroyed : PeerPart → PeerPart → Type 0
WasDestroyed x y = (serial stamp : ℕ) → serial < length y.nodes → (node_at y serial).state ≡ Destroyed stamp → (serial < length x.nodes) × ((node_at x serial).state ≡ Destroyed stamp)

begin_was : (r : Option Reason) (doomed : List ℕ) (x : PeerPart) → WasDestroyed x (destroy_by r doomed x).1
begin_was (Some r) doomed x serial stamp low is = (low, is)
begin_was None doomed x serial stamp low is =
    let within : serial < length x.nodes = let same = doomed_length Dying doomed x.nodes in omega (arith, low, same) in
    elim (in_or_not serial doomed) [
      | inl h ↦
          let both : Dying ≡ Destroyed stamp = sym (doomed_state Dying doomed x.nodes serial h within) ∙ is in
          let no : false ≡ true = ap is_destroyed both in absurd (cc no)
      | inr none ↦ (within, ap (λ n. n.state) (sym (undoomed_state Dying doomed x.nodes serial none)) ∙ is)
    ]

kept_was : (x y : PeerPart) → NodesKept x.nodes y.nodes → WasDestroyed x y
kept_was x y kept serial stamp low is = elim (cases_lt serial (length x.nodes)) [
  | inl within ↦ (within, sym (kept.state serial within) ∙ is)
  | inr high ↦
      let both : Live ≡ Destroyed stamp = sym (kept.live serial high low) ∙ is in
      let no : false ≡ true = ap is_destroyed both in absurd (cc no)
]

module _ {o : Opening} {s : State} {p : ℕ} {c : Option Command} {t : State} (sound : IsSound o s) (own : DestroysOwn s) (dying : DyingIsDoomed o s) (step : Step o s p c t) where
  was_destroyed : (action : Action) → is_stamp_destroy action ≡ false → WasDestroyed step.peer (happens o step.local.memory (going step) (going_doing step) action step.peer).1
  was_destroyed act.StampDestroy calm = absurd (cc calm)
  was_destroyed act.BeginDestroy calm = begin_was (begin_refusal (parts step).command step.peer) (begin_serials (parts step).command step.peer) step.peer
  was_destroyed action calm = kept_was step.peer (happens o step.local.memory (going step) (going_doing step) action step.peer).1 (nodes_kept o step.local.memory (going step) (going_doing step) action step.peer refl)

  -- a destroyed node of the state before, in the record after
  old_destroyed : (q serial stamp : ℕ) (x : PeerPart) → IsPeer s q x → serial < length x.nodes → (node_at x serial).state ≡ Destroyed stamp → (key : Key) × (doomed_key o t (own_ref q serial) ≡ Some key) × (key.stamp ≡ stamp)
  old_destroyed q serial stamp x is low state =
      let n = get_there x.nodes serial low in
      let same = get_or_from_slice_get x.nodes serial n.0 no_node n.1 in
      let k = dying.destroyed q serial stamp x n.0 is n.1 (ap (λ m. m.state) (sym same) ∙ state) in
      (k.0, doomed_stays sound own step (own_ref q serial) k.0 k.1, k.2)

  pub destroyed_kept : is_stamp_destroy (going_action step) ≡ false → (q serial stamp : ℕ) (y : PeerPart) (n : NodePart) → IsPeer t q y → slice_get y.nodes serial ≡ Some n → n.state ≡ Destroyed stamp
      → (key : Key) × (doomed_key o t (own_ref q serial) ≡ Some key) × (key.stamp ≡ stamp)
  destroyed_kept calm q serial stamp y n is at state =
      let low = slice_get_within y.nodes serial n at in
      let at_node : (node_at y serial).state ≡ Destroyed stamp = ap (λ m. m.state) (get_or_from_slice_get y.nodes serial n no_node at) ∙ state in
      elim (peer_cases step q y is) [
        | inr other ↦ old_destroyed q serial stamp y other.1 low at_node
        | inl here ↦
            let same : y ≡ (happens o step.local.memory (going step) (going_doing step) (going_action step) step.peer).1 = here.1 ∙ sym (parts step).is_peer in
            let k = was_destroyed (going_action step) calm serial stamp (subst (λ z. serial < length z.nodes) same low) (ap (λ z. (node_at z serial).state) (sym same) ∙ at_node) in
            old_destroyed q serial stamp step.peer (subst (λ r. IsPeer s r step.peer) (sym here.0) step.is_peer) k.0 k.1
      ]
