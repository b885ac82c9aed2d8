-- What an event makes of destroyed nodes, where no destruction gets its stamp: they stay, and none joins them.
use Rattle.std.proofs.Common.{◌≡◌, refl, sym, ap, ◌∙◌, inl, inr, ℕ, ◌<◌, ◌≤◌, Bool, true, false, cond, List, [], ◌∷◌, length, Option, Some, None, Ok, Err}
use Rattle.std.proofs.lemmas.Bool.{cases_lt}
use native.Mathlib.Omega.{arith}
use Rattle.b1_model.specs.declared.commands.Command.{Command}
use Rattle.b1_model.specs.declared.commands.Command.TheVariants as cmd
use Rattle.b1_model.specs.declared.naming.Opening.{Opening}
use Rattle.b1_model.specs.declared.answers.Reason.{Reason}
use Rattle.b1_model.specs.declared.parts.NodeState.TheVariants.{Live, Dying, Destroyed}
use Rattle.b1_model.specs.declared.events.Action.TheVariants as act
use Rattle.b1_model.specs.declared.events.Destruction.{Destruction}
use Rattle.b1_model.specs.declared.events.Outcome.TheVariants as out
use Rattle.b1_model.specs.declared.events.OwedDrop.{OwedDrop}
use Rattle.b1_model.specs.declared.events.Phase.{Phase}
use Rattle.b1_model.specs.declared.events.Phase.TheVariants.{Starting, Dooming}
use Rattle.b1_model.specs.MachineParts.{PeerPart, DriverPart, is_destroyed, node_at}
use Rattle.b1_model.specs.MachineSend.{final_stamp}
use Rattle.b1_model.specs.MachineDestroy.{doom_by}
use Rattle.b1_model.specs.MachineDriver.{first_action, next_action}
use Rattle.b1_model.specs.MachineEvents.{happens, destroy_by, begin_refusal, begin_serials}
use Rattle.b1_inv_notices.proofs.Nodes.{NodesKept, nodes_kept, doomed_length, undoomed_state, doomed_state}
use Rattle.b1_inv_notices.proofs.Sets.{in_or_not}
use Rattle.b1_inv_notices.proofs.Turns.{doing_in, opened, answered}
use Rattle.b1_inv_destroys.proofs.Nodes.{begun_live, live_apart}
use Rattle.b1_inv_doomed.proofs.CalmCalls.{NoStamp}

-- the same nodes are destroyed, with the same stamps, and no node is lost
pub record SameDestroyed (x y : PeerPart) : Type 0 where
  pub within : length x.nodes ≤ length y.nodes
  pub was : (serial stamp : ℕ) → serial < length y.nodes → (node_at y serial).state ≡ Destroyed stamp → (serial < length x.nodes) × ((node_at x serial).state ≡ Destroyed stamp)
  pub stays : (serial stamp : ℕ) → serial < length x.nodes → (node_at x serial).state ≡ Destroyed stamp → (node_at y serial).state ≡ Destroyed stamp

same_destroyed : (x y : PeerPart) → y.nodes ≡ x.nodes → SameDestroyed x y
same_destroyed x y same = record {
  within = let k = ap length same in omega (arith, k);
  was = λ serial stamp low is. (let k = ap length same in omega (arith, k, low), ap (λ ns. (node_at (record x { nodes = ns }) serial).state) (sym same) ∙ is);
  stays = λ serial stamp low is. ap (λ ns. (node_at (record x { nodes = ns }) serial).state) same ∙ is;
}

kept_destroyed : (x y : PeerPart) → NodesKept x.nodes y.nodes → SameDestroyed x y
kept_destroyed x y kept = record {
  within = kept.within;
  was = λ serial stamp low is. elim (cases_lt serial (length x.nodes)) [
    | inl within ↦ (within, sym (kept.state serial within) ∙ is)
    | inr high ↦
        let both : Live ≡ Destroyed stamp = sym (kept.live serial high low) ∙ is in
        let wrong : false ≡ true = ap is_destroyed both in absurd (cc wrong)
  ];
  stays = λ serial stamp low is. kept.state serial low ∙ is;
}

begun_destroyed : (command : Command) (r : Option Reason) (x : PeerPart) → SameDestroyed x (destroy_by r (begin_serials command x) x).1
begun_destroyed command (Some r) x = same_destroyed x x refl
begun_destroyed command None x = record {
  within = let k = doomed_length Dying (begin_serials command x) x.nodes in omega (arith, k);
  was = λ serial stamp low is.
      let within : serial < length x.nodes = (let k = doomed_length Dying (begin_serials command x) x.nodes in omega (arith, low, k)) in
      elim (in_or_not serial (begin_serials command x)) [
        | inl h ↦
            let both : Dying ≡ Destroyed stamp = sym (doomed_state Dying (begin_serials command x) x.nodes serial h within) ∙ is in
            let wrong : false ≡ true = ap is_destroyed both in absurd (cc wrong)
        | inr none ↦ (within, ap (λ n. n.state) (sym (undoomed_state Dying (begin_serials command x) x.nodes serial none)) ∙ is)
      ];
  stays = λ serial stamp low is.
      ap (λ n. n.state) (undoomed_state Dying (begin_serials command x) x.nodes serial (λ h. live_apart (node_at x serial).state (begun_live x command serial h) (ap is_destroyed is))) ∙ is;
}

-- where a stamp is asked for and not given
late_destroyed : (late : List ℕ) (x : PeerPart) (destruction : Destruction) → NoStamp (Dooming destruction) (out.StampDestroy (elim late [ [] ↦ Ok (final_stamp x destruction.collected) | peer ∷ rest ↦ Err (peer ∷ rest) ])) → SameDestroyed x (doom_by late x destruction.collected destruction.doomed)
late_destroyed [] x destruction none = absurd none
late_destroyed (peer ∷ rest) x destruction none = same_destroyed x (record x { late = [] }) refl

module _ (o : Opening) (memory : Bool) (d : DriverPart) (command : Command) (x : PeerPart) where
  first_destroyed : (c : Command) (shut : Bool) → SameDestroyed x (happens o memory (opened d c Starting []) (doing_in c Starting) (cond shut act.Local (first_action c)) x).1
  first_destroyed c true = kept_destroyed x _ (nodes_kept o memory (opened d c Starting []) (doing_in c Starting) act.Local x refl)
  first_destroyed cmd.Disconnect false = begun_destroyed cmd.Disconnect (begin_refusal cmd.Disconnect x) x
  first_destroyed (cmd.Reset limits) false = begun_destroyed (cmd.Reset limits) (begin_refusal (cmd.Reset limits) x) x
  first_destroyed (cmd.Destroy numbers) false = begun_destroyed (cmd.Destroy numbers) (begin_refusal (cmd.Destroy numbers) x) x
  first_destroyed c false = kept_destroyed x _ (nodes_kept o memory (opened d c Starting []) (doing_in c Starting) (first_action c) x refl)

  pub calm_destroyed : (phase : Phase) (owed : List OwedDrop) → NoStamp phase (answered o memory d command phase owed x).0 → SameDestroyed x (answered o memory d command phase owed x).1
  calm_destroyed phase (one ∷ rest) none = kept_destroyed x _ (nodes_kept o memory (opened d command phase (one ∷ rest)) (doing_in command phase) (next_action (opened d command phase (one ∷ rest))) x refl)
  calm_destroyed Starting [] none = first_destroyed command d.shut
  calm_destroyed (Dooming destruction) [] none = late_destroyed x.late x destruction none
  calm_destroyed phase [] none = kept_destroyed x _ (nodes_kept o memory (opened d command phase []) (doing_in command phase) (next_action (opened d command phase [])) x refl)
