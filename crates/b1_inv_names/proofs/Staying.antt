-- A destroyed node stays destroyed.
use Rattle.std.proofs.Common.{◌≡◌, refl, sym, ap, subst, ◌∙◌, inl, inr, ℕ, zero, suc, ◌+◌, ◌<◌, Bool, true, false, cond, List, [], ◌∷◌, get_or, set, filter_map, length, Option, Some, None}
use Rattle.std.specs.Bool.{then_some}
use Rattle.std.proofs.lemmas.Option.{same_Some}
use native.Mathlib.Omega.{arith}
use Rattle.b1_model.specs.declared.commands.Command.{Command}
use Rattle.b1_model.specs.declared.commands.Command.TheVariants as cmd
use Rattle.b1_model.specs.declared.naming.Opening.{Opening}
use Rattle.b1_model.specs.declared.answers.Reason.{Reason}
use Rattle.b1_model.specs.declared.parts.NodeState.{NodeState}
use Rattle.b1_model.specs.declared.parts.NodeState.TheVariants.{Live, Dying, Destroyed}
use Rattle.b1_model.specs.declared.events.Action.{Action}
use Rattle.b1_model.specs.declared.events.Action.TheVariants as act
use Rattle.b1_model.specs.declared.events.Doing.{Doing}
use Rattle.b1_model.specs.MachineParts.{PeerPart, NodePart, DriverPart, State, is_live, is_destroyed, no_node, node_at}
use Rattle.b1_model.specs.MachineTables.{serial_of, with_node, with_nodes, in_state}
use Rattle.b1_model.specs.MachineSend.{final_stamp}
use Rattle.b1_model.specs.MachineDestroy.{live_serial, live_serials, destroy_serials, reset_serials, doom_by}
use Rattle.b1_model.specs.MachineEvents.{happens, destroy_by, begin_refusal, begin_serials, collected_of, doomed_of}
use Rattle.b1_model.specs.MachineStep.{Step}
use Rattle.b1_step.specs.Rights.{Has}
use Rattle.b1_inv.specs.Words.{IsPeer}
use Rattle.b1_inv_tools.proofs.Leaves.{peer_cases}
use Rattle.b1_inv_notices.proofs.Nodes.{dooms, nodes_kept, undoomed_state}
use Rattle.b1_inv_notices.proofs.Turns.{parts, going, going_doing, going_action}
use Rattle.b1_inv_names.specs.Destroyed.{DestroyedStay}

-- ---- only live nodes are doomed

live_listed : (here : ℕ) (ns : List NodePart) (i : ℕ) → Has (live_serials here ns) i → (j : ℕ) × (i ≡ here + j) × (is_live (get_or ns j no_node).state ≡ true)
live_listed here [] i h = absurd h
live_listed here (n ∷ ns) i h = by (is_live n.state) refl h (live_listed (here + 1) ns i)
  where
    by : (b : Bool) → is_live n.state ≡ b → Has (cond b (here ∷ live_serials (here + 1) ns) (live_serials (here + 1) ns)) i → (Has (live_serials (here + 1) ns) i → (j : ℕ) × (i ≡ here + 1 + j) × (is_live (get_or ns j no_node).state ≡ true)) → (j : ℕ) × (i ≡ here + j) × (is_live (get_or (n ∷ ns) j no_node).state ≡ true)
    by true is (inl same) further = (0, omega (arith, same), is)
    by true is (inr h) further = let k = further h in (suc k.0, let e = k.1 in omega (arith, e), k.2)
    by false is h further = let k = further h in (suc k.0, let e = k.1 in omega (arith, e), k.2)

module _ (x : PeerPart) where
  live_found : (number i : ℕ) → live_serial x number ≡ Some i → is_live (node_at x i).state ≡ true
  live_found number i is = at (serial_of number x.nodes) is
    where
      at : (r : Option ℕ) → elim r [ None ↦ None | Some one ↦ then_some (is_live (node_at x one).state) one ] ≡ Some i → is_live (node_at x i).state ≡ true
      at None none = absurd (cc none)
      at (Some one) some = by (is_live (node_at x one).state) refl some
        where
          by : (b : Bool) → is_live (node_at x one).state ≡ b → then_some b one ≡ Some i → is_live (node_at x i).state ≡ true
          by true live same = subst (λ k. is_live (node_at x k).state ≡ true) (same_Some one i same) live
          by false live same = absurd (cc same)

  named_live : (numbers : List ℕ) (i : ℕ) → Has (destroy_serials x numbers) i → is_live (node_at x i).state ≡ true
  named_live [] i h = absurd h
  named_live (n ∷ rest) i h = by (live_serial x n) refl (named_live rest i)
    where
      by : (r : Option ℕ) → live_serial x n ≡ r → (Has (destroy_serials x rest) i → is_live (node_at x i).state ≡ true) → is_live (node_at x i).state ≡ true
      by None is further = let same : filter_map (live_serial x) (n ∷ rest) ≡ filter_map (live_serial x) rest = rw is refl in further (subst (λ l. Has l i) same h)
      by (Some one) is further =
          let same : filter_map (live_serial x) (n ∷ rest) ≡ one ∷ filter_map (live_serial x) rest = rw is refl in
          elim (subst (λ l. Has l i) same h) [ inl here ↦ live_found n i (is ∙ ap Some (sym here)) | inr there ↦ further there ]

  reset_live : (i : ℕ) → Has (reset_serials x) i → is_live (node_at x i).state ≡ true
  reset_live i h = let k = live_listed 0 x.nodes i h in let same : k.0 ≡ i = (let e = k.1 in omega (arith, e)) in subst (λ j. is_live (node_at x j).state ≡ true) same k.2

  doomed_live : (command : Command) (i : ℕ) → Has (begin_serials command x) i → is_live (node_at x i).state ≡ true
  doomed_live (cmd.Destroy numbers) i h = named_live numbers i h
  doomed_live command i h = reset_live i h

apart_live : (state : NodeState) → is_destroyed state ≡ true → is_live state ≡ true → ⊥
apart_live Live gone live = absurd (cc gone)
apart_live Dying gone live = absurd (cc live)
apart_live (Destroyed stamp) gone live = absurd (cc live)

begin_stays : (command : Command) (r : Option Reason) (x : PeerPart) (i : ℕ) → is_destroyed (node_at x i).state ≡ true → is_destroyed (node_at (destroy_by r (begin_serials command x) x).1 i).state ≡ true
begin_stays command (Some r) x i gone = gone
begin_stays command None x i gone = ap (λ n. is_destroyed n.state) (undoomed_state Dying (begin_serials command x) x.nodes i (λ h. apart_live (node_at x i).state gone (doomed_live x command i h))) ∙ gone

gone_after : (ns : List NodePart) (one i : ℕ) (m : NodePart) → is_destroyed m.state ≡ true → is_destroyed (get_or ns i no_node).state ≡ true → is_destroyed (get_or (set ns one m) i no_node).state ≡ true
gone_after [] one i m dead is = is
gone_after (n ∷ ns) zero zero m dead is = dead
gone_after (n ∷ ns) zero (suc i) m dead is = is
gone_after (n ∷ ns) (suc one) zero m dead is = is
gone_after (n ∷ ns) (suc one) (suc i) m dead is = gone_after ns one i m dead is

all_gone_after : (stamp : ℕ) (serials : List ℕ) (ns : List NodePart) (i : ℕ) → is_destroyed (get_or ns i no_node).state ≡ true → is_destroyed (get_or (with_nodes serials (in_state (Destroyed stamp)) ns) i no_node).state ≡ true
all_gone_after stamp [] ns i is = is
all_gone_after stamp (one ∷ rest) ns i is = all_gone_after stamp rest (with_node one (in_state (Destroyed stamp)) ns) i (gone_after ns one i (in_state (Destroyed stamp) (get_or ns one no_node)) refl is)

doom_stays : (late : List ℕ) (x : PeerPart) (collected : ℕ) (doomed : List ℕ) (i : ℕ) → is_destroyed (node_at x i).state ≡ true → is_destroyed (node_at (doom_by late x collected doomed) i).state ≡ true
doom_stays [] x collected doomed i gone = all_gone_after (final_stamp x collected) doomed x.nodes i gone
doom_stays (peer ∷ rest) x collected doomed i gone = gone

module _ (o : Opening) (memory : Bool) (d : DriverPart) (doing : Doing) (x : PeerPart) (i : ℕ) (there : i < length x.nodes) (gone : is_destroyed (node_at x i).state ≡ true) where
  by_kept : (action : Action) → dooms action ≡ false → is_destroyed (node_at (happens o memory d doing action x).1 i).state ≡ true
  by_kept action other = ap is_destroyed ((nodes_kept o memory d doing action x other).state i there) ∙ gone

  event_stays : (action : Action) → is_destroyed (node_at (happens o memory d doing action x).1 i).state ≡ true
  event_stays act.BeginDestroy = begin_stays doing.command (begin_refusal doing.command x) x i gone
  event_stays act.StampDestroy = doom_stays x.late x (collected_of doing.phase) (doomed_of doing.phase) i gone
  event_stays action = by_kept action refl

pub destroyed_stay : {o : Opening} {s : State} {p : ℕ} {c : Option Command} {t : State} → Step o s p c t → DestroyedStay s t
destroyed_stay {o = o} {s = s} step q serial x y was is there gone = elim (peer_cases step q y is) [
  | inl at_it ↦
      let same : x ≡ step.peer = same_Some x step.peer (sym was ∙ subst (λ r. IsPeer s r step.peer) (sym at_it.0) step.is_peer) in
      subst (λ z. is_destroyed (node_at z serial).state ≡ true) ((parts step).is_peer ∙ sym at_it.1)
      (event_stays o step.local.memory (going step) (going_doing step) step.peer serial (subst (λ z. serial < length z.nodes) same there) (subst (λ z. is_destroyed (node_at z serial).state ≡ true) same gone) (going_action step))
  | inr away ↦ subst (λ z. is_destroyed (node_at z serial).state ≡ true) (same_Some x y (sym was ∙ away.1)) gone
]
