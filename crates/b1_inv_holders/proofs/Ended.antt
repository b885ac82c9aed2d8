-- A destroyed node stays destroyed, with its stamp.
use Rattle.std.proofs.Common.{◌≡◌, refl, sym, ap, subst, ◌∙◌, inl, inr, ℕ, zero, suc, ◌+◌, ◌<◌, Bool, true, false, cond, List, [], ◌∷◌, get_or, length, Option, Some, None}
use Rattle.std.specs.Prelude.{filter_map}
use Rattle.std.specs.List.{cons_option}
use Rattle.std.specs.Bool.{then_some}
use native.Mathlib.Omega.{arith}
use Rattle.b1_model.specs.declared.commands.Command.{Command}
use Rattle.b1_model.specs.declared.commands.Command.TheVariants as cmd
use Rattle.b1_model.specs.declared.naming.NodeRef.{NodeRef}
use Rattle.b1_model.specs.declared.naming.Opening.{Opening}
use Rattle.b1_model.specs.declared.answers.Reason.{Reason}
use Rattle.b1_model.specs.declared.parts.NodeState.TheVariants.{Dying, Destroyed}
use Rattle.b1_model.specs.declared.events.Action.{Action}
use Rattle.b1_model.specs.declared.events.Action.TheVariants as act
use Rattle.b1_model.specs.declared.events.Doing.{Doing}
use Rattle.b1_model.specs.declared.events.OwedDrop.{OwedDrop}
use Rattle.b1_model.specs.declared.events.Phase.{Phase}
use Rattle.b1_model.specs.declared.events.Phase.TheVariants.{Starting, Dooming}
use Rattle.b1_model.specs.MachineParts.{PeerPart, DriverPart, NodePart, State, no_node, node_at, is_live}
use Rattle.b1_model.specs.MachineTables.{serial_of}
use Rattle.b1_model.specs.MachineSend.{final_stamp}
use Rattle.b1_model.specs.MachineDestroy.{live_serial, destroy_serials, live_serials, reset_serials, doom_by}
use Rattle.b1_model.specs.MachineDriver.{next_action, peer_of}
use Rattle.b1_model.specs.MachineEvents.{happens, destroy_by, begin_refusal, begin_serials, collected_of, doomed_of}
use Rattle.b1_model.specs.MachineStep.{Step}
use Rattle.b1_step.specs.Rights.{Has}
use Rattle.b1_inv.specs.Words.{IsPeer, IsMade}
use Rattle.b1_inv.specs.Notices.{DestructionShape}
use Rattle.b1_inv.specs.Sound.{IsSound}
use Rattle.b1_inv_tools.proofs.Leaves.{peer_cases}
use Rattle.b1_inv_notices.proofs.Nodes.{nodes_kept, undoomed_state}
use Rattle.b1_inv_notices.proofs.Turns.{opened, parts, going, going_doing, going_action}
use Rattle.b1_inv_cover.proofs.Stamped.{same_peer_at}

-- ---- a destruction begins for live nodes

module _ (x : PeerPart) where
  abbrev IsLive : ℕ → Type 0
  IsLive serial = is_live (node_at x serial).state ≡ true

  named_by : (b : Bool) (one serial : ℕ) → is_live (node_at x one).state ≡ b → then_some b one ≡ Some serial → IsLive serial
  named_by true one serial is found = let same : one ≡ serial = cc found in ap (λ n. is_live (node_at x n).state) (sym same) ∙ is
  named_by false one serial is found = absurd (cc found)

  named_live : (found : Option ℕ) (serial : ℕ) → elim found [ None ↦ None | Some one ↦ then_some (is_live (node_at x one).state) one ] ≡ Some serial → IsLive serial
  named_live None serial is = absurd (cc is)
  named_live (Some one) serial is = named_by (is_live (node_at x one).state) one serial refl is

  destroy_live : (numbers : List ℕ) (serial : ℕ) → Has (destroy_serials x numbers) serial → IsLive serial
  destroy_live [] serial h = absurd h
  destroy_live (number ∷ rest) serial h = at (destroy_live rest serial) (live_serial x number) refl h
    where
      at : (Has (filter_map (live_serial x) rest) serial → IsLive serial) → (found : Option ℕ) → live_serial x number ≡ found → Has (cons_option found (filter_map (live_serial x) rest)) serial → IsLive serial
      at further None is more = further more
      at further (Some one) is (inl same) = named_live (serial_of number x.nodes) serial (is ∙ ap Some (sym same))
      at further (Some one) is (inr more) = further more

live_there : (here : ℕ) (nodes : List NodePart) (serial : ℕ) → Has (live_serials here nodes) serial → (i : ℕ) × (serial ≡ here + i) × (is_live (get_or nodes i no_node).state ≡ true)
live_there here [] serial h = absurd h
live_there here (n ∷ rest) serial h = at (live_there (here + 1) rest serial) (is_live n.state) refl h
  where
    next : (i : ℕ) × (serial ≡ here + 1 + i) × (is_live (get_or rest i no_node).state ≡ true) → (i : ℕ) × (serial ≡ here + i) × (is_live (get_or (n ∷ rest) i no_node).state ≡ true)
    next (i, same, is) = (suc i, omega (arith, same), is)

    at : (Has (live_serials (here + 1) rest) serial → (i : ℕ) × (serial ≡ here + 1 + i) × (is_live (get_or rest i no_node).state ≡ true)) → (b : Bool) → is_live n.state ≡ b → Has (cond b (here ∷ live_serials (here + 1) rest) (live_serials (here + 1) rest)) serial
        → (i : ℕ) × (serial ≡ here + i) × (is_live (get_or (n ∷ rest) i no_node).state ≡ true)
    at further true is (inl same) = (zero, omega (arith, same), is)
    at further true is (inr more) = next (further more)
    at further false is more = next (further more)

reset_live : (x : PeerPart) (serial : ℕ) → Has (reset_serials x) serial → is_live (node_at x serial).state ≡ true
reset_live x serial h = let k = live_there 0 x.nodes serial h in let same : k.0 ≡ serial = let is = k.1 in omega (arith, is) in subst (λ n. is_live (node_at x n).state ≡ true) same k.2

pub begin_live : (command : Command) (x : PeerPart) (serial : ℕ) → Has (begin_serials command x) serial → is_live (node_at x serial).state ≡ true
begin_live (cmd.Destroy numbers) x serial h = destroy_live x numbers serial h
begin_live command x serial h = reset_live x serial h

-- ---- an event

-- a made node that is destroyed with a stamp
abbrev pub Ended : PeerPart → ℕ → ℕ → Type 0
Ended x serial stamp = (serial < length x.nodes) × ((node_at x serial).state ≡ Destroyed stamp)

module _ (x : PeerPart) (serial stamp : ℕ) (is : (node_at x serial).state ≡ Destroyed stamp) where
  not_live : is_live (node_at x serial).state ≡ true → ⊥
  not_live alive = let both : true ≡ false = sym alive ∙ ap is_live is in absurd (cc both)

  not_dying : (node_at x serial).state ≡ Dying → ⊥
  not_dying dies = let both : Dying ≡ Destroyed stamp = sym dies ∙ is in absurd (cc both)

  at_begin : (r : Option Reason) (doomed : List ℕ) → (Has doomed serial → ⊥) → (node_at (destroy_by r doomed x).1 serial).state ≡ Destroyed stamp
  at_begin (Some r) doomed apart = is
  at_begin None doomed apart = ap (λ n. n.state) (undoomed_state Dying doomed x.nodes serial apart) ∙ is

  at_doom : (late : List ℕ) (collected : ℕ) (doomed : List ℕ) → (Has doomed serial → ⊥) → (node_at (doom_by late x collected doomed) serial).state ≡ Destroyed stamp
  at_doom [] collected doomed apart = ap (λ n. n.state) (undoomed_state (Destroyed (final_stamp x collected)) doomed x.nodes serial apart) ∙ is
  at_doom (peer ∷ rest) collected doomed apart = is

  pub ended_event : (o : Opening) (memory : Bool) (d : DriverPart) (doing : Doing) (action : Action) → serial < length x.nodes → (action ≡ act.StampDestroy → Has (doomed_of doing.phase) serial → (node_at x serial).state ≡ Dying)
      → (node_at (happens o memory d doing action x).1 serial).state ≡ Destroyed stamp
  ended_event o memory d doing act.BeginDestroy within dies = at_begin (begin_refusal doing.command x) (begin_serials doing.command x) (λ h. not_live (begin_live doing.command x serial h))
  ended_event o memory d doing act.StampDestroy within dies = at_doom x.late (collected_of doing.phase) (doomed_of doing.phase) (λ h. not_dying (dies refl h))
  ended_event o memory d doing action within dies = (nodes_kept o memory d doing action x refl).state serial within ∙ is

-- ---- a step

-- the doomed nodes are dying where a destruction is to get its stamp
doomed_dying : (peers : ℕ) (x : PeerPart) (d : DriverPart) (command : Command) (phase : Phase) (owed : List OwedDrop) → next_action (opened d command phase owed) ≡ act.StampDestroy → DestructionShape peers x command phase
    → (serial : ℕ) → Has (doomed_of phase) serial → (node_at x serial).state ≡ Dying
doomed_dying peers x d command phase (one ∷ rest) next shape serial h = absurd (cc next)
doomed_dying peers x d command Starting [] next shape serial h = absurd h
doomed_dying peers x d command (Dooming destruction) [] next shape serial h = (shape.1.made serial h).1
doomed_dying peers x d command phase [] next shape serial h = absurd (cc next)

module _ {o : Opening} {s : State} {p : ℕ} {c : Option Command} {t : State} (sound : IsSound o s) (step : Step o s p c t) where
  own_dying : going_action step ≡ act.StampDestroy → (serial : ℕ) → Has (doomed_of (parts step).phase) serial → (node_at step.peer serial).state ≡ Dying
  own_dying next serial h =
      let here : step.at ≡ p = sym (parts step).is_at ∙ ap (peer_of step.driver.me) next ∙ sound.numbered.drivers p step.driver step.is_driver in
      elim (parts step).was [
        | inl open_is ↦ doomed_dying step.peer.peers step.peer step.driver (parts step).command (parts step).phase step.driver.owed next (sound.notices.shape p step.driver step.peer (going_doing step) step.is_driver (subst (λ q. IsPeer s q step.peer) here step.is_peer) open_is) serial h
        | inr new ↦ absurd (subst (λ phase. Has (doomed_of phase) serial) new.1 h)
      ]

  -- a destroyed node stays so
  pub ended_stays : (q : ℕ) (x y : PeerPart) (serial stamp : ℕ) → IsPeer s q x → IsPeer t q y → Ended x serial stamp → (node_at y serial).state ≡ Destroyed stamp
  ended_stays q x y serial stamp was is ended =
      elim (peer_cases step q y is) [
        | inl here ↦
            let same : x ≡ step.peer = same_peer_at s q x step.peer was (subst (λ r. IsPeer s r step.peer) (sym here.0) step.is_peer) in
            let at_peer : Ended step.peer serial stamp = subst (λ z. Ended z serial stamp) same ended in
            let after = ended_event step.peer serial stamp at_peer.1 o step.local.memory (going step) (going_doing step) (going_action step) at_peer.0 (λ next h. own_dying next serial h) in
            ap (λ z. (node_at z serial).state) (here.1 ∙ sym (parts step).is_peer) ∙ after
        | inr other ↦ ap (λ z. (node_at z serial).state) (same_peer_at s q y x other.1 was) ∙ ended.1
      ]

  -- the same of a made node
  pub made_ended : (node : NodeRef) (x y : PeerPart) (stamp : ℕ) → IsMade s node → IsPeer s node.owner x → IsPeer t node.owner y → (node_at x node.serial).state ≡ Destroyed stamp → (node_at y node.serial).state ≡ Destroyed stamp
  made_ended node x y stamp (z, there, within) was is ended =
      let same = same_peer_at s node.owner z x there was in
      let low = ap (λ w. length w.nodes) same in
      ended_stays node.owner x y node.serial stamp was is (omega (arith, within, low), ended)
