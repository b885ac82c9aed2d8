-- What holds of every part when a bus begins.
use Rattle.std.proofs.Common.{◌≡◌, refl, subst, ℕ, zero, suc, ◌+◌, List, [], ◌∷◌, fold, get_or, Option, Some, None}
use Rattle.std.specs.Prelude.{slice_get}
use Rattle.std.proofs.lemmas.Option.{same_Some}
use Rattle.b1_model.specs.declared.naming.NodeRef.{NodeRef}
use Rattle.b1_model.specs.declared.naming.PeerSpec.{PeerSpec}
use Rattle.b1_model.specs.declared.naming.Wire.{Wire}
use Rattle.b1_model.specs.declared.naming.Opening.{Opening}
use Rattle.b1_model.specs.MachineParts.{PeerPart, DriverPart}
use Rattle.b1_model.specs.MachineTables.{node_named}
use Rattle.b1_model.specs.MachineStep.{no_peer, with_part, wire_made, wire_counted, wire_held, wired, peer_before, peers_before, idle_driver, idle_drivers, opening_state}
use Rattle.b1_step.proofs.InOrder.{each_with_part}
use Rattle.b1_inv.specs.Words.{IsPeer, IsDriver}

abbrev Each : (PeerPart → Type 0) → List PeerPart → Type 0
Each P xs = (q : ℕ) (x : PeerPart) → slice_get xs q ≡ Some x → P x

module _ (P : PeerPart → Type 0)
    (made : (number : ℕ) (x : PeerPart) → P x → P (wire_made number x))
    (counted : (node : NodeRef) (dest : ℕ) (x : PeerPart) → P x → P (wire_counted node dest x))
    (held : (node : NodeRef) (x : PeerPart) → P x → P (wire_held node x)) where
  wired_by : (peers : List PeerPart) (w : Wire) (node : Option NodeRef) → Each P peers → Each P (elim node [ None ↦ peers | Some n ↦ with_part w.to (wire_held n) (with_part n.owner (wire_counted n w.to) peers) ])
  wired_by peers w None each = each
  wired_by peers w (Some n) each =
      each_with_part P (wire_held n) (held n) (with_part n.owner (wire_counted n w.to) peers) w.to
      (each_with_part P (wire_counted n w.to) (counted n w.to) peers n.owner each)

  after_wires : (ws : List Wire) (peers : List PeerPart) → Each P peers → Each P (fold wired peers ws)
  after_wires [] peers each = each
  after_wires (w ∷ rest) peers each =
      after_wires rest (wired peers w)
      (wired_by (with_part w.from (wire_made w.number) peers) w (node_named (get_or (with_part w.from (wire_made w.number) peers) w.from no_peer) w.number)
      (each_with_part P (wire_made w.number) (made w.number) peers w.from each))

  before_wires : (o : Opening) → ((me : ℕ) (spec : PeerSpec) → P (peer_before o me spec)) → (here : ℕ) (specs : List PeerSpec) → Each P (peers_before o here specs)
  before_wires o first here [] q x is = absurd (cc is)
  before_wires o first here (spec ∷ rest) zero x is = subst P (same_Some _ x is) (first here spec)
  before_wires o first here (spec ∷ rest) (suc q) x is = before_wires o first (here + 1) rest q x is

  -- a fact of every part before the wires that each wire keeps
  pub opening_each : (o : Opening) → ((me : ℕ) (spec : PeerSpec) → P (peer_before o me spec)) → (q : ℕ) (x : PeerPart) → IsPeer (opening_state o) q x → P x
  opening_each o first = after_wires o.wires (peers_before o 0 o.peers) (before_wires o first 0 o.peers)

idle_from : (here : ℕ) (specs : List PeerSpec) (p : ℕ) (d : DriverPart) → slice_get (idle_drivers here specs) p ≡ Some d → d ≡ idle_driver d.me
idle_from here [] p d is = absurd (cc is)
idle_from here (spec ∷ rest) zero d is = let same : idle_driver here ≡ d = same_Some _ d is in subst (λ e. e ≡ idle_driver e.me) same refl
idle_from here (spec ∷ rest) (suc p) d is = idle_from (here + 1) rest p d is

-- no command is open, and nothing is owed
pub opening_idle : (o : Opening) (p : ℕ) (d : DriverPart) → IsDriver (opening_state o) p d → d ≡ idle_driver d.me
opening_idle o p d is = idle_from 0 o.peers p d is
