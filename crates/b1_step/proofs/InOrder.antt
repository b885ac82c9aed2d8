-- In every reached state the records of every peer are in the order of their nodes.
use Rattle.std.proofs.Common.{◌≡◌, ◌≢◌, ◌⊎◌, refl, sym, ap, ◌∙◌, inl, inr, subst, ℕ, zero, suc, ◌+◌, true, false, cond, List, [], ◌∷◌, fold, get_or, set, Option, Some, None}
use Rattle.std.specs.Prelude.{slice_get}
use Rattle.b1_model.specs.declared.naming.NodeRef.{NodeRef}
use Rattle.b1_model.specs.declared.naming.PeerSpec.{PeerSpec}
use Rattle.b1_model.specs.declared.naming.Wire.{Wire}
use Rattle.b1_model.specs.declared.naming.Opening.{Opening}
use Rattle.b1_model.specs.declared.commands.Command.{Command}
use Rattle.b1_model.specs.Names.{is_own}
use Rattle.b1_model.specs.MachineParts.{PeerPart, State}
use Rattle.b1_model.specs.MachineTables.{more_held, next_number, node_named, with_made}
use Rattle.b1_model.specs.MachineStep.{Label, Leads, Reached, Step, no_peer, with_part, wire_made, wire_counted, wire_held, wired, peer_before, peers_before, opening_state}
use Rattle.b1_step.specs.Ordered.{Rising, HandlesRise}
use Rattle.b1_step.proofs.Lists.{set_cases}
use Rattle.b1_step.proofs.Lookups.{rising_made}
use Rattle.b1_step.proofs.Locality.{step_rises}

-- ---- a fact of every peer's part, where one part changes and keeps it

abbrev Each : (PeerPart → Type 0) → List PeerPart → Type 0
Each P xs = (q : ℕ) (x : PeerPart) → slice_get xs q ≡ Some x → P x

read_before : (xs : List PeerPart) (i : ℕ) (v y : PeerPart) → slice_get (set xs i v) i ≡ Some y → slice_get xs i ≡ Some (get_or xs i no_peer)
read_before [] i v y is = absurd (cc is)
read_before (x ∷ rest) zero v y is = refl
read_before (x ∷ rest) (suc i) v y is = read_before rest i v y is

module _ (P : PeerPart → Type 0) (f : PeerPart → PeerPart) (keeps : (x : PeerPart) → P x → P (f x)) (xs : List PeerPart) (i : ℕ) (each : Each P xs) where
  at_place : (q : ℕ) (y : PeerPart) → slice_get (set xs i (f (get_or xs i no_peer))) q ≡ Some y → ((q ≡ i) × (y ≡ f (get_or xs i no_peer))) ⊎ ((q ≢ i) × (slice_get xs q ≡ Some y)) → P y
  at_place q y is (inl here) =
      subst P (sym here.1) (keeps (get_or xs i no_peer) (each i (get_or xs i no_peer) (read_before xs i (f (get_or xs i no_peer)) y (ap (slice_get (set xs i (f (get_or xs i no_peer)))) (sym here.0) ∙ is))))
  at_place q y is (inr other) = each q y other.1

  pub each_with_part : Each P (with_part i f xs)
  each_with_part q y is = at_place q y is (set_cases xs i q (f (get_or xs i no_peer)) y is)

-- ---- the opening

abbrev Ordered : PeerPart → Type 0
Ordered x = Rising x.handles

before_rise : (o : Opening) (here : ℕ) (specs : List PeerSpec) → Each Ordered (peers_before o here specs)
before_rise o here [] q x is = absurd (cc is)
before_rise o here (spec ∷ rest) zero x is = let same : peer_before o here spec ≡ x = cc is in subst Ordered same tt
before_rise o here (spec ∷ rest) (suc q) x is = before_rise o (here + 1) rest q x is

made_rises : (number : ℕ) (x : PeerPart) → Ordered x → Ordered (wire_made number x)
made_rises number x up = elim (is_own number) as (λ b. Ordered (cond b (record x { nodes = with_made x.peers number x.nodes }) x)) [ true ↦ up | false ↦ up ]

held_rises : (node : NodeRef) (x : PeerPart) → Ordered x → Ordered (wire_held node x)
held_rises node x up = rising_made node (more_held (next_number x.given)) (λ h. refl) x.handles up

wired_rise : (peers : List PeerPart) (w : Wire) (node : Option NodeRef) → Each Ordered peers → Each Ordered (elim node [ None ↦ peers | Some n ↦ with_part w.to (wire_held n) (with_part n.owner (wire_counted n w.to) peers) ])
wired_rise peers w None each = each
wired_rise peers w (Some n) each =
    each_with_part Ordered (wire_held n) (held_rises n) (with_part n.owner (wire_counted n w.to) peers) w.to
    (each_with_part Ordered (wire_counted n w.to) (λ x up. up) peers n.owner each)

wires_rise : (ws : List Wire) (peers : List PeerPart) → Each Ordered peers → Each Ordered (fold wired peers ws)
wires_rise [] peers each = each
wires_rise (w ∷ rest) peers each =
    wires_rise rest (wired peers w)
    (wired_rise (with_part w.from (wire_made w.number) peers) w (node_named (get_or (with_part w.from (wire_made w.number) peers) w.from no_peer) w.number)
    (each_with_part Ordered (wire_made w.number) (made_rises w.number) peers w.from each))

-- ---- steps

module _ {o : Opening} {s : State} {p : ℕ} {command : Option Command} {t : State} (up : HandlesRise s) (step : Step o s p command t) where
  after_step : (q : ℕ) (y : PeerPart) → ((q ≡ step.at) × (y ≡ step.new_peer)) ⊎ ((q ≢ step.at) × (slice_get s.peers q ≡ Some y)) → Rising y.handles
  after_step q y (inl here) = subst Ordered (sym here.1) (step_rises step (up step.at step.peer step.is_peer))
  after_step q y (inr other) = up q y other.1

  still_rise : HandlesRise t
  still_rise q y is = after_step q y (set_cases s.peers step.at q step.new_peer y (ap (λ xs. slice_get xs q) (sym step.peers) ∙ is))

led_rise : (o : Opening) (steps : List Label) (s t : State) → HandlesRise s → Leads o s steps t → HandlesRise t
led_rise o [] s t up same = subst HandlesRise same up
led_rise o (l ∷ rest) s t up run = led_rise o rest run.0 t (still_rise up run.1) run.2

pub reached_rise : (o : Opening) (s : State) → Reached o s → HandlesRise s
reached_rise o s r = led_rise o r.steps (opening_state o) s (wires_rise o.wires (peers_before o 0 o.peers) (before_rise o 0 o.peers)) r.run
