-- What never changes: each part's number and the opening's facts; and how a driver's list grows.
use Rattle.std.proofs.Common.{◌≡◌, ◌≢◌, ◌⊎◌, refl, sym, ap, ◌∙◌, inl, inr, ℕ, zero, suc, ◌+◌, true, false, cond, List, [], ◌∷◌, fold, get_or, length, set, Option, Some, None, subst}
use Rattle.std.specs.Prelude.{slice_get}
use Rattle.std.proofs.lemmas.List.{length-set}
use Rattle.std.proofs.lemmas.Option.{same_Some}
use native.Mathlib.Omega.{arith}
use Rattle.b1_model.specs.declared.commands.Command.{Command}
use Rattle.b1_model.specs.declared.naming.NodeRef.{NodeRef}
use Rattle.b1_model.specs.declared.naming.PeerSpec.{PeerSpec}
use Rattle.b1_model.specs.declared.naming.Wire.{Wire}
use Rattle.b1_model.specs.declared.naming.Opening.{Opening}
use Rattle.b1_model.specs.declared.events.Action.{Action}
use Rattle.b1_model.specs.declared.events.Action.TheVariants as act
use Rattle.b1_model.specs.Names.{is_own}
use Rattle.b1_model.specs.MachineParts.{PeerPart, DriverPart, State}
use Rattle.b1_model.specs.MachineTables.{node_named, with_made}
use Rattle.b1_model.specs.MachineStep.{Label, Leads, Reached, Step, no_peer, with_part, wire_made, wire_counted, wire_held, wired, peer_before, peers_before, idle_drivers, opening_state}
use Rattle.b1_step.specs.Rights.{Changes}
use Rattle.b1_step.specs.Fixed.{SameFixed, IsPeerOf, IsNumbered}
use Rattle.b1_step.proofs.Lists.{set_cases}
use Rattle.b1_step.proofs.Locality.{step_changes, step_grows}

-- ---- peers' parts

-- what an event changes leaves the four facts
pub changes_fixed : (action : Action) (x y : PeerPart) → Changes action x y → SameFixed x y
changes_fixed act.Rest x y e = record { me = ap (λ z. z.me) e; peers = ap (λ z. z.peers) e; user = ap (λ z. z.user) e; pool = ap (λ z. z.pool) e }
changes_fixed act.Begin x y e = record { me = ap (λ z. z.me) e; peers = ap (λ z. z.peers) e; user = ap (λ z. z.user) e; pool = ap (λ z. z.pool) e }
changes_fixed (act.Stage peer place) x y e = record { me = ap (λ z. z.me) e; peers = ap (λ z. z.peers) e; user = ap (λ z. z.user) e; pool = ap (λ z. z.pool) e }
changes_fixed (act.Unstage peer place) x y e = record { me = ap (λ z. z.me) e; peers = ap (λ z. z.peers) e; user = ap (λ z. z.user) e; pool = ap (λ z. z.pool) e }
changes_fixed (act.Attach peer serial dest) x y e = record { me = ap (λ z. z.me) e; peers = ap (λ z. z.peers) e; user = ap (λ z. z.user) e; pool = ap (λ z. z.pool) e }
changes_fixed act.Stamp x y e = record { me = ap (λ z. z.me) e; peers = ap (λ z. z.peers) e; user = ap (λ z. z.user) e; pool = ap (λ z. z.pool) e }
changes_fixed (act.Sync peer stamp) x y e = record { me = ap (λ z. z.me) e; peers = ap (λ z. z.peers) e; user = ap (λ z. z.user) e; pool = ap (λ z. z.pool) e }
changes_fixed (act.Commit peer place stamp) x y e = record { me = ap (λ z. z.me) e; peers = ap (λ z. z.peers) e; user = ap (λ z. z.user) e; pool = ap (λ z. z.pool) e }
changes_fixed (act.CommitNotices peer stamp) x y e = record { me = ap (λ z. z.me) e; peers = ap (λ z. z.peers) e; user = ap (λ z. z.user) e; pool = ap (λ z. z.pool) e }
changes_fixed act.Recv x y e = record { me = ap (λ z. z.me) e; peers = ap (λ z. z.peers) e; user = ap (λ z. z.user) e; pool = ap (λ z. z.pool) e }
changes_fixed act.Reap x y e = record { me = ap (λ z. z.me) e; peers = ap (λ z. z.peers) e; user = ap (λ z. z.user) e; pool = ap (λ z. z.pool) e }
changes_fixed act.Release x y e = record { me = ap (λ z. z.me) e; peers = ap (λ z. z.peers) e; user = ap (λ z. z.user) e; pool = ap (λ z. z.pool) e }
changes_fixed (act.DropRefs peer serial holder k clock) x y e = record { me = ap (λ z. z.me) e; peers = ap (λ z. z.peers) e; user = ap (λ z. z.user) e; pool = ap (λ z. z.pool) e }
changes_fixed act.BeginDestroy x y e = record { me = ap (λ z. z.me) e; peers = ap (λ z. z.peers) e; user = ap (λ z. z.user) e; pool = ap (λ z. z.pool) e }
changes_fixed (act.Visit peer) x y e = record { me = ap (λ z. z.me) e; peers = ap (λ z. z.peers) e; user = ap (λ z. z.user) e; pool = ap (λ z. z.pool) e }
changes_fixed act.StampDestroy x y e = record { me = ap (λ z. z.me) e; peers = ap (λ z. z.peers) e; user = ap (λ z. z.user) e; pool = ap (λ z. z.pool) e }
changes_fixed act.Flush x y e = record { me = ap (λ z. z.me) e; peers = ap (λ z. z.peers) e; user = ap (λ z. z.user) e; pool = ap (λ z. z.pool) e }
changes_fixed act.Local x y e = record { me = ap (λ z. z.me) e; peers = ap (λ z. z.peers) e; user = ap (λ z. z.user) e; pool = ap (λ z. z.pool) e }

still_peer : (o : Opening) (q : ℕ) (x y : PeerPart) → SameFixed x y → IsPeerOf o q x → IsPeerOf o q y
still_peer o q x y same k = record { me = same.me ∙ k.me; peers = same.peers ∙ k.peers; spec = k.spec; is_spec = k.is_spec; user = same.user ∙ k.user; pool = same.pool ∙ k.pool }

-- ---- the opening

abbrev ArePeers : Opening → List PeerPart → Type 0
ArePeers o xs = (q : ℕ) (x : PeerPart) → slice_get xs q ≡ Some x → IsPeerOf o q x

module _ (o : Opening) where
  -- the peers from a number on
  before_from : (here : ℕ) (specs : List PeerSpec) (q : ℕ) (x : PeerPart) → ((i : ℕ) (spec : PeerSpec) → slice_get specs i ≡ Some spec → slice_get o.peers (here + i) ≡ Some spec) → slice_get (peers_before o here specs) q ≡ Some x → IsPeerOf o (here + q) x
  before_from here [] q x within is = absurd (cc is)
  before_from here (spec ∷ rest) zero x within is =
      let same : peer_before o here spec ≡ x = same_Some _ x is in
      subst (IsPeerOf o (here + 0)) same (record { me = omega arith; peers = refl; spec = spec; is_spec = within 0 spec refl; user = refl; pool = refl })
  before_from here (spec ∷ rest) (suc q) x within is =
      let moved : (here + 1) + q ≡ here + suc q = omega arith in
      subst (λ n. IsPeerOf o n x) moved (before_from (here + 1) rest q x (λ i other at. ap (slice_get o.peers) (omega arith) ∙ within (suc i) other at) is)

  still_peers : (xs : List PeerPart) (i : ℕ) (f : PeerPart → PeerPart) → ((x : PeerPart) → SameFixed x (f x)) → ArePeers o xs → ArePeers o (with_part i f xs)
  still_peers xs i f same are q y is = at_place xs i f same are q y is (set_cases xs i q (f (get_or xs i no_peer)) y is)
    where
      here : (xs : List PeerPart) (i : ℕ) (v y : PeerPart) → slice_get (set xs i v) i ≡ Some y → (x : PeerPart) × (slice_get xs i ≡ Some x) × (get_or xs i no_peer ≡ x)
      here [] i v y is = absurd (cc is)
      here (x ∷ rest) zero v y is = (x, refl, refl)
      here (x ∷ rest) (suc i) v y is = here rest i v y is

      at_place : (xs : List PeerPart) (i : ℕ) (f : PeerPart → PeerPart) → ((x : PeerPart) → SameFixed x (f x)) → ArePeers o xs → (q : ℕ) (y : PeerPart) → slice_get (set xs i (f (get_or xs i no_peer))) q ≡ Some y → ((q ≡ i) × (y ≡ f (get_or xs i no_peer))) ⊎ ((q ≢ i) × (slice_get xs q ≡ Some y)) → IsPeerOf o q y
      at_place xs i f same are q y is (inl changed) =
          let found = here xs i (f (get_or xs i no_peer)) y (ap (slice_get (set xs i (f (get_or xs i no_peer)))) (sym changed.0) ∙ is) in
          subst (λ n. IsPeerOf o n y) (sym changed.0) (subst (IsPeerOf o i) (ap f (sym found.2) ∙ sym changed.1) (still_peer o i found.0 (f found.0) (same found.0) (are i found.0 found.1)))
      at_place xs i f same are q y is (inr other) = are q y other.1

  made_fixed : (number : ℕ) (x : PeerPart) → SameFixed x (wire_made number x)
  made_fixed number x = elim (is_own number) as (λ b. SameFixed x (cond b (record x { nodes = with_made x.peers number x.nodes }) x)) [ true ↦ record { me = refl; peers = refl; user = refl; pool = refl } | false ↦ record { me = refl; peers = refl; user = refl; pool = refl } ]

  wired_by : (peers : List PeerPart) (w : Wire) (node : Option NodeRef) → ArePeers o peers → ArePeers o (elim node [ None ↦ peers | Some n ↦ with_part w.to (wire_held n) (with_part n.owner (wire_counted n w.to) peers) ])
  wired_by peers w None are = are
  wired_by peers w (Some n) are =
      still_peers (with_part n.owner (wire_counted n w.to) peers) w.to (wire_held n) (λ x. record { me = refl; peers = refl; user = refl; pool = refl })
      (still_peers peers n.owner (wire_counted n w.to) (λ x. record { me = refl; peers = refl; user = refl; pool = refl }) are)

  after_wires : (ws : List Wire) (peers : List PeerPart) → ArePeers o peers → ArePeers o (fold wired peers ws)
  after_wires [] peers are = are
  after_wires (w ∷ rest) peers are =
      after_wires rest (wired peers w)
      (wired_by (with_part w.from (wire_made w.number) peers) w (node_named (get_or (with_part w.from (wire_made w.number) peers) w.from no_peer) w.number)
      (still_peers peers w.from (wire_made w.number) (made_fixed w.number) are))

  wires_count : (ws : List Wire) (peers : List PeerPart) → length (fold wired peers ws) ≡ length peers
  wires_count [] peers = refl
  wires_count (w ∷ rest) peers = wires_count rest (wired peers w) ∙ one_wire (node_named (get_or (with_part w.from (wire_made w.number) peers) w.from no_peer) w.number)
    where
      one_wire : (node : Option NodeRef) → length {A = PeerPart} (elim node [ None ↦ with_part w.from (wire_made w.number) peers | Some n ↦ with_part w.to (wire_held n) (with_part n.owner (wire_counted n w.to) (with_part w.from (wire_made w.number) peers)) ]) ≡ length peers
      one_wire None = length-set peers w.from _
      one_wire (Some n) = length-set (with_part n.owner (wire_counted n w.to) (with_part w.from (wire_made w.number) peers)) w.to _ ∙ length-set (with_part w.from (wire_made w.number) peers) n.owner _ ∙ length-set peers w.from _

  before_count : (here : ℕ) (specs : List PeerSpec) → length (peers_before o here specs) ≡ length specs
  before_count here [] = refl
  before_count here (spec ∷ rest) = ap suc (before_count (here + 1) rest)

idle_count : (here : ℕ) (specs : List PeerSpec) → length (idle_drivers here specs) ≡ length specs
idle_count here [] = refl
idle_count here (spec ∷ rest) = ap suc (idle_count (here + 1) rest)

idle_number : (here : ℕ) (specs : List PeerSpec) (p : ℕ) (d : DriverPart) → slice_get (idle_drivers here specs) p ≡ Some d → d.me ≡ here + p
idle_number here [] p d is = absurd (cc is)
idle_number here (spec ∷ rest) zero d is = sym (ap (λ e. e.me) (same_Some _ d is)) ∙ omega arith
idle_number here (spec ∷ rest) (suc p) d is = idle_number (here + 1) rest p d is ∙ omega arith

pub opening_numbered : (o : Opening) → IsNumbered o (opening_state o)
opening_numbered o = record {
  peers = after_wires o o.wires (peers_before o 0 o.peers) (λ q x is. subst (λ n. IsPeerOf o n x) (omega arith) (before_from o 0 o.peers q x (λ i spec at. ap (slice_get o.peers) (omega arith) ∙ at) is));
  drivers = λ p d is. idle_number 0 o.peers p d is ∙ omega arith;
  as_many_peers = wires_count o o.wires (peers_before o 0 o.peers) ∙ before_count o 0 o.peers;
  as_many_drivers = idle_count 0 o.peers;
}

-- ---- steps

pub step_numbered : {o : Opening} {s : State} {p : ℕ} {command : Option Command} {t : State} → IsNumbered o s → Step o s p command t → IsNumbered o t
step_numbered {o} {s} {p} {command} {t} n step = record {
  peers = λ q y is. peer_at q y (set_cases s.peers step.at q step.new_peer y (ap (λ xs. slice_get xs q) (sym step.peers) ∙ is));
  drivers = λ r e is. driver_at r e (set_cases s.drivers p r step.new_driver e (ap (λ ds. slice_get ds r) (sym step.drivers) ∙ is));
  as_many_peers = ap length step.peers ∙ length-set s.peers step.at step.new_peer ∙ n.as_many_peers;
  as_many_drivers = ap length step.drivers ∙ length-set s.drivers p step.new_driver ∙ n.as_many_drivers;
}
  where
    peer_at : (q : ℕ) (y : PeerPart) → ((q ≡ step.at) × (y ≡ step.new_peer)) ⊎ ((q ≢ step.at) × (slice_get s.peers q ≡ Some y)) → IsPeerOf o q y
    peer_at q y (inl here) = subst (λ m. IsPeerOf o m y) (sym here.0) (subst (IsPeerOf o step.at) (sym here.1) (still_peer o step.at step.peer step.new_peer (changes_fixed step.action step.peer step.new_peer (step_changes step)) (n.peers step.at step.peer step.is_peer)))
    peer_at q y (inr other) = n.peers q y other.1

    driver_at : (r : ℕ) (e : DriverPart) → ((r ≡ p) × (e ≡ step.new_driver)) ⊎ ((r ≢ p) × (slice_get s.drivers r ≡ Some e)) → e.me ≡ r
    driver_at r e (inl here) = ap (λ z. z.me) here.1 ∙ (step_grows step).me ∙ n.drivers p step.driver step.is_driver ∙ sym here.0
    driver_at r e (inr other) = n.drivers r e other.1

pub led_numbered : (o : Opening) (steps : List Label) (s t : State) → IsNumbered o s → Leads o s steps t → IsNumbered o t
led_numbered o [] s t n same = subst (IsNumbered o) same n
led_numbered o (l ∷ rest) s t n run = led_numbered o rest run.0 t (step_numbered n run.1) run.2

pub reached_numbered : (o : Opening) (s : State) → Reached o s → IsNumbered o s
reached_numbered o s r = led_numbered o r.steps (opening_state o) s (opening_numbered o) r.run
