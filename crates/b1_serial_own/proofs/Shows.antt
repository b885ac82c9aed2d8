-- The serial bus that a state stands for, where parts of the state change.
use Rattle.std.proofs.Common.{◌≡◌, ◌≢◌, refl, sym, ap, ◌∙◌, ℕ, zero, suc, List, [], ◌∷◌, length, set, Option, Some}
use Rattle.std.specs.Prelude.{slice_get}
use Rattle.std.proofs.lemmas.Option.{same_Some}
use Rattle.b1_model.specs.declared.naming.Opening.{Opening}
use Rattle.b1_model.specs.declared.commands.Command.{Command}
use Rattle.b1_model.specs.MachineParts.{PeerPart, DriverPart, State}
use Rattle.b1_model.specs.MachineStep.{Step}
use Rattle.b1_step.proofs.Lists.{read_other, read_same as read_set}
use Rattle.b1_serial_bus.specs.Parts.{Part, Bus, at_peer}
use Rattle.b1_serial_rest.specs.Standing.{part_of, parts_of, bus_of}

-- ---- changes of a bus

-- two changes of one peer are one
pub at_twice : (p : ℕ) (f g : Part → Part) (bus : Bus) → at_peer p g (at_peer p f bus) ≡ at_peer p (λ y. g (f y)) bus
at_twice p f g [] = refl
at_twice zero f g (y ∷ ys) = refl
at_twice (suc p) f g (y ∷ ys) = ap (λ zs. y ∷ zs) (at_twice p f g ys)

-- two changes that do the same to the peer that is there
pub at_same : (p : ℕ) (f g : Part → Part) (bus : Bus) → ((y : Part) → slice_get bus p ≡ Some y → f y ≡ g y) → at_peer p f bus ≡ at_peer p g bus
at_same p f g [] same = refl
at_same zero f g (y ∷ ys) same = ap (λ z. z ∷ ys) (same y refl)
at_same (suc p) f g (y ∷ ys) same = ap (λ zs. y ∷ zs) (at_same p f g ys same)

-- a change that leaves the peer that is there
pub at_nothing : (p : ℕ) (f : Part → Part) (bus : Bus) → ((y : Part) → slice_get bus p ≡ Some y → f y ≡ y) → at_peer p f bus ≡ bus
at_nothing p f [] same = refl
at_nothing zero f (y ∷ ys) same = ap (λ z. z ∷ ys) (same y refl)
at_nothing (suc p) f (y ∷ ys) same = ap (λ zs. y ∷ zs) (at_nothing p f ys same)

-- changes of two peers, one after the other
pub at_exchanged : (p q : ℕ) (f g : Part → Part) (bus : Bus) → p ≢ q → at_peer p f (at_peer q g bus) ≡ at_peer q g (at_peer p f bus)
at_exchanged p q f g [] apart = refl
at_exchanged zero zero f g (y ∷ ys) apart = absurd (apart refl)
at_exchanged zero (suc q) f g (y ∷ ys) apart = refl
at_exchanged (suc p) zero f g (y ∷ ys) apart = refl
at_exchanged (suc p) (suc q) f g (y ∷ ys) apart = ap (λ zs. y ∷ zs) (at_exchanged p q f g ys (λ e. apart (ap suc e)))

-- the peer that changes, and another one
pub read_at : (p : ℕ) (f : Part → Part) (bus : Bus) (y : Part) → slice_get bus p ≡ Some y → slice_get (at_peer p f bus) p ≡ Some (f y)
read_at p f [] y is = absurd (cc is)
read_at zero f (z ∷ zs) y is = ap (λ v. Some (f v)) (same_Some z y is)
read_at (suc p) f (z ∷ zs) y is = read_at p f zs y is

pub read_beside : (p q : ℕ) (f : Part → Part) (bus : Bus) → p ≢ q → slice_get (at_peer p f bus) q ≡ slice_get bus q
read_beside p q f [] apart = refl
read_beside zero zero f (z ∷ zs) apart = absurd (apart refl)
read_beside zero (suc q) f (z ∷ zs) apart = refl
read_beside (suc p) zero f (z ∷ zs) apart = refl
read_beside (suc p) (suc q) f (z ∷ zs) apart = read_beside p q f zs (λ e. apart (ap suc e))

pub as_many_at : (p : ℕ) (f : Part → Part) (bus : Bus) → length (at_peer p f bus) ≡ length bus
as_many_at p f [] = refl
as_many_at zero f (y ∷ ys) = refl
as_many_at (suc p) f (y ∷ ys) = ap suc (as_many_at p f ys)

-- ---- the parts of a state

-- the peer of the bus that two parts are
pub part_there : (xs : List PeerPart) (ds : List DriverPart) (q : ℕ) (x : PeerPart) (d : DriverPart) → slice_get xs q ≡ Some x → slice_get ds q ≡ Some d → slice_get (parts_of xs ds) q ≡ Some (part_of x d)
part_there [] ds q x d is_x is_d = absurd (cc is_x)
part_there (v ∷ xs) [] q x d is_x is_d = absurd (cc is_d)
part_there (v ∷ xs) (w ∷ ds) zero x d is_x is_d = ap (λ u. Some (part_of u w)) (same_Some v x is_x) ∙ ap (λ u. Some (part_of x u)) (same_Some w d is_d)
part_there (v ∷ xs) (w ∷ ds) (suc q) x d is_x is_d = part_there xs ds q x d is_x is_d

-- a peer's part changes
pub peer_changed : (g : Part → Part) (xs : List PeerPart) (ds : List DriverPart) (q : ℕ) (x z : PeerPart) (d : DriverPart) → slice_get xs q ≡ Some x → slice_get ds q ≡ Some d → g (part_of x d) ≡ part_of z d → parts_of (set xs q z) ds ≡ at_peer q g (parts_of xs ds)
peer_changed g [] ds q x z d is_x is_d same = absurd (cc is_x)
peer_changed g (v ∷ xs) [] q x z d is_x is_d same = absurd (cc is_d)
peer_changed g (v ∷ xs) (w ∷ ds) zero x z d is_x is_d same =
    ap (λ y. y ∷ parts_of xs ds) (ap (part_of z) (same_Some w d is_d) ∙ sym same ∙ ap (λ u. g (part_of u d)) (sym (same_Some v x is_x)) ∙ ap (λ u. g (part_of v u)) (sym (same_Some w d is_d)))
peer_changed g (v ∷ xs) (w ∷ ds) (suc q) x z d is_x is_d same = ap (λ ys. part_of v w ∷ ys) (peer_changed g xs ds q x z d is_x is_d same)

-- a driver's part changes
pub driver_changed : (f : Part → Part) (xs : List PeerPart) (ds : List DriverPart) (p : ℕ) (x : PeerPart) (d e : DriverPart) → slice_get xs p ≡ Some x → slice_get ds p ≡ Some d → f (part_of x d) ≡ part_of x e → parts_of xs (set ds p e) ≡ at_peer p f (parts_of xs ds)
driver_changed f [] ds p x d e is_x is_d same = absurd (cc is_x)
driver_changed f (v ∷ xs) [] p x d e is_x is_d same = absurd (cc is_d)
driver_changed f (v ∷ xs) (w ∷ ds) zero x d e is_x is_d same =
    ap (λ y. y ∷ parts_of xs ds) (ap (λ u. part_of u e) (same_Some v x is_x) ∙ sym same ∙ ap (λ u. f (part_of u d)) (sym (same_Some v x is_x)) ∙ ap (λ u. f (part_of v u)) (sym (same_Some w d is_d)))
driver_changed f (v ∷ xs) (w ∷ ds) (suc p) x d e is_x is_d same = ap (λ ys. part_of v w ∷ ys) (driver_changed f xs ds p x d e is_x is_d same)

-- ---- a step

module _ {o : Opening} {s : State} {p : ℕ} {command : Option Command} {t : State} (step : Step o s p command t) where
  -- at the driver's own peer
  pub own_shows : (f : Part → Part) → step.at ≡ p → f (part_of step.peer step.driver) ≡ part_of step.new_peer step.new_driver → bus_of t ≡ at_peer p f (bus_of s)
  own_shows f at_is same =
      ap (λ xs. parts_of xs t.drivers) (step.peers ∙ ap (λ q. set s.peers q step.new_peer) at_is)
      ∙ ap (parts_of (set s.peers p step.new_peer)) step.drivers
      ∙ both
    where
      there : slice_get s.peers p ≡ Some step.peer
      there = ap (slice_get s.peers) (sym at_is) ∙ step.is_peer

      both : parts_of (set s.peers p step.new_peer) (set s.drivers p step.new_driver) ≡ at_peer p f (parts_of s.peers s.drivers)
      both =
          driver_changed (λ y. part_of step.new_peer step.new_driver) (set s.peers p step.new_peer) s.drivers p step.new_peer step.driver step.new_driver (read_set s.peers p step.peer step.new_peer there) step.is_driver refl
          ∙ ap (at_peer p (λ y. part_of step.new_peer step.new_driver)) (peer_changed (λ y. part_of step.new_peer step.driver) s.peers s.drivers p step.peer step.new_peer step.driver there step.is_driver refl)
          ∙ at_twice p (λ y. part_of step.new_peer step.driver) (λ y. part_of step.new_peer step.new_driver) (parts_of s.peers s.drivers)
          ∙ at_same p (λ y. part_of step.new_peer step.new_driver) f (parts_of s.peers s.drivers) (λ y is. sym same ∙ ap f (same_Some (part_of step.peer step.driver) y (sym (part_there s.peers s.drivers p step.peer step.driver there step.is_driver) ∙ is)))

  -- at another peer
  pub elsewhere_shows : (f g : Part → Part) (x : PeerPart) (e : DriverPart) → slice_get s.peers p ≡ Some x → slice_get s.drivers step.at ≡ Some e → step.at ≢ p
      → f (part_of x step.driver) ≡ part_of x step.new_driver → g (part_of step.peer e) ≡ part_of step.new_peer e → bus_of t ≡ at_peer step.at g (at_peer p f (bus_of s))
  elsewhere_shows f g x e is_x is_e apart same_driver same_peer =
      ap (λ xs. parts_of xs t.drivers) step.peers
      ∙ ap (parts_of (set s.peers step.at step.new_peer)) step.drivers
      ∙ peer_changed g s.peers (set s.drivers p step.new_driver) step.at step.peer step.new_peer e step.is_peer (read_other s.drivers p step.at step.new_driver (λ e. apart (sym e)) ∙ is_e) same_peer
      ∙ ap (at_peer step.at g) (driver_changed f s.peers s.drivers p x step.driver step.new_driver is_x step.is_driver same_driver)
