-- A state at rest, and its serial bus, peer by peer.
use Rattle.std.proofs.Common.{◌≡◌, refl, sym, ap, ◌∙◌, ℕ, zero, suc, ◌<◌, List, [], ◌∷◌, length, Option, Some, None, option_map}
use Rattle.std.specs.Prelude.{slice_get}
use Rattle.std.proofs.lemmas.Option.{same_Some, slice_get-map, slice_get_within}
use native.Mathlib.Omega.{arith}
use Rattle.b1_model.specs.declared.naming.Opening.{Opening}
use Rattle.b1_model.specs.MachineParts.{PeerPart, DriverPart, State}
use Rattle.b1_serial_bus.specs.Parts.{Part, Bus}
use Rattle.b1_serial_bus.proofs.Shapes.{shape, shapes}
use Rattle.b1_serial_bus.proofs.Left.{AreNumbered}
use Rattle.b1_serial_rest.specs.Standing.{parts_of}
use Rattle.b1_serial_rest.specs.Rest.{AtRest}
use Rattle.b1_serial_rest.proofs.Own.{Parts, parts_at}

-- the driver of a peer of the bus
pub record Driver (s : State) (p : ℕ) (y : Part) : Type 0 where
  pub part : DriverPart
  pub is_driver : slice_get s.drivers p ≡ Some part
  pub idle : part.doing ≡ None
  pub calls : y.calls ≡ part.calls
  pub shut : y.shut ≡ part.shut
  pub me : y.me ≡ p

-- as many as there are of both parts
many : (xs : List PeerPart) (ds : List DriverPart) → length xs ≡ length ds → length (parts_of xs ds) ≡ length ds
many [] [] same = refl
many [] (d ∷ ds) same = cc same
many (x ∷ xs) [] same = cc same
many (x ∷ xs) (d ∷ ds) same = ap suc (many xs ds (omega (arith, same)))

module _ {o : Opening} {s : State} {bus : Bus} (rest : AtRest o s bus) where
  pub driver_at : (p : ℕ) (y : Part) → slice_get bus p ≡ Some y → Driver s p y
  driver_at p y is =
      let here : Parts s.peers s.drivers p y = parts_at s.peers s.drivers p y (ap (λ b. slice_get b p) (sym rest.is_bus) ∙ is) in
      record {
        part = here.1;
        is_driver = here.3;
        idle = rest.quiet.idle p here.1 here.3;
        calls = ap (λ z. z.calls) here.4;
        shut = ap (λ z. z.shut) here.4;
        me = ap (λ z. z.me) here.4 ∙ (rest.numbered.peers p here.0 here.2).me;
      }

  pub as_many : length bus ≡ length s.drivers
  as_many = ap length rest.is_bus ∙ many s.peers s.drivers (rest.numbered.as_many_peers ∙ sym rest.numbered.as_many_drivers)

  pub numbered : AreNumbered (shapes bus)
  numbered p shape_at is = by (slice_get bus p) refl
    where
      by : (found : Option Part) → slice_get bus p ≡ found → shape_at.0 ≡ p
      by None none = cc (sym (slice_get-map shape bus p ∙ ap (option_map shape) none) ∙ is)
      by (Some y) some = ap (λ z. z.0) (sym (same_Some (shape y) shape_at (sym (slice_get-map shape bus p ∙ ap (option_map shape) some) ∙ is))) ∙ (driver_at p y some).me

  pub no_driver : (p : ℕ) → slice_get bus p ≡ None → slice_get s.drivers p ≡ None
  no_driver p none = by (slice_get s.drivers p) refl
    where
      by : (found : Option DriverPart) → slice_get s.drivers p ≡ found → found ≡ None
      by None is = refl
      by (Some d) is = let within = slice_get_within s.drivers p d is in absurd (there bus p (omega (arith, within, as_many)) none)
        where
          there : (b : Bus) (q : ℕ) → q < length b → slice_get b q ≡ None → ⊥
          there [] q less none = omega (arith, less)
          there (y ∷ ys) zero less none = cc none
          there (y ∷ ys) (suc q) less none = there ys q (omega (arith, less)) none
