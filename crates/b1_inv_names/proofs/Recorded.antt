-- The calls of the record are those of the driver's part.
use Rattle.std.proofs.Common.{◌≡◌, ap, ℕ, zero, suc, List, [], ◌∷◌, Some}
use Rattle.std.specs.Prelude.{slice_get}
use Rattle.std.proofs.lemmas.Option.{same_Some}
use Rattle.b1_model.specs.Names.{calls_in, calls_of}
use Rattle.b1_model.specs.MachineParts.{PeerPart, DriverPart, State}
use Rattle.b1_model.specs.MachineTook.{driver_calls}
use Rattle.b1_model.specs.MachineStep.{peer_records, record_of_state}
use Rattle.b1_inv.specs.Words.{IsPeer, IsDriver}

recorded_in : (xs : List PeerPart) (ds : List DriverPart) (p : ℕ) (x : PeerPart) (d : DriverPart) → slice_get xs p ≡ Some x → slice_get ds p ≡ Some d → calls_in (slice_get (peer_records xs ds) p) ≡ driver_calls d
recorded_in [] ds p x d is also = absurd (cc is)
recorded_in (y ∷ xs) [] p x d is also = absurd (cc also)
recorded_in (y ∷ xs) (e ∷ ds) zero x d is also = ap driver_calls (same_Some e d also)
recorded_in (y ∷ xs) (e ∷ ds) (suc p) x d is also = recorded_in xs ds p x d is also

pub recorded_calls : (s : State) (p : ℕ) (x : PeerPart) (d : DriverPart) → IsPeer s p x → IsDriver s p d → calls_of (record_of_state s) p ≡ driver_calls d
recorded_calls s p x d is also = recorded_in s.peers s.drivers p x d is also
