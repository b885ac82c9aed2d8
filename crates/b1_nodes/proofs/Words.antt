-- The machine's own words are those of a peer's nodes and clock.
use Rattle.std.proofs.Common.{◌≡◌, ℕ, List, refl}
use Rattle.b1_model.specs.MachineParts.{PeerPart}
use Rattle.b1_model.specs.MachineDestroy.{destroy_refusal, destroy_serials, overflow_reason, reset_serials, live_serials}
use Rattle.b1_nodes.specs.Doom.{overflow_at, refusal_in, serials_in}

pub refusal_is : (x : PeerPart) (numbers : List ℕ) → destroy_refusal x numbers ≡ refusal_in x.nodes x.clock numbers
refusal_is x numbers = refl

pub overflow_is : (x : PeerPart) → overflow_reason x ≡ overflow_at x.clock
overflow_is x = refl

pub serials_are : (x : PeerPart) (numbers : List ℕ) → destroy_serials x numbers ≡ serials_in x.nodes numbers
serials_are x numbers = refl

pub live_are : (x : PeerPart) → reset_serials x ≡ live_serials 0 x.nodes
live_are x = refl
