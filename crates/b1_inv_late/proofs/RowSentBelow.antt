-- Events that no steps have: a peer receives a message, then begins a SEND of its own, and that gets a stamp below the message's. They break the order of receive before send.
use Rattle.std.proofs.Common.{◌≡◌, refl, false, ℕ, ◌<◌, List, [], ◌∷◌, Ok}
use native.Mathlib.Omega.{arith}
use Rattle.b1_model.specs.declared.naming.NodeRef.{NodeRef}
use Rattle.b1_model.specs.declared.answers.Receipt.TheVariants as rec
use Rattle.b1_model.specs.declared.events.Outcome.TheVariants as out
use Rattle.b1_model.specs.MachineOrder.{Event, StampedCall, stamped_calls, ReceivedBeforeSent}
use Rattle.b1_step.proofs.RowWords.{key}

-- the first node of a peer
abbrev node : ℕ → NodeRef
node p = record { owner = p; serial = 0 }

abbrev receipt : Event
receipt = record { driver = 1; at = 1; outcome = out.Recv (record { front = Ok (rec.Message (key 4 0 0) 4 0 [] (97 ∷ [])); removed = 0 }) false }

abbrev told : List Event
told =
    record { driver = 0; at = 0; outcome = out.Begin (Ok (record { to = node 1 ∷ []; with = [] })) } ∷
    record { driver = 0; at = 1; outcome = out.Stage (Ok 0) } ∷
    record { driver = 0; at = 0; outcome = out.Stamp 4 } ∷
    receipt ∷
    record { driver = 1; at = 1; outcome = out.Begin (Ok (record { to = node 0 ∷ []; with = [] })) } ∷
    record { driver = 1; at = 0; outcome = out.Stage (Ok 0) } ∷
    record { driver = 1; at = 1; outcome = out.Stamp 2 } ∷ []

-- the message's call, and the one that begins after its receipt
abbrev received : StampedCall
received = record { began = 0; origin = 0; stamp = 4; parties = 1 ∷ 0 ∷ [] }

abbrev sent_below : StampedCall
sent_below = record { began = 4; origin = 1; stamp = 2; parties = 0 ∷ 1 ∷ [] }

pub calls : stamped_calls 0 told ≡ received ∷ sent_below ∷ []
calls = refl

pub breaks : ReceivedBeforeSent told → ⊥
breaks order =
    let behind : 3 < 4 = omega arith in
    let low : 4 < 2 = order.later 3 receipt (key 4 0 0) received sent_below refl refl (0, refl) refl refl (1, refl) behind refl in
    omega (arith, low)
