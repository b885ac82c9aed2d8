-- An accepted letter: what it changes at those that accepted it.
use Rattle.std.specs.Prelude.{ℕ, ◌+◌, ◌==◌, if◌then◌else◌, List, [], ◌∷◌}
use Rattle.std.specs.Prelude.{Option, None, Some, is_some, map, fold, length}
use Rattle.b1_model.specs.declared.naming.NodeRef.{NodeRef}
use Rattle.b1_model.specs.declared.parts.Slot.{Slot}
use Rattle.b1_model.specs.declared.parts.Slot.TheVariants as slot
use Rattle.b1_model.specs.declared.entries.Entry.{Entry}
use Rattle.b1_model.specs.declared.entries.Entry.TheVariants.{Message}
use Rattle.b1_model.specs.declared.answers.Reason.{Reason}
use Rattle.b1_model.specs.MachineParts.{is_release_notice}
use Rattle.b1_model.specs.MachinePool.{taken, taken_offset}
use Rattle.b1_model.specs.MachineTables.{put, without, foreign}
use Rattle.b1_serial_bus.specs.Parts.{Part, Bus, at_peer, key_of}
use Rattle.b1_serial_bus.specs.Lives.{destroyed_in}
use Rattle.b1_serial_bus.specs.Letters.{Letter, letter_len}

-- what a carried node is to a receiver: nothing where it is destroyed, its own, or a reference
abbrev pub slot_for : Bus → ℕ → NodeRef → Slot
slot_for bus q x =
    if is_some (destroyed_in bus x) then slot.Void
    else (if x.owner == q then slot.Own else slot.Attached)

-- the message of a place to a peer's node
abbrev pub message_of : Bus → Letter → ℕ → NodeRef → Part → Entry
message_of bus s place x y =
    let offset = taken_offset (letter_len s) y.slices in
    Message s.origin s.user place x.serial offset (length s.payload)
    s.with (map (slot_for bus x.owner) s.with) [] s.payload

-- a receiver: the message is in its box, with its slice, and the clock is the stamp
abbrev pub with_message : Bus → Letter → ℕ → ℕ → NodeRef → Part → Part
with_message bus s stamp place x y =
    record y {
      clock = stamp;
      slices = taken (letter_len s) y.slices;
      box = put (key_of stamp s.origin place) (message_of bus s place x y) y.box;
    }

-- the release notice of a node leaves its owner's box
abbrev pub without_notice : Bus → NodeRef → Bus
without_notice bus x =
    at_peer x.owner (λ y. record y { box = without (is_release_notice x.serial) y.box }) bus

-- one place: the message, and the release notices of the carried nodes that aren't the receiver's
abbrev pub delivered : Letter → ℕ → ℕ → NodeRef → Bus → Bus
delivered s stamp place x bus =
    fold without_notice
    (at_peer x.owner (with_message bus s stamp place x) bus) (foreign x.owner s.with)

-- the places from one on, each with its node and its answer
abbrev pub delivered_from : Letter → ℕ → ℕ → List (NodeRef × Option Reason) → Bus → Bus
delivered_from s stamp place [] bus = bus
delivered_from s stamp place ((x, Some r) ∷ rest) bus = delivered_from s stamp (place + 1) rest bus
delivered_from s stamp place ((x, None) ∷ rest) bus =
    delivered_from s stamp (place + 1) rest (delivered s stamp place x bus)
