-- The notices of a destruction at the peers that have a line or a boxed slot for a doomed node.
use Rattle.std.specs.Prelude.{ℕ, ◌+◌, Bool, if◌then◌else◌, List, [], ◌∷◌}
use Rattle.std.specs.List.{list_any}
use Rattle.b1_model.specs.declared.naming.NodeRef.{NodeRef}
use Rattle.b1_model.specs.declared.entries.Entry.TheVariants.{ForeignNotice}
use Rattle.b1_model.specs.MachineTables.{put}
use Rattle.b1_serial_bus.specs.Parts.{Part, key_of}
use Rattle.b1_serial_bus.specs.References.{refers}

-- a peer's node with a serial
abbrev pub node_of : ℕ → ℕ → NodeRef
node_of p serial = record { owner = p; serial = serial }

-- a peer has a line or a boxed slot for one of peer p's doomed nodes
abbrev pub refers_to_doomed : ℕ → List ℕ → Part → Bool
refers_to_doomed p doomed y = list_any (λ serial. refers (node_of p serial) y) doomed

-- a notice comes to such a peer under a key of the destruction, and the clock is the stamp
abbrev pub with_notice : ℕ → ℕ → ℕ → ℕ → Part → Part
with_notice stamp p index serial y =
    let notice = ForeignNotice (node_of p serial) index in
    record y { clock = stamp; box = put (key_of stamp p index) notice y.box }

-- a notice of each doomed node, from a place of their list on, that the peer has one for
abbrev pub with_notices : ℕ → ℕ → ℕ → List ℕ → Part → Part
with_notices stamp p index [] y = y
with_notices stamp p index (serial ∷ rest) y =
    with_notices stamp p (index + 1) rest
    (if refers (node_of p serial) y then with_notice stamp p index serial y else y)
