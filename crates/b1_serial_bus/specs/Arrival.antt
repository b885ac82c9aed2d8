-- What an entry of a box is to the peer that takes it.
use Rattle.std.specs.Prelude.{ℕ, true, if◌then◌else◌, List, [], ◌∷◌, ◌++◌, None, Some}
use Rattle.std.specs.Prelude.{map, fold, zip}
use Rattle.b1_model.specs.declared.naming.Key.{Key}
use Rattle.b1_model.specs.declared.naming.NodeRef.{NodeRef}
use Rattle.b1_model.specs.declared.parts.Slot.{Slot}
use Rattle.b1_model.specs.declared.parts.Slot.TheVariants as slot
use Rattle.b1_model.specs.declared.entries.Entry.{Entry}
use Rattle.b1_model.specs.declared.entries.Entry.TheVariants as entry
use Rattle.b1_model.specs.declared.answers.Receipt.{Receipt}
use Rattle.b1_model.specs.declared.answers.Receipt.TheVariants as receipt
use Rattle.b1_model.specs.Names.{invalid}
use Rattle.b1_model.specs.MachineParts.{same_ref}
use Rattle.b1_model.specs.MachinePool.{published}
use Rattle.b1_serial_bus.specs.Parts.{HeldLine, Part}
use Rattle.b1_serial_bus.specs.Named.{line_of}
use Rattle.b1_serial_bus.specs.Lives.{own_number}
use Rattle.b1_serial_bus.specs.References.{number_for, with_reference}

-- a peer while the handles of a message arrive, and their numbers so far
pub record Arriving : Type 0 where
  pub part : Part
  pub numbers : List ℕ

-- a handle arrives: nothing, the peer's own node, or a reference
abbrev pub arrives : Arriving → NodeRef × Slot → Arriving
arrives a (x, slot.Unattached) = record a { numbers = a.numbers ++ invalid ∷ [] }
arrives a (x, slot.Void) = record a { numbers = a.numbers ++ invalid ∷ [] }
arrives a (x, slot.Own) = record a { numbers = a.numbers ++ own_number a.part x.serial ∷ [] }
arrives a (x, slot.Attached) =
    record { part = with_reference x a.part; numbers = a.numbers ++ number_for x a.part ∷ [] }

-- the handles of a message arrive, one after another
abbrev pub arrived : List NodeRef → List Slot → Part → Arriving
arrived nodes slots y = fold arrives (record { part = y; numbers = [] }) (zip nodes slots)

-- the number by which a peer holds a node
abbrev pub held_number : Part → NodeRef → ℕ
held_number y x = elim (line_of x y.lines) [ None ↦ invalid | Some l ↦ l.number ]

-- a line is dead, where it is the node's
abbrev pub made_dead : NodeRef → HeldLine → HeldLine
made_dead x l = if same_ref l.node x then record l { dead = true } else l

-- what a peer gets of an entry, and the peer after it
abbrev pub taken_entry : Key → Entry → Part → Receipt × Part
taken_entry k (entry.Message origin user index serial offset len nodes slots handles payload) y =
    let a = arrived nodes slots (record y { slices = published offset y.slices }) in
    (receipt.Message k (own_number y serial) offset a.numbers payload, a.part)
taken_entry k (entry.OwnNotice serial index) y = (receipt.Destroyed k (own_number y serial), y)
taken_entry k (entry.ForeignNotice node index) y =
    (receipt.Destroyed k (held_number y node), record y { lines = map (made_dead node) y.lines })
taken_entry k (entry.ReleaseNotice serial) y = (receipt.Released k.stamp (own_number y serial), y)
