-- A whole RECV: what is for nobody is discarded, and the first of the box is taken.
use Rattle.std.specs.Prelude.{Bool, false, ◌==◌, ◌&&◌, not, if◌then◌else◌, List, [], ◌∷◌, None}
use Rattle.std.specs.Prelude.{is_none, length}
use Rattle.b1_model.specs.declared.naming.Key.{Key}
use Rattle.b1_model.specs.declared.entries.Entry.{Entry}
use Rattle.b1_model.specs.declared.entries.Entry.TheVariants as entry
use Rattle.b1_model.specs.declared.commands.Command.TheVariants as cmd
use Rattle.b1_model.specs.declared.answers.Receipt.{Receipt}
use Rattle.b1_model.specs.declared.answers.Answer.TheVariants as ans
use Rattle.b1_model.specs.declared.answers.Front.TheVariants.{Absent}
use Rattle.b1_model.specs.declared.answers.Reason.TheVariants as reason
use Rattle.b1_model.specs.MachineDriver.{refused_at}
use Rattle.b1_serial_bus.specs.Parts.{Part, called}
use Rattle.b1_serial_bus.specs.Named.{line_of}
use Rattle.b1_serial_bus.specs.Arrival.{taken_entry}

-- only the notice of a node that the peer doesn't hold is for nobody
abbrev pub is_for_nobody : Part → Entry → Bool
is_for_nobody y e = elim e [
  | entry.ForeignNotice node index ↦ is_none (line_of node y.lines)
  | other ↦ false
]

-- a box without what is for nobody at its front
abbrev pub without_discards : Part → List (Key × Entry) → List (Key × Entry)
without_discards y [] = []
without_discards y (f ∷ rest) = if is_for_nobody y f.1 then without_discards y rest else f ∷ rest

-- the peer after the discards
abbrev pub cleared : Part → Part
cleared y = record y { box = without_discards y y.box }

-- the peer after it took an entry, with the receipt among its calls
abbrev pub receipt_called : Receipt × Part → Part
receipt_called got = called cmd.Recv (ans.Got got.0) got.1

-- the peer after a RECV with this box
abbrev pub received_from : List (Key × Entry) → Part → Part
received_from [] y = called cmd.Recv (refused_at (reason.Again Absent) None) y
received_from (f ∷ rest) y = receipt_called (taken_entry f.0 f.1 (record y { box = rest }))

-- the peer after a RECV
abbrev pub received : Part → Part
received y = received_from (cleared y).box (cleared y)

-- a box is empty
abbrev pub is_empty : List (Key × Entry) → Bool
is_empty box = length box == 0

-- an attempt to receive waits: nothing is left in the box but what is for nobody
abbrev pub waits : Part → Bool
waits y = not y.shut && is_empty (cleared y).box
