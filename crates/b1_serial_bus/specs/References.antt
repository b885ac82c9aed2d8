-- References to other peers' nodes: who has one, how one comes to a peer, and how one leaves.
use Rattle.std.specs.Prelude.{ℕ, ◌+◌, ◌-◌, ◌==◌, Bool, false, ◌||◌, not, if◌then◌else◌}
use Rattle.std.specs.Prelude.{List, [], ◌∷◌, ◌++◌, None, Some, is_some, map}
use Rattle.std.specs.List.{list_any}
use Rattle.b1_model.specs.declared.naming.Key.{Key}
use Rattle.b1_model.specs.declared.naming.NodeRef.{NodeRef}
use Rattle.b1_model.specs.declared.entries.Entry.{Entry}
use Rattle.b1_model.specs.MachineParts.{same_ref}
use Rattle.b1_model.specs.MachineTables.{next_number}
use Rattle.b1_model.specs.MachineReceive.{references}
use Rattle.b1_serial_bus.specs.Parts.{HeldLine, Part, Bus}
use Rattle.b1_serial_bus.specs.Named.{line_of}

-- the nodes that a boxed message has references to, one for each slot
abbrev pub boxed_references : Key × Entry → List NodeRef
boxed_references f = map (λ r. r.0) (references f.1)

-- a boxed message has a slot for a node
abbrev pub has_slot : NodeRef → Key × Entry → Bool
has_slot x f = list_any (same_ref x) (boxed_references f)

-- a peer has a line or a boxed slot for a node
abbrev pub refers : NodeRef → Part → Bool
refers x y = is_some (line_of x y.lines) || list_any (has_slot x) y.box

-- some peer has
abbrev pub is_abroad : NodeRef → Bus → Bool
is_abroad x bus = list_any (refers x) bus

-- the number by which a node is given to a peer: that of its line, or else the next one
abbrev pub number_for : NodeRef → Part → ℕ
number_for x y = elim (line_of x y.lines) [ None ↦ next_number y.given | Some l ↦ l.number ]

-- a line is held once more, where it is the node's
abbrev pub raised : NodeRef → HeldLine → HeldLine
raised x l = if same_ref l.node x then record l { held = l.held + 1 } else l

-- a new line of a node
abbrev pub new_line : ℕ → NodeRef → HeldLine
new_line given x = record { number = next_number given; node = x; held = 1; dead = false }

-- a peer holds a node once more, with a new line where it had none
abbrev pub with_reference : NodeRef → Part → Part
with_reference x y =
    if is_some (line_of x y.lines) then record y { lines = map (raised x) y.lines }
    else record y { lines = y.lines ++ new_line y.given x ∷ []; given = y.given + 1 }

-- a line is held once less, and goes with the last
abbrev pub lowered : ℕ → List HeldLine → List HeldLine
lowered number [] = []
lowered number (l ∷ rest) =
    if not (l.number == number) then l ∷ lowered number rest
    else (if l.held == 1 then rest else record l { held = l.held - 1 } ∷ rest)
