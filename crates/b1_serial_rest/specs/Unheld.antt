-- The numbers that a HANDLE_RELEASE refuses.
use Rattle.std.specs.Prelude.{ℕ, Bool, if◌then◌else◌, Option, None, is_none}
use Rattle.b1_model.specs.declared.naming.NodeRef.{NodeRef}
use Rattle.b1_model.specs.Names.{is_given}
use Rattle.b1_serial_bus.specs.Parts.{Part}
use Rattle.b1_serial_bus.specs.Named.{held_node}

-- the node of the line with a number, where the number is a given one by its form
abbrev pub releasable : Part → ℕ → Option NodeRef
releasable y number = if is_given number then held_node y number else None

-- there is none
abbrev pub is_unheld : Part → ℕ → Bool
is_unheld y number = is_none (releasable y number)
