-- What finds a node by its number.
use Rattle.std.specs.Prelude.{◌≡◌, ◌≤◌, ℕ, List, Option, None, Some, length, nat_lt}
use Rattle.std.specs.Bool.{then_some}
use Rattle.std.specs.BTreeMap.{get}
use Rattle.std.specs.Ordering.{nat_cmp}
use Rattle.b1_model.specs.MachineParts.{NodePart}
use Rattle.b1_model.specs.MachineTables.{serial_of}
use Rattle.b1_nodes.specs.declared.index.Index.{Index}

-- a serial, if it is below a bound
abbrev pub below : ℕ → Option ℕ → Option ℕ
below bound None = None
below bound (Some serial) = then_some (nat_lt serial bound) serial

-- how many of the first nodes an index knows
abbrev pub known_by : Index → ℕ
known_by index = index.known

-- the index knows some of the first nodes: it has the serial of each of their numbers, and no other number
pub record IsIndex (index : Index) (nodes : List NodePart) : Type 0 where
  pub few : index.known ≤ length nodes
  pub serials : (number : ℕ) → get nat_cmp index.serials number ≡ below index.known (serial_of number nodes)

-- each number names the same serial
abbrev pub AreNamedAlike : List NodePart → List NodePart → Type 0
AreNamedAlike old new = (number : ℕ) → serial_of number new ≡ serial_of number old
