-- Drivers and their seats.
use Rattle.std.specs.Prelude.{◌≡◌, ◌<◌, ℕ, List, length, map, get_or}
use Rattle.atomic_table.specs.Seated.{TableId}
use Rattle.b1_model.specs.declared.naming.Opening.{Opening}
use Rattle.b1_model.specs.MachineParts.{DriverPart}
use Rattle.b1_model.specs.MachineStep.{idle_driver}
use Rattle.b1_driver.specs.Parts.{Driver}
use Rattle.b1_locks.specs.Faces.{DriverFace, IsIdle, StandsIn}

-- a driver with a seat of a table
abbrev pub seated : TableId → Opening → Driver → DriverFace
seated table o d = record { table = table; opening = o; own = d }

-- a driver that may have a seat of its own: it is between two commands, its part stands in a reached state, and it is of a peer of the opening
pub record IsSeated (o : Opening) (d : Driver) : Type 0 where
  pub idle : IsIdle d
  pub stands : StandsIn o d.part
  pub known : d.part.me < length o.peers

-- a driver is on a table, and its bus was opened so
pub record IsOn (table : TableId) (o : Opening) (d : DriverFace) : Type 0 where
  pub table_is : d.table ≡ table
  pub opening_is : d.opening ≡ o

-- the part of driver p
abbrev pub driver_at : List Driver → ℕ → DriverPart
driver_at ds p = get_or (map (λ d. d.part) ds) p (idle_driver p)
