-- Drivers that stay the drivers of their bus.
use Rattle.std.specs.Prelude.{◌≡◌, List}
use Rattle.b1_locks.specs.Faces.{BusFace, DriverFace, crew, member, members}

-- a driver is still that of the same peer and bus
abbrev pub IsStill : DriverFace → DriverFace → Type 0
IsStill d e = member e ≡ member d

-- all drivers of a bus, in the order of their peers
abbrev pub AreAll : BusFace → List DriverFace → Type 0
AreAll b ds = members ds ≡ crew b
