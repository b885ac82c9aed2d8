use Rattle.std.proofs.Common.{◌≡◌, drop}
use Rattle.b1_model.specs.MachineDriver.{memory_place}
use Rattle.b1_driver.proofs.places.memory_place.Given as goal

abbrev pub invariant-loop-here : goal.invariant-loop-here
invariant-loop-here l = memory_place l.here (drop l.here l.places) ≡ memory_place 0 l.places
