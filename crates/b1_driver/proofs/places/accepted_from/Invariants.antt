use Rattle.std.proofs.Common.{◌≡◌, drop}
use Rattle.b1_model.specs.MachineDriver.{next_accepted}
use Rattle.b1_driver.proofs.places.accepted_from.Given as goal

abbrev pub invariant-loop-here : goal.invariant-loop-here
invariant-loop-here l = next_accepted l.here l.from (drop l.here l.places) ≡ next_accepted 0 l.from l.places
