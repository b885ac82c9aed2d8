use Rattle.std.proofs.Common.{◌≡◌, ◌++◌, drop}
use Rattle.b1_receipts.specs.Places.{places_from, data_places}
use Rattle.b1_receipts.proofs.places.data_places.Given as goal

abbrev pub invariant-loop-place : goal.invariant-loop-place
invariant-loop-place l = l.places.items ++ places_from l.place (drop l.place l.calls) ≡ data_places l.calls
