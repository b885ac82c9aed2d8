use Rattle.std.proofs.Common.{◌≡◌, drop}
use Rattle.b1_pool.specs.Slices.{least_fit}
use Rattle.b1_pool.specs.Places.{least_of}
use Rattle.b1_pool.proofs.places.least_with.Given as goal

abbrev pub invariant-loop-s : goal.invariant-loop-s
invariant-loop-s l = least_of l.least (least_fit l.len (drop l.s-index l.slices)) ≡ least_of l.fn.before (least_fit l.len l.slices)
