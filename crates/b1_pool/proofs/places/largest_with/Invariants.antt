use Rattle.std.proofs.Common.{◌≡◌, drop, max}
use Rattle.b1_pool.specs.Slices.{largest_free}
use Rattle.b1_pool.proofs.places.largest_with.Given as goal

abbrev pub invariant-loop-s : goal.invariant-loop-s
invariant-loop-s l = max l.largest (largest_free (drop l.s-index l.slices)) ≡ max l.fn.before (largest_free l.slices)
