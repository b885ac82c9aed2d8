use Rattle.std.proofs.Common.{ap, arith}
use Rattle.b1_pool.specs.Slices.{largest_free}
use Rattle.b1_pool.proofs.FitLemmas.{largest_free-append}
use Rattle.b1_pool.proofs.places.find_largest.Goals as goal

pub returns : goal.returns
returns c =
    omega (arith, c.largest_with.ensures, c.largest_with-2.ensures, largest_free-append c.as_slices.result.0.now c.as_slices.result.1.now, ap largest_free c.as_slices.ensures.items)
