use Rattle.std.proofs.Common.{◌≡◌}
use Rattle.std.specs.List.{flat_map}
use Rattle.b1_gen.specs.Generated.{below, wires_of}
use Rattle.b1_gen.proofs.opening.wires.Given as goal

abbrev pub invariant-loop-from : goal.invariant-loop-from
invariant-loop-from l = l.wires.items ≡ flat_map (wires_of l.count) (below l.from)
