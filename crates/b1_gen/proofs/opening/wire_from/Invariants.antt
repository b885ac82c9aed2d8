use Rattle.std.proofs.Common.{◌≡◌, ◌++◌, ◌==◌, not, map}
use Rattle.std.specs.List.{filter}
use Rattle.b1_gen.specs.Generated.{below, node_wire}
use Rattle.b1_gen.proofs.opening.wire_from.Given as goal

abbrev pub invariant-loop-to : goal.invariant-loop-to
invariant-loop-to l = l.wires.items ≡ l.initial.wires.items ++ map (node_wire l.from) (filter (λ q. not (q == l.from)) (below l.to))
