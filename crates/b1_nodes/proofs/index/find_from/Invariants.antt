use Rattle.std.proofs.Common.{◌==◌, ◌≤◌}
use Rattle.std.specs.List.{position_or_len}
use Rattle.b1_nodes.proofs.index.find_from.Given as goal

abbrev pub invariant-loop-serial : goal.invariant-loop-serial
invariant-loop-serial l = l.serial ≤ position_or_len (λ n. n.number == l.number) l.nodes
