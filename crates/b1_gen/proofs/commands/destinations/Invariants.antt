use Rattle.std.proofs.Common.{◌≡◌, map}
use Rattle.std.specs.List.{filter}
use Rattle.b1_gen.specs.Generated.{below, matches, handle_at}
use Rattle.b1_gen.proofs.commands.destinations.Given as goal

abbrev pub invariant-loop-other : goal.invariant-loop-other
invariant-loop-other l = l.to.items ≡ map (handle_at l.peer) (filter (matches l.number l.phase l.peer) (below l.other))
