use Rattle.std.proofs.Common.{◌≡◌, map}
use Rattle.b1_gen.specs.Generated.{below, commands_of}
use Rattle.b1_gen.proofs.commands.command_lists.Given as goal

abbrev pub invariant-loop-peer : goal.invariant-loop-peer
invariant-loop-peer l = l.lists.items ≡ map (commands_of l.number) (below l.peer)
