use Rattle.std.proofs.Common.{◌≡◌}
use Rattle.b1_nodes.specs.Nodes.{holders}
use Rattle.b1_nodes.proofs.serials.holders_of.Given as goal

abbrev pub invariant-loop-peer : goal.invariant-loop-peer
invariant-loop-peer l = l.holders ≡ holders l.peer l.nodes l.serials
