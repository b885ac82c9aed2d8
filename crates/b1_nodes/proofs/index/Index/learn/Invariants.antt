use Rattle.std.proofs.Common.{◌-◌, length}
use Rattle.b1_nodes.specs.Index.{IsIndex}
use Rattle.b1_nodes.proofs.index.Index.learn.Given as goal

abbrev pub invariant-loop-self : goal.invariant-loop-self
invariant-loop-self l = IsIndex l.self l.nodes

abbrev pub decreases-loop-self : goal.decreases-loop-self
decreases-loop-self l = length l.nodes - l.self.known
