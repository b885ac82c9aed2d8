-- The nodes so far are marked.
use Rattle.std.proofs.Common.{take}
use Rattle.b1_judge_facts.specs.Kept.{Marks}
use Rattle.b1_judge_facts.proofs.keep.mark_first.Given as goal

abbrev pub invariant-loop-node : goal.invariant-loop-node
invariant-loop-node l = Marks l.stamp l.origin (take l.node-index l.nodes) l.initial.first l.first
