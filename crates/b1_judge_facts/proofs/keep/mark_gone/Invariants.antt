-- The nodes so far are added.
use Rattle.std.proofs.Common.{take}
use Rattle.b1_judge_facts.specs.Kept.{Adds}
use Rattle.b1_judge_facts.proofs.keep.mark_gone.Given as goal

abbrev pub invariant-loop-node : goal.invariant-loop-node
invariant-loop-node l = Adds (take l.node-index l.nodes) l.initial.gone l.gone
