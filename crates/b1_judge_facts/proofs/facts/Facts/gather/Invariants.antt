-- What the stamped calls so far name is gathered.
use Rattle.std.proofs.Common.{take, drop}
use Rattle.b1_judge_facts.proofs.SoFar.{IsSoFar}
use Rattle.b1_judge_facts.proofs.facts.Facts.gather.Given as goal

abbrev pub invariant-loop-stamp : goal.invariant-loop-stamp
invariant-loop-stamp l = IsSoFar l.opening.wires l.rec (take l.stamp-index l.stamp-items) (drop l.stamp-index l.stamp-items) l.gathering
