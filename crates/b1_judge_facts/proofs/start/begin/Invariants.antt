-- The wires so far have given their references.
use Rattle.std.proofs.Common.{take}
use Rattle.b1_judge_facts.specs.Start.{AreBegun}
use Rattle.b1_judge_facts.proofs.start.begin.Given as goal

abbrev pub invariant-loop-wire : goal.invariant-loop-wire
invariant-loop-wire l = AreBegun l.wires (take l.wire-index l.wires) l.count l.all.items
