-- The wires so far have given their names.
use Rattle.std.specs.Prelude.{take}
use Rattle.b1_judge_facts.specs.Start.{AreNamed}
use Rattle.b1_judge_facts.proofs.start.name_all.Given as goal

abbrev pub invariant-loop-wire : goal.invariant-loop-wire
invariant-loop-wire l = AreNamed (take l.wire-index l.wires) l.count l.all.items
