-- The peers so far have nothing.
use Rattle.std.specs.Prelude.{[]}
use Rattle.b1_judge_facts.specs.Start.{AreNamed}
use Rattle.b1_judge_facts.proofs.start.blank.Given as goal

abbrev pub invariant-loop : goal.invariant-loop
invariant-loop l = AreNamed [] l.counter l.all.items
