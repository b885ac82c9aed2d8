use Rattle.b1_locks.specs.Faces.{IsOf}
use Rattle.b1_crew.specs.Parts.{IsStill}
use Rattle.bus1bench.proofs.flow.Flow.receive_all.Given as goal

abbrev pub invariant-loop : goal.invariant-loop
invariant-loop g l = IsOf l.driver l.bus × IsStill l.fn.driver l.driver
