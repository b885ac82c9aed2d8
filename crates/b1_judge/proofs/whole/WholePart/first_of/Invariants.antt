-- The walk stands behind the calls so far.
use Rattle.std.proofs.Common.{◌≡◌}
use Rattle.b1_judge.proofs.whole.WholePart.first_of.Given as goal

abbrev pub invariant-loop : goal.invariant-loop
invariant-loop l = l.walk ≡ record { wires = l.self.facts.now.wires; rec = l.self.facts.now.rec; peer = l.peer; call = l.index }
