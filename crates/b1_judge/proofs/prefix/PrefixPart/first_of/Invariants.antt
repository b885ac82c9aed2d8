-- The calls so far keep the part, and the walk stands behind them.
use Rattle.std.proofs.Common.{◌≡◌, ℕ, ◌<◌}
use Rattle.b1_model.specs.Legal.{KeepsPrefix}
use Rattle.b1_judge.proofs.prefix.PrefixPart.first_of.Given as goal

abbrev pub invariant-loop-call : goal.invariant-loop-call
invariant-loop-call l = record {
  walk : l.walk ≡ record { wires = l.self.facts.now.wires; rec = l.self.facts.now.rec; peer = l.peer; call = l.call-index };
  kept : (j : ℕ) → j < l.call-index → KeepsPrefix l.self.facts.now.wires l.self.facts.now.rec l.peer j;
}
