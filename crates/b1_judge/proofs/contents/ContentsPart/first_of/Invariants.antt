-- The calls so far keep the part, and the walk stands behind them.
use Rattle.std.proofs.Common.{◌≡◌, ℕ, ◌<◌}
use Rattle.b1_model.specs.Legal.{KeepsContents}
use Rattle.b1_judge.proofs.contents.ContentsPart.first_of.Given as goal

abbrev pub invariant-loop-call : goal.invariant-loop-call
invariant-loop-call l = record {
  walk : l.walk ≡ record { wires = l.self.facts.now.wires; rec = l.self.facts.now.rec; peer = l.peer; call = l.call-index };
  kept : (j : ℕ) → j < l.call-index → KeepsContents l.self.facts.now.wires l.self.facts.now.rec l.peer j;
}
