-- The calls so far keep the part.
use Rattle.std.proofs.Common.{◌≡◌, ℕ, ◌<◌}
use Rattle.b1_model.specs.Names.{calls_of}
use Rattle.b1_model.specs.Script.{KeepsScript}
use Rattle.b1_judge.proofs.script_part.CommandsPart.first_of.Given as goal

abbrev pub invariant-loop-call : goal.invariant-loop-call
invariant-loop-call l = record {
  passed : l.receipts ≡ record { calls = calls_of l.self.rec.now l.peer; count = l.call };
  kept : (j : ℕ) → j < l.call → KeepsScript l.self.lists.now l.self.rec.now l.peer j;
}
