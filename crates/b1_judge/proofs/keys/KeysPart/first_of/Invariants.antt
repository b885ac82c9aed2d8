-- The calls so far keep the part, and their stamps are in the set.
use Rattle.std.proofs.Common.{ℕ, ◌<◌, take}
use Rattle.b1_model.specs.Names.{calls_of}
use Rattle.b1_judge.specs.Stamps.{AreGiven}
use Rattle.b1_model.specs.Legal.{KeepsKeys}
use Rattle.b1_judge.proofs.keys.KeysPart.first_of.Given as goal

abbrev pub invariant-loop-call : goal.invariant-loop-call
invariant-loop-call l = record {
  given : AreGiven l.given (take l.call (calls_of l.self.rec.now l.peer));
  kept : (j : ℕ) → j < l.call → KeepsKeys l.self.rec.now l.peer j;
}
