-- The calls so far keep the part, and their greatest stamp is known.
use Rattle.std.proofs.Common.{ℕ, ◌<◌, take}
use Rattle.b1_model.specs.Names.{calls_of}
use Rattle.b1_judge.specs.Stamps.{IsMost}
use Rattle.b1_model.specs.Legal.{KeepsOrder}
use Rattle.b1_judge.proofs.order.OrderPart.first_of.Given as goal

abbrev pub invariant-loop-call : goal.invariant-loop-call
invariant-loop-call l = record {
  most : IsMost l.most (take l.call (calls_of l.self.rec.now l.peer));
  kept : (j : ℕ) → j < l.call → KeepsOrder l.self.rec.now l.peer j;
}
