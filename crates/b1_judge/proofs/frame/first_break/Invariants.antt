-- The peers so far keep the part.
use Rattle.std.proofs.Common.{ℕ, ◌<◌}
use Rattle.b1_judge.proofs.frame.first_break.Given as goal

abbrev pub invariant-loop-peer : goal.invariant-loop-peer
invariant-loop-peer g l = (p k : ℕ) → p < l.peer → g.P.Part.tries l.part p k → g.P.Part.keeps l.part p k
