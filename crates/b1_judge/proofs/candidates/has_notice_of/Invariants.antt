-- None of the places so far may be received next.
use Rattle.std.proofs.Common.{◌≡◌, ℕ, ◌<◌, ◌&&◌, false}
use Rattle.b1_model.specs.Legal.{is_notice}
use Rattle.b1_judge.specs.Candidates.{key_at, is_under}
use Rattle.b1_judge.proofs.candidates.has_notice_of.Given as goal

abbrev pub invariant-loop-index : goal.invariant-loop-index
invariant-loop-index l = (i : ℕ) → i < l.index → (is_notice l.walk.wires l.walk.rec l.walk.peer l.walk.call (key_at l.stamp i) && is_under (key_at l.stamp i) l.limit) ≡ false
