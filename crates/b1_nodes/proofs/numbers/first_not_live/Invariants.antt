use Rattle.std.proofs.Common.{◌≡◌, length}
use Rattle.std.specs.Prelude.{find}
use Rattle.b1_nodes.specs.Doom.{is_not_live_in}
use Rattle.b1_nodes.proofs.numbers.first_not_live.Given as goal

abbrev pub invariant-loop-left : goal.invariant-loop-left
invariant-loop-left l = find (is_not_live_in l.nodes.nodes) l.left ≡ find (is_not_live_in l.nodes.nodes) l.numbers

abbrev pub decreases-loop-left : goal.decreases-loop-left
decreases-loop-left l = length l.left
