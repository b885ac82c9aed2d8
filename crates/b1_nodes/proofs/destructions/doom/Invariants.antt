use Rattle.std.proofs.Common.{◌≡◌, ◌++◌, length}
use Rattle.std.specs.Vec.{vec_capacity}
use Rattle.b1_nodes.specs.Doom.{serials_in}
use Rattle.b1_nodes.proofs.destructions.doom.Given as goal

abbrev pub invariant-loop-left : goal.invariant-loop-left
invariant-loop-left l = record {
  serials : l.doomed.items ++ serials_in l.nodes.nodes l.left ≡ serials_in l.nodes.nodes l.numbers;
  capacity : vec_capacity l.doomed ≡ vec_capacity l.fn.doomed;
}

abbrev pub decreases-loop-left : goal.decreases-loop-left
decreases-loop-left l = length l.left
