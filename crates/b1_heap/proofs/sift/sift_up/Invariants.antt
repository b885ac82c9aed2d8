use Rattle.std.proofs.Common.{◌+◌, ◌-◌, ◌*◌, ◌^◌, ◌<◌, ◌≤◌, length}
use Rattle.std.specs.Prelude.{IsPermutation}
use Rattle.b1_heap.specs.Heap.{IsIndexed}
use Rattle.b1_heap.specs.Sift.{RisesAt}
use Rattle.b1_heap.proofs.sift.sift_up.Given as goal

abbrev pub invariant-loop-place : goal.invariant-loop-place
invariant-loop-place g l =
    record {
      moved : IsPermutation l.initial.cells l.cells;
      indexed : IsIndexed l.cells l.places;
      rises : RisesAt l.cells l.place;
      within : l.place < length l.cells;
      counted : l.initial.steps ≤ l.steps;
      cost : 2 ^ (l.steps - l.initial.steps) * (l.place + 1) ≤ l.at + 1;
    }

abbrev pub decreases-loop-place : goal.decreases-loop-place
decreases-loop-place g l = l.place
