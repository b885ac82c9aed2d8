use Rattle.std.proofs.Common.{ℕ, ◌+◌, ◌-◌, ◌*◌, ◌^◌, ◌<◌, ◌≤◌, length}
use Rattle.std.specs.Prelude.{IsPermutation}
use Rattle.b1_heap.specs.Heap.{IsIndexed}
use Rattle.b1_heap.specs.Sift.{SinksAt}
use Rattle.b1_heap.proofs.sift.sift_down.Given as goal

abbrev pub invariant-loop-child : goal.invariant-loop-child
invariant-loop-child g l =
    record {
      moved : IsPermutation l.initial.cells l.cells;
      indexed : IsIndexed l.cells l.places;
      sinks : SinksAt l.cells l.place;
      within : l.place < length l.cells;
      counted : l.initial.steps ≤ l.steps;
      cost : (levels : ℕ) × (2 ^ levels * (l.at + 1) ≤ l.place + 1) × (l.steps ≤ l.initial.steps + 2 * levels);
    }

abbrev pub decreases-loop-child : goal.decreases-loop-child
decreases-loop-child g l = length l.cells - l.place
