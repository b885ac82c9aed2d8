use Rattle.std.proofs.Common.{◌+◌, ◌-◌, ◌*◌, ◌^◌, ◌≤◌, length, take, drop}
use Rattle.b1_poolx.specs.Sizes.{AllShorter, NoneShorter}
use Rattle.b1_poolx.proofs.sizes.count_shorter.Given as goal

abbrev pub invariant-loop-low : goal.invariant-loop-low
invariant-loop-low g l = record {
  ordered : l.low ≤ l.high;
  within : l.high ≤ length l.free;
  below : AllShorter l.len (take l.low l.free);
  above : NoneShorter l.len (drop l.high l.free);
  rises : l.initial.steps ≤ l.steps;
  left : 2 ^ (l.steps - l.initial.steps) * (l.high - l.low) ≤ length l.free;
  cost : 2 ^ (l.steps - l.initial.steps) ≤ 2 * length l.free + 1;
}

abbrev pub decreases-loop-low : goal.decreases-loop-low
decreases-loop-low g l = l.high - l.low
