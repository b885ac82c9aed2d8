use Rattle.std.proofs.Common.{◌-◌, ◌≤◌, length, take, drop}
use Rattle.b1_poolx.specs.Sizes.{AllBefore, NoneBefore}
use Rattle.b1_poolx.proofs.sizes.count_before.Given as goal

abbrev pub invariant-loop-low : goal.invariant-loop-low
invariant-loop-low l = record {
  ordered : l.low ≤ l.high;
  within : l.high ≤ length l.free;
  below : AllBefore l.s (take l.low l.free);
  above : NoneBefore l.s (drop l.high l.free);
}

abbrev pub decreases-loop-low : goal.decreases-loop-low
decreases-loop-low l = l.high - l.low
