use Rattle.std.proofs.Common.{◌≡◌, ◌+◌, ◌≤◌}
use Rattle.std.specs.VecDeque.{deque_capacity, deque_len}
use Rattle.b1_handles.specs.Numbers.{names_of}
use Rattle.b1_handles.proofs.numbers.trim.Given as goal

abbrev pub invariant-loop-kept : goal.invariant-loop-kept
invariant-loop-kept l = record {
  names : names_of l.ended l.kept.items ≡ names_of l.fn.ended l.fn.kept.items;
  sum : l.ended + deque_len l.kept ≡ l.fn.ended + deque_len l.fn.kept;
  len : deque_len l.kept ≤ deque_len l.fn.kept;
  capacity : deque_capacity l.kept ≡ deque_capacity l.fn.kept;
}

abbrev pub decreases-loop-kept : goal.decreases-loop-kept
decreases-loop-kept l = deque_len l.kept
