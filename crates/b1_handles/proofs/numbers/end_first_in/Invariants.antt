use Rattle.std.proofs.Common.{◌≡◌, ◌+◌, ◌≤◌}
use Rattle.std.specs.VecDeque.{deque_capacity, deque_len}
use Rattle.b1_handles.specs.Numbers.{names_of}
use Rattle.b1_handles.proofs.numbers.end_first_in.Given as goal

abbrev pub invariant-loop-name : goal.invariant-loop-name
invariant-loop-name l = record {
  names : names_of l.ended l.kept.items ≡ names_of l.fn.ended l.fn.kept.items;
  sum : l.ended + deque_len l.kept ≡ l.fn.ended + deque_len l.fn.kept;
  len : deque_len l.kept ≤ deque_len l.fn.kept;
  capacity : deque_capacity l.kept ≡ deque_capacity l.fn.kept;
}

abbrev pub decreases-loop-name : goal.decreases-loop-name
decreases-loop-name l = deque_len l.kept
