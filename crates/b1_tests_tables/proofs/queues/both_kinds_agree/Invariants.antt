use Rattle.std.proofs.Common.{◌*◌, ◌<◌}
use Rattle.std.specs.Prelude.{All}
use Rattle.b1_heap.specs.Heap.{in_key_order}
use Rattle.b1_tests_tables.proofs.queues.both_kinds_agree.Given as goal

abbrev pub invariant-loop-n : goal.invariant-loop-n
invariant-loop-n g l = record {
  plain : All (λ e. e.0.index < 2 * l.n) l.plain.entries.items;
  heap : All (λ e. e.0.index < 2 * l.n) (in_key_order l.heap.cells.items);
}
