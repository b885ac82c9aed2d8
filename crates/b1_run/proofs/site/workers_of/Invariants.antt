use Rattle.std.proofs.Common.{◌≡◌, ◌+◌, ◌≤◌, ◌++◌, length, map, vec_len, vec_capacity}
use Rattle.b1_run.proofs.site.workers_of.Given as goal

abbrev pub invariant-loop-workers : goal.invariant-loop-workers
invariant-loop-workers l = record {
  rest : map (λ w. w.driver) l.workers.items ++ l.drivers.items ≡ l.initial.drivers.items;
  fits : vec_len l.workers + length l.drivers.items ≤ vec_capacity l.workers;
}

abbrev pub decreases-loop-workers : goal.decreases-loop-workers
decreases-loop-workers l = length l.drivers.items
