use Rattle.std.proofs.Common.{◌≡◌, ◌+◌, ◌≤◌, ◌++◌, length, map, vec_len, vec_capacity}
use Rattle.b1_run.proofs.site.drivers_of.Given as goal

abbrev pub invariant-loop-drivers : goal.invariant-loop-drivers
invariant-loop-drivers l = record {
  rest : l.drivers.items ++ map (λ w. w.driver) l.workers.items ≡ map (λ w. w.driver) l.initial.workers.items;
  fits : vec_len l.drivers + length l.workers.items ≤ vec_capacity l.drivers;
}

abbrev pub decreases-loop-drivers : goal.decreases-loop-drivers
decreases-loop-drivers l = length l.workers.items
