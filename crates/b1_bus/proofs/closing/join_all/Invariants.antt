-- The states so far and those of the drivers to come are all; the seat has the parts of those so far.
use Rattle.std.proofs.Common.{◌≡◌, ◌+◌, ◌≤◌, ◌++◌, [], length, map, vec_len, vec_capacity}
use Rattle.std.specs.List.{AllByRecursion}
use Rattle.b1_rule.specs.Rule.{held_by, whole}
use Rattle.b1_locks.specs.Faces.{IsIdle}
use Rattle.b1_bus.specs.Seated.{IsOn}
use Rattle.b1_bus.proofs.closing.join_all.Given as goal

abbrev pub invariant-loop-drivers : goal.invariant-loop-drivers
invariant-loop-drivers l = record {
  table : l.seat.table_id ≡ l.table.shared.table_id;
  parts : l.seat.me ≡ (whole l.table.shared.key.opening.value (held_by l.states.items), []);
  on : AllByRecursion (IsOn l.table.shared.table_id l.table.shared.key.opening.value) l.drivers.items;
  rest : l.states.items ++ map (λ d. d.own) l.drivers.items ≡ map (λ d. d.own) l.fn.drivers.items;
  idle : AllByRecursion IsIdle l.states.items;
  fits : vec_len l.states + length l.drivers.items ≤ vec_capacity l.states;
}

abbrev pub decreases-loop-drivers : goal.decreases-loop-drivers
decreases-loop-drivers l = length l.drivers.items
