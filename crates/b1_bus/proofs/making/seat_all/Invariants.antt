-- The drivers seated so far and those to come are all; the seat has the parts of those to come.
use Rattle.std.proofs.Common.{◌≡◌, ◌+◌, ◌≤◌, ◌++◌, [], length, map, vec_len, vec_capacity}
use Rattle.std.specs.List.{AllByRecursion}
use Rattle.b1_rule.specs.Rule.{held_by, whole}
use Rattle.b1_bus.specs.Seated.{seated, IsSeated}
use Rattle.b1_bus.proofs.making.seat_all.Given as goal

abbrev pub invariant-loop-states : goal.invariant-loop-states
invariant-loop-states l = record {
  table : l.seat.table_id ≡ l.initial.seat.table_id;
  parts : l.seat.me ≡ (whole l.initial.seat.me.0.opening (held_by l.states.items), []);
  are_seated : AllByRecursion (IsSeated l.initial.seat.me.0.opening) l.states.items;
  rest : l.drivers.items ++ map (seated l.initial.seat.table_id l.initial.seat.me.0.opening) l.states.items ≡ map (seated l.initial.seat.table_id l.initial.seat.me.0.opening) l.initial.states.items;
  fits : vec_len l.drivers + length l.states.items ≤ vec_capacity l.drivers;
}

abbrev pub decreases-loop-states : goal.decreases-loop-states
decreases-loop-states l = length l.states.items
