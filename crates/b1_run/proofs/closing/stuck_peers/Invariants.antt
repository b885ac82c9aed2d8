use Rattle.std.proofs.Common.{◌≡◌}
use Rattle.std.specs.List.{filter, range_with_len}
use Rattle.b1_rule.specs.Rule.{state_of}
use Rattle.b1_schedule.specs.Schedule.{is_left}
use Rattle.b1_run.specs.Standing.{WaitBelow}
use Rattle.b1_run.proofs.closing.stuck_peers.Given as goal

abbrev pub invariant-loop-p : goal.invariant-loop-p
invariant-loop-p l = record {
  found : l.waiting.items ≡ filter (is_left l.lists (state_of l.closed.peers l.closed.drivers)) (range_with_len 0 l.p);
  wait : WaitBelow l.lists (state_of l.closed.peers l.closed.drivers) l.p;
}
