-- The peers up to here that are left.
use Rattle.std.proofs.Common.{◌≡◌, filter}
use Rattle.std.specs.List.{range_with_len}
use Rattle.b1_schedule.specs.Schedule.{is_left}
use Rattle.b1_play.proofs.rounds.waiting_peers.Given as goal

abbrev pub invariant-loop-p : goal.invariant-loop-p
invariant-loop-p g l = l.waiting.items ≡ filter (is_left l.core.commands l.core.state) (range_with_len 0 l.p)
