use Rattle.std.proofs.Common.{◌≡◌, ◌+◌, ◌<◌, ◌^◌, take}
use Rattle.std.specs.List.{sum_by}
use Rattle.b1_gen.specs.Counted.{worth}
use Rattle.b1_gen.proofs.counting.with_calls.Given as goal

abbrev pub invariant-loop-call : goal.invariant-loop-call
invariant-loop-call l = (l.sum ≡ l.count + sum_by (λ c. worth l.quantity c.answer) (take l.call-index l.calls)) × (l.sum < 2 ^ 64)
