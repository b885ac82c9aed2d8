use Rattle.std.proofs.Common.{◌≡◌, ◌<◌, ◌^◌, take}
use Rattle.std.specs.List.{sum_by}
use Rattle.b1_gen.specs.Counted.{worth}
use Rattle.b1_gen.proofs.counting.count_of.Given as goal

abbrev pub invariant-loop-peer : goal.invariant-loop-peer
invariant-loop-peer l =
    (l.count ≡ sum_by (λ p. sum_by (λ c. worth l.quantity c.answer) p.calls) (take l.peer-index l.peer-items))
    × (l.count < 2 ^ 64) × (l.peer-items ≡ l.run.peers)
