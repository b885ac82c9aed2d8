use Rattle.std.proofs.Common.{length, ◌-◌, ◌≡◌, ◌≤◌, take}
use Rattle.b1_io.specs.Streams.{Took}
use Rattle.b1_io.proofs.wholes.write_all.Given as goal

abbrev pub invariant-loop-sent : goal.invariant-loop-sent
invariant-loop-sent g l = record {
  within : l.sent ≤ length l.bytes;
  took : Took (g.K.Sink.taken l.fn.sink) (g.K.Sink.taken l.sink) (take l.sent l.bytes);
  kept : g.K.Sink.faults l.fn.sink ≤ g.K.Sink.faults l.sink;
  uncalled : l.sent ≡ 0 → l.sink ≡ l.fn.sink;
}

abbrev pub decreases-loop-sent : goal.decreases-loop-sent
decreases-loop-sent g l = length l.bytes - l.sent
