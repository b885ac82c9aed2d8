use Rattle.std.proofs.Common.{◌≡◌, ◌+◌, ◌≤◌, ◌-◌, length}
use Rattle.b1_io.specs.Streams.{Gave}
use Rattle.b1_io.proofs.wholes.read_into.Given as goal

abbrev pub invariant-loop-given : goal.invariant-loop-given
invariant-loop-given g l = record {
  counted : l.given ≡ length (g.T.Pieces.taken l.to);
  within : l.given ≤ l.limit + 1;
  gave : Gave (g.S.Source.left l.fn.source) (g.S.Source.left l.source) (g.T.Pieces.taken l.to);
  kept : g.S.Source.faults l.fn.source ≤ g.S.Source.faults l.source;
}

abbrev pub decreases-loop-given : goal.decreases-loop-given
decreases-loop-given g l = l.limit + 1 - l.given
