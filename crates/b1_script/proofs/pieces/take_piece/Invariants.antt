use Rattle.std.proofs.Common.{length, ◌-◌, ◌≡◌, ◌≤◌, ◌++◌, take}
use Rattle.b1_script.specs.Pieces.{HasNoShorter, IsWholeScript}
use Rattle.b1_script.proofs.pieces.take_piece.Given as goal

abbrev pub invariant-loop-taken : goal.invariant-loop-taken
invariant-loop-taken l = record {
  within : l.taken ≤ length l.piece;
  bytes : l.bytes.items ≡ l.fn.bytes.items ++ take l.taken l.piece;
  unfound : ¬ IsWholeScript l.bytes.items;
  shorter : HasNoShorter l.bytes.items;
}

abbrev pub decreases-loop-taken : goal.decreases-loop-taken
decreases-loop-taken l = length l.piece - l.taken
