-- The numbers so far.
use Rattle.std.proofs.Common.{◌≡◌, take}
use Rattle.b1_text.proofs.lines.narrowed.Given as goal

abbrev pub invariant-loop-number : goal.invariant-loop-number
invariant-loop-number l = l.items.items ≡ take l.number-index l.numbers
