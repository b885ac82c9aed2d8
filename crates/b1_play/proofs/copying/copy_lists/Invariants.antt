-- The lists up to here are copied.
use Rattle.std.proofs.Common.{◌≡◌, take}
use Rattle.b1_play.proofs.copying.copy_lists.Given as goal

abbrev pub invariant-loop-list : goal.invariant-loop-list
invariant-loop-list l = l.copies.items ≡ take l.list-index l.list-items
