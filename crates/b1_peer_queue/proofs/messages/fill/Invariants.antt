use Rattle.std.proofs.Common.{◌≡◌, ◌++◌, take, drop}
use Rattle.b1_peer_queue.proofs.messages.fill.Given as goal

abbrev pub invariant-loop-i : goal.invariant-loop-i
invariant-loop-i l = l.old ≡ take l.i l.fn.new ++ drop l.i l.fn.old
