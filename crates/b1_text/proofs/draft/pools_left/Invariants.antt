-- What is left behind the peers so far.
use Rattle.std.proofs.Common.{◌≡◌, take}
use Rattle.b1_text.specs.Drafts.{pools_left}
use Rattle.b1_text.proofs.draft.pools_left.Given as goal

abbrev pub invariant-loop-peer : goal.invariant-loop-peer
invariant-loop-peer l = l.left ≡ pools_left (take l.peer-index l.peers)
