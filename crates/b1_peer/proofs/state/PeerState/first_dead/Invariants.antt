use Rattle.std.proofs.Common.{◌≡◌, length}
use Rattle.std.specs.Prelude.{map}
use Rattle.b1_model.specs.MachineSend.{first_reason, dead_reason}
use Rattle.b1_peer.proofs.state.PeerState.first_dead.Given as goal

abbrev pub invariant-loop-left : goal.invariant-loop-left
invariant-loop-left g l = first_reason (map (dead_reason l.self.part) l.left) ≡ first_reason (map (dead_reason l.self.part) l.numbers)

abbrev pub decreases-loop-left : goal.decreases-loop-left
decreases-loop-left g l = length l.left
