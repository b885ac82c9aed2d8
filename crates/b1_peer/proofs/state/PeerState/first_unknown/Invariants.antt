use Rattle.std.proofs.Common.{◌≡◌, length}
use Rattle.std.specs.Prelude.{find}
use Rattle.b1_model.specs.MachineSend.{is_unknown}
use Rattle.b1_peer.proofs.state.PeerState.first_unknown.Given as goal

abbrev pub invariant-loop-left : goal.invariant-loop-left
invariant-loop-left g l = find (is_unknown l.self.part) l.left ≡ find (is_unknown l.self.part) l.numbers

abbrev pub decreases-loop-left : goal.decreases-loop-left
decreases-loop-left g l = length l.left
