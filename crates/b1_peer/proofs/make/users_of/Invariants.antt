use Rattle.std.proofs.Common.{◌≡◌, ◌++◌, length, map}
use Rattle.b1_model.specs.declared.naming.PeerSpec.{PeerSpec}
use Rattle.b1_peer.proofs.make.users_of.Given as goal

abbrev pub invariant-loop-left : goal.invariant-loop-left
invariant-loop-left l = l.users.items ++ map (λ (spec : PeerSpec). spec.user) l.left ≡ map (λ (spec : PeerSpec). spec.user) l.opening.peers

abbrev pub decreases-loop-left : goal.decreases-loop-left
decreases-loop-left l = length l.left
