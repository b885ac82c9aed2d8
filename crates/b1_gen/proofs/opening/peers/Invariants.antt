use Rattle.std.proofs.Common.{◌≡◌, map}
use Rattle.b1_gen.specs.Generated.{below, peer_spec}
use Rattle.b1_gen.proofs.opening.peers.Given as goal

abbrev pub invariant-loop-user : goal.invariant-loop-user
invariant-loop-user l = l.peers.items ≡ map peer_spec (below l.user)
