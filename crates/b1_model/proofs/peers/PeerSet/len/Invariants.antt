use Rattle.std.proofs.Common.{◌≡◌, length}
use Rattle.b1_model.specs.Peers.{peers_below}
use Rattle.b1_model.proofs.peers.PeerSet.len.Given as goal

abbrev pub invariant-loop-peer : goal.invariant-loop-peer
invariant-loop-peer l = l.count ≡ length (peers_below l.peer l.self-inside.words)
