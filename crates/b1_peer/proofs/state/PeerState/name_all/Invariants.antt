use Rattle.std.proofs.Common.{◌≡◌, length}
use Rattle.std.specs.Prelude.{◌+◌, ◌++◌, ◌≤◌, filter_map, vec_len}
use Rattle.std.specs.Vec.{vec_capacity}
use Rattle.b1_model.specs.MachineTables.{node_named}
use Rattle.b1_peer.proofs.state.PeerState.name_all.Given as goal

abbrev pub invariant-loop-left : goal.invariant-loop-left
invariant-loop-left g l = record {
  named : l.named.items ++ filter_map (node_named l.self.part) l.left ≡ l.fn.named.items ++ filter_map (node_named l.self.part) l.numbers;
  room : vec_len l.named + length l.left ≤ vec_capacity l.named;
}

abbrev pub decreases-loop-left : goal.decreases-loop-left
decreases-loop-left g l = length l.left
