use Rattle.std.proofs.Common.{◌≡◌, ◌+◌, ◌≤◌, ◌<◌, length}
use Rattle.b1_peer.specs.Begin.{all_made}
use Rattle.b1_peer.proofs.begin.make_all.Given as goal

abbrev pub invariant-loop-left : goal.invariant-loop-left
invariant-loop-left l = record {
  made : all_made l.nodes.peers l.left l.nodes.nodes ≡ all_made l.fn.nodes.peers l.numbers l.fn.nodes.nodes;
  same : l.nodes ≡ record l.fn.nodes { nodes = l.nodes.nodes; spare = l.nodes.spare };
  spare : length l.left ≤ l.nodes.spare;
  few : length l.nodes.nodes + length l.left < 4294967296;
}

abbrev pub decreases-loop-left : goal.decreases-loop-left
decreases-loop-left l = length l.left
