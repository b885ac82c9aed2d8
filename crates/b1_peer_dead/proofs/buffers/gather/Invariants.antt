use Rattle.std.proofs.Common.{◌≡◌, ◌+◌, ◌++◌, ◌≤◌, length, vec_len}
use Rattle.std.specs.Prelude.{filter_map, zip}
use Rattle.std.specs.Vec.{vec_capacity}
use Rattle.b1_model.specs.MachineReceive.{reference_of}
use Rattle.b1_peer_dead.proofs.buffers.gather.Given as goal

abbrev pub invariant-loop-nodes : goal.invariant-loop-nodes
invariant-loop-nodes l = record {
  items : l.item.items ++ filter_map reference_of (zip l.nodes l.rest) ≡ l.fn.item.items ++ filter_map reference_of (zip l.with l.slots);
  room : vec_len l.item + length l.nodes ≤ vec_capacity l.item;
  capacity : vec_capacity l.fn.item ≤ vec_capacity l.item;
}

abbrev pub decreases-loop-nodes : goal.decreases-loop-nodes
decreases-loop-nodes l = length l.nodes
