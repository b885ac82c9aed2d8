-- What was written so far, and then what the rest gives, is what all give.
use Rattle.std.proofs.Common.{◌≡◌, ◌+◌, ◌≤◌, ◌++◌, length, map, vec_len, vec_capacity}
use Rattle.b1_model.specs.MachineStep.{peer_records}
use Rattle.b1_core.proofs.ending.records.Given as goal

abbrev pub invariant-loop-peers : goal.invariant-loop-peers
invariant-loop-peers g l = record {
  rest : l.room.items ++ peer_records (map (λ x. x.part) l.peers.items) (map (λ d. d.part) l.drivers.items) ≡ peer_records (map (λ x. x.part) l.initial.peers.items) (map (λ d. d.part) l.initial.drivers.items);
  as_many : length l.drivers.items ≡ length l.peers.items;
  fits : vec_len l.room + length l.peers.items ≤ vec_capacity l.room;
}

abbrev pub decreases-loop-peers : goal.decreases-loop-peers
decreases-loop-peers g l = length l.peers.items
