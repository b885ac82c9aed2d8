use Rattle.std.proofs.Common.{◌≡◌, ◌-◌, ◌≤◌, All, max, replicate, vec_len}
use Rattle.b1_nodes.proofs.counts.add_rooms.Given as goal

abbrev pub invariant-loop-alloc : goal.invariant-loop-alloc
invariant-loop-alloc l = record {
  zeros : All (λ r. r ≡ replicate l.peers 0) l.rooms.items;
  more : vec_len l.fn.rooms ≤ vec_len l.rooms;
  no_more : vec_len l.rooms ≤ max (vec_len l.fn.rooms) l.n;
}

abbrev pub decreases-loop-alloc : goal.decreases-loop-alloc
decreases-loop-alloc l = l.n - vec_len l.rooms
