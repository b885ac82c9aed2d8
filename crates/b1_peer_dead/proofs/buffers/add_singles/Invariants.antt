use Rattle.std.proofs.Common.{◌≡◌, ◌-◌, ◌≤◌, [], All, vec_len}
use Rattle.std.specs.Vec.{vec_capacity}
use Rattle.b1_peer_dead.proofs.buffers.add_singles.Given as goal

abbrev pub invariant-loop-alloc : goal.invariant-loop-alloc
invariant-loop-alloc l = record {
  empty : All (λ b. (b.items ≡ []) × (1 ≤ vec_capacity b)) l.singles.items;
  more : vec_len l.fn.singles ≤ vec_len l.singles;
}

abbrev pub decreases-loop-alloc : goal.decreases-loop-alloc
decreases-loop-alloc l = l.n - vec_len l.singles
