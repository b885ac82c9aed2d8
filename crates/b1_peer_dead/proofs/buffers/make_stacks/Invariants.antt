use Rattle.std.proofs.Common.{◌+◌, ◌-◌, ◌≤◌, length}
use Rattle.b1_model.specs.declared.limits.TheConstants.{MOST_HANDLES}
use Rattle.b1_peer_dead.specs.Buffers.{AreSized}
use Rattle.b1_peer_dead.proofs.buffers.make_stacks.Given as goal

abbrev pub invariant-loop-alloc : goal.invariant-loop-alloc
invariant-loop-alloc l = record {
  few : length l.stacks.items ≤ MOST_HANDLES + 1;
  sized : AreSized l.stacks.items;
}

abbrev pub decreases-loop-alloc : goal.decreases-loop-alloc
decreases-loop-alloc l = MOST_HANDLES + 1 - length l.stacks.items
