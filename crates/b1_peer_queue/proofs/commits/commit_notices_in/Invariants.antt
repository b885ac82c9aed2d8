use Rattle.std.proofs.Common.{◌≡◌, length, deque_capacity}
use Rattle.b1_peer_queue.specs.Mail.{DistinctIndexes, NewUnder, notices_queue, staged_notices}
use Rattle.b1_peer_queue.specs.Rows.{IsTied, shown}
use Rattle.b1_peer_queue.proofs.commits.commit_notices_in.Given as goal

abbrev pub invariant-loop : goal.invariant-loop
invariant-loop g l = record {
  tied : IsTied l.rows.spare l.rows.len (g.Q.QueueKind.spare l.rows.queue) (g.Q.QueueKind.room l.rows.queue) (g.Q.QueueKind.listed l.rows.queue) l.rows.entries (deque_capacity l.rows.marks) l.rows.marks.items l.rows.names;
  distinct : DistinctIndexes (staged_notices l.origin (shown l.rows.entries.slots (g.Q.QueueKind.listed l.rows.queue)));
  new_keys : NewUnder l.stamp (staged_notices l.origin (shown l.rows.entries.slots (g.Q.QueueKind.listed l.rows.queue))) (shown l.rows.entries.slots (g.Q.QueueKind.listed l.rows.queue));
  kept : notices_queue l.origin l.stamp (shown l.rows.entries.slots (g.Q.QueueKind.listed l.rows.queue)) ≡ notices_queue l.origin l.stamp (shown l.fn.rows.entries.slots (g.Q.QueueKind.listed l.fn.rows.queue));
  spare : l.rows.spare ≡ l.fn.rows.spare;
}

abbrev pub decreases-loop : goal.decreases-loop
decreases-loop g l = length (staged_notices l.origin (shown l.rows.entries.slots (g.Q.QueueKind.listed l.rows.queue)))
