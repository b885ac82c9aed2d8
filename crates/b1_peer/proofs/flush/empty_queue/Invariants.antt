use Rattle.std.proofs.Common.{◌≡◌, ◌+◌, ◌≤◌, length}
use Rattle.b1_model.specs.MachineDestroy.{queued_items}
use Rattle.b1_inv_peer.specs.PeerOk.{count, is_message}
use Rattle.b1_peer.specs.Flush.{HasSets}
use Rattle.b1_peer.proofs.flush.empty_queue.Given as goal

abbrev pub invariant-loop-key : goal.invariant-loop-key
invariant-loop-key g l = record {
  items : queued_items l.mail.queue l.dead.items ≡ queued_items l.fn.mail.queue l.fn.dead.items;
  sets : HasSets l.mail.queue l.dead.stacks;
  enough : count is_message l.mail.queue ≤ l.dead.room;
  room : l.fn.dead.room + count is_message l.mail.queue ≤ l.dead.room + count is_message l.fn.mail.queue;
  singles : l.dead.singles ≡ l.fn.dead.singles;
  mail : l.mail ≡ record l.fn.mail { queue = l.mail.queue; spare = l.mail.spare };
  spare : l.mail.spare + length l.mail.queue ≡ l.fn.mail.spare + length l.fn.mail.queue;
}

abbrev pub decreases-loop-key : goal.decreases-loop-key
decreases-loop-key g l = length l.mail.queue
