use Rattle.std.proofs.Common.{◌≡◌, ◌+◌, ◌++◌, ◌≤◌, length}
use Rattle.b1_model.specs.MachineDestroy.{held_items}
use Rattle.b1_peer_carried.proofs.flush.give_up_all.Given as goal

abbrev pub invariant-loop-node : goal.invariant-loop-node
invariant-loop-node l = record {
  given : l.handles.given ≡ l.fn.handles.given;
  items : l.dead.items ++ held_items l.handles.given l.handles.records ≡ l.fn.dead.items ++ held_items l.fn.handles.given l.fn.handles.records;
  enough : length (held_items l.handles.given l.handles.records) ≤ l.dead.room;
  singles : length (held_items l.handles.given l.handles.records) ≤ l.dead.singles;
  room : l.dead.room + length l.dead.items ≡ l.fn.dead.room + length l.fn.dead.items;
  lent : l.dead.lent ≡ l.fn.dead.lent;
}

abbrev pub decreases-loop-node : goal.decreases-loop-node
decreases-loop-node l = length (held_items l.handles.given l.handles.records)
