use Rattle.std.proofs.Common.{◌≡◌, length}
use Rattle.b1_model.specs.MachineTables.{foreign, unexpected}
use Rattle.b1_peer_carried.specs.Carry.{AreCarried}
use Rattle.b1_peer_carried.proofs.carry.unexpect_all.Given as goal

abbrev pub invariant-loop-left : goal.invariant-loop-left
invariant-loop-left l = record {
  records : unexpected (foreign l.me l.left) l.handles.records ≡ unexpected (foreign l.me l.nodes) l.fn.handles.records;
  given : l.handles.given ≡ l.fn.handles.given;
  carried : AreCarried (foreign l.me l.left) l.handles.records;
}

abbrev pub decreases-loop-left : goal.decreases-loop-left
decreases-loop-left l = length l.left
