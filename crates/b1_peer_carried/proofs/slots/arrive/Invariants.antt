use Rattle.std.proofs.Common.{◌≡◌, ◌+◌, ◌-◌, ◌<◌, ◌≤◌, ◌^◌, All, true, length, vec_len}
use Rattle.std.specs.Prelude.{fold, zip}
use Rattle.std.specs.Vec.{vec_capacity}
use Rattle.b1_model.specs.MachineParts.{PeerPart}
use Rattle.b1_model.specs.MachineTables.{foreign}
use Rattle.b1_model.specs.MachineReceive.{slot_arrives, slots_arrived}
use Rattle.b1_peer_carried.specs.Carry.{AreCarried, HasTables, arriving, may_arrive}
use Rattle.b1_peer_carried.proofs.slots.arrive.Given as goal

abbrev pub invariant-loop-left : goal.invariant-loop-left
invariant-loop-left l = record {
  arrived : (x : PeerPart) → HasTables l.me l.nodes.nodes l.fn.handles x → fold slot_arrives (arriving x l.handles l.numbers.items l.refs.items) (zip l.left l.rest) ≡ slots_arrived x l.carried l.slots;
  may_arrive : All (λ one. may_arrive l.me (length l.nodes.nodes) one ≡ true) (zip l.left l.rest);
  carried : AreCarried (foreign l.me l.left) l.handles.records;
  fits : All (λ h. h.held < 2 ^ 62 + length l.carried + 1 - length l.left) l.handles.records;
  few : length l.left ≤ length l.carried;
  numbered : l.handles.given + length l.left < 2 ^ 60;
  room_numbers : vec_len l.numbers + length l.left ≤ vec_capacity l.numbers;
  room_refs : vec_len l.refs + length l.left ≤ vec_capacity l.refs;
  capacity_numbers : vec_capacity l.fn.numbers ≤ vec_capacity l.numbers;
  capacity_refs : vec_capacity l.fn.refs ≤ vec_capacity l.refs;
}

abbrev pub decreases-loop-left : goal.decreases-loop-left
decreases-loop-left l = length l.left
