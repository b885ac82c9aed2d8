use Rattle.std.proofs.Common.{◌≡◌, length, ◌+◌, ◌||◌}
use Rattle.b1_peer.specs.Destructions.{all_notified, any_needs, NoticesAreNew}
use Rattle.b1_peer.proofs.notices.stage_foreign.Given as goal

abbrev pub invariant-loop-left : goal.invariant-loop-left
invariant-loop-left g l = record {
  place : l.index + length l.left ≡ length l.doomed;
  new : NoticesAreNew l.clock l.owner l.index l.left (record { mail = l.mail; records = l.handles.records });
  made : all_notified l.clock l.owner l.index l.left (record { mail = l.mail; records = l.handles.records }) ≡ all_notified l.clock l.owner 0 l.doomed (record { mail = l.fn.mail; records = l.fn.handles.records });
  staged : (l.staged || any_needs l.owner l.left l.handles.records) ≡ any_needs l.owner l.doomed l.fn.handles.records;
  given : l.handles.given ≡ l.fn.handles.given;
}

abbrev pub decreases-loop-left : goal.decreases-loop-left
decreases-loop-left g l = length l.left
