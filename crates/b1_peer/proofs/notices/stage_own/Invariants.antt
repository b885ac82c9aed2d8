use Rattle.std.proofs.Common.{◌≡◌, length, ◌+◌}
use Rattle.b1_peer.specs.Destructions.{all_own_noticed, OwnNoticesFit}
use Rattle.b1_peer.proofs.notices.stage_own.Given as goal

abbrev pub invariant-loop-left : goal.invariant-loop-left
invariant-loop-left g l = record {
  place : l.index + length l.left ≡ length l.doomed;
  fit : OwnNoticesFit l.clock l.me l.index l.left l.mail;
  made : all_own_noticed l.clock l.me l.index l.left l.mail ≡ all_own_noticed l.clock l.me 0 l.doomed l.fn.mail;
}

abbrev pub decreases-loop-left : goal.decreases-loop-left
decreases-loop-left g l = length l.left
