use Rattle.std.specs.Option.{option_copied}
use Rattle.std.proofs.Common.{◌∙◌}
use Rattle.b1_report.specs.Report.{peer_text}
use Rattle.b1_report.specs.Parsing.{HasPeerFields}
use Rattle.b1_report.proofs.Fits.{one_more_fits}
use Rattle.b1_report.proofs.Texts.{numbered_more}
use Rattle.b1_report.proofs.write_peers.Goals as goal

pub loop-number-preserved : goal.loop-number-preserved
loop-number-preserved c = record {
  text = c.in_ok-write_peer.ensures.text ∙ numbered_more (peer_text (option_copied c.args.cookies)) _ _ _ _ _ c.loop-number-test.true c.index-peers-number.is c.loop-number.invariant.text;
  fits = one_more_fits HasPeerFields _ _ _ c.loop-number-test.true c.loop-number.invariant.fits (rw c.index-peers-number.is at c.in_ok-write_peer.ensures.fits);
}
