use Rattle.std.proofs.Common.{◌==◌, length, sym, ap, ◌∙◌}
use Rattle.b1_model.specs.MachineParts.{PeerPart}
use Rattle.b1_run.proofs.Ends.{peer_is, empty_queue}
use Rattle.b1_run.proofs.closing.is_quiet.Goals as goal

pub returns-else-is_shut : goal.returns-else-is_shut
returns-else-is_shut c empty d x is_driver is_peer open_there =
    let peer = peer_is c.args.closed.now.peers c.args.p x is_peer in
    empty_queue x.queue (ap (λ (y : PeerPart). length y.queue == 0) (sym peer) ∙ sym c.is_empty.ensures ∙ empty)
