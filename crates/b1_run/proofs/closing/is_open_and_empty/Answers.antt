use Rattle.std.proofs.Common.{◌==◌, length, sym, ap, ◌∙◌}
use Rattle.b1_model.specs.MachineParts.{PeerPart, DriverPart}
use Rattle.b1_run.proofs.Ends.{driver_is, peer_is, empty_queue}
use Rattle.b1_run.proofs.closing.is_open_and_empty.Goals as goal

pub returns-then-not-is_shut : goal.returns-then-not-is_shut
returns-then-not-is_shut c empty d x is_driver is_peer =
    let driver = driver_is c.args.closed.now.drivers c.args.p d is_driver in
    let peer = peer_is c.args.closed.now.peers c.args.p x is_peer in (
      ap (λ (e : DriverPart). e.shut) (sym driver) ∙ sym c.is_shut.ensures ∙ c.if-not-is_shut.true,
      empty_queue x.queue (ap (λ (y : PeerPart). length y.queue == 0) (sym peer) ∙ sym c.is_empty.ensures ∙ empty),
    )
