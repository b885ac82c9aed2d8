use Rattle.std.proofs.Common.{◌∙◌}
use Rattle.b1_peer_queue.proofs.TiedLemmas.{found_first}
use Rattle.b1_peer_queue.proofs.rows.notice_at.Goals as goal

pub returns : goal.returns
returns g c =
    c.first_notice.ensures
    ∙ found_first c.requires (g.met.Q.QueueKind.in_order c.args.rows.now.queue) c.args.origin
