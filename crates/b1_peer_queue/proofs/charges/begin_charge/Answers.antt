use Rattle.std.proofs.Common.{sym}
use Rattle.b1_peer_queue.proofs.ChargeLemmas.{admitted_parts}
use Rattle.b1_peer_queue.proofs.charges.begin_charge.Goals as goal

pub unreachable-requires : goal.unreachable-requires
unreachable-requires c =
    let admitted = admitted_parts c.args.quota.now c.args.entry.now c.in-Some.user c.in-Some.charge c.requires.admitted (sym c.in-Some.ensures) in
    let refused = rw c.in-Err.is at c.charge.ensures.refused in
    let e = rw admitted.1 at refused in
    cc e
