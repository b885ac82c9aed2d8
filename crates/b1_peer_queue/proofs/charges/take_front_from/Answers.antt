use Rattle.std.proofs.Common.{sym}
use Rattle.b1_peer_queue.proofs.ChargeLemmas.{charged_rest}
use Rattle.b1_peer_queue.proofs.charges.take_front_from.Goals as goal

pub returns-clause-charged : goal.returns-clause-charged
returns-clause-charged g c =
    rw c.take.ensures.queue
    (charged_rest c.args.quota.now.accounts c.end_charge.new.quota.accounts c.args.shelf.now.queue c.requires.charged c.end_charge.ensures.users c.in_ok-key.key c.in_ok-key.entry (sym c.in_ok-key.ensures.front) c.end_charge.ensures.charges)
