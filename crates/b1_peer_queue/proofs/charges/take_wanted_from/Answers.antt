use Rattle.std.proofs.Common.{sym}
use Rattle.b1_peer_queue.specs.Rows.{passes}
use Rattle.b1_peer_queue.proofs.ChargeLemmas.{charged_left, charged_same, chargeable_found, small_found}
use Rattle.b1_peer_queue.proofs.charges.take_wanted_from.Goals as goal

pub returns-in_err-key-clause-charged : goal.returns-in_err-key-clause-charged
returns-in_err-key-clause-charged g c =
    rw c.take_wanted.ensures.queue (charged_same c.args.quota.now.accounts c.args.shelf.now.queue c.requires.charged (passes c.args.wanted) (sym c.in_err-key.ensures.found))

pub end_charge-requires-clause-small : goal.end_charge-requires-clause-small
end_charge-requires-clause-small g c = small_found c.args.quota.now.accounts c.args.shelf.now.queue c.requires.charged (passes c.args.wanted) c.in_ok-key.key c.in_ok-key.entry (sym c.in_ok-key.ensures.found)

pub end_charge-requires-clause-chargeable : goal.end_charge-requires-clause-chargeable
end_charge-requires-clause-chargeable g c =
    chargeable_found c.args.quota.now.accounts c.args.shelf.now.queue c.requires.charged (passes c.args.wanted) c.in_ok-key.key c.in_ok-key.entry (sym c.in_ok-key.ensures.found) c.requires.one

pub returns-clause-charged : goal.returns-clause-charged
returns-clause-charged g c =
    rw c.take_wanted.ensures.queue
    (charged_left c.args.quota.now.accounts c.end_charge.new.quota.accounts c.args.shelf.now.queue c.requires.charged c.end_charge.ensures.users (passes c.args.wanted) c.in_ok-key.key c.in_ok-key.entry (sym c.in_ok-key.ensures.found) c.requires.one c.end_charge.ensures.charges)
