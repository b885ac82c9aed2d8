use Rattle.b1_peer_queue.proofs.ChargeLemmas.{charged_message}
use Rattle.b1_peer_queue.proofs.charges.put_message_in.Goals as goal

pub returns-clause-charged : goal.returns-clause-charged
returns-clause-charged g c =
    rw c.put.ensures.queue
    (charged_message c.args.quota.now.accounts c.begin_charge.new.quota.accounts c.args.shelf.now.queue c.requires.charged c.begin_charge.ensures.users c.args.key c.args.entry c.begin_charge.ensures.charges c.requires.message c.requires.sound c.requires.new_key c.requires.new_stage)
