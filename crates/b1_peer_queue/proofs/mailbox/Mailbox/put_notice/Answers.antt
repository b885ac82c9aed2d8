use Rattle.b1_peer_queue.proofs.ChargeLemmas.{charged_notice}
use Rattle.b1_peer_queue.proofs.mailbox.Mailbox.put_notice.Goals as goal

pub invariant_of-self : goal.invariant_of-self
invariant_of-self g c =
    rw c.put.ensures.queue
    (charged_notice c.self.inside.quota.accounts c.self.inside.shelf.queue c.self.invariant c.args.key c.args.entry c.requires.notice (rw (← c.self.view_is) at c.requires.new_key) (rw (← c.self.view_is) at c.requires.new_notice))
