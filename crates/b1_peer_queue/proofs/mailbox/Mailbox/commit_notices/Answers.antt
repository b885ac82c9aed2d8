use Rattle.b1_peer_queue.proofs.ChargeLemmas.{charged_noticed}
use Rattle.b1_peer_queue.proofs.mailbox.Mailbox.commit_notices.Goals as goal

pub invariant_of-self : goal.invariant_of-self
invariant_of-self g c =
    rw c.commit_notices.ensures.queue
    (charged_noticed c.self.inside.quota.accounts c.self.inside.shelf.queue c.self.invariant c.args.origin c.args.stamp c.requires.even (rw c.commit_notices.ensures.queue at c.commit_notices.ensures.ascending))
