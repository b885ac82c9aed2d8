use Rattle.std.proofs.Common.{refl}
use Rattle.b1_peer_queue.proofs.ChargeLemmas.{charged_committed, fits_found}
use Rattle.b1_peer_queue.proofs.mailbox.Mailbox.commit.Goals as goal

pub commit-requires-clause-fits : goal.commit-requires-clause-fits
commit-requires-clause-fits g c =
    fits_found c.self.inside.quota.accounts c.self.inside.shelf.queue c.self.invariant c.args.origin c.args.index c.args.stamp c.args.slots.now _ refl (rw (← c.self.view_is) at c.requires.committable)

pub invariant_of-self : goal.invariant_of-self
invariant_of-self g c =
    rw c.commit.ensures.queue
    (charged_committed c.self.inside.quota.accounts c.self.inside.shelf.queue c.self.invariant c.args.origin c.args.index c.args.stamp c.requires.even c.args.slots.now _ refl (rw (← c.self.view_is) at c.requires.committable))
