use Rattle.b1_model.specs.MachineSend.{find_stage}
use Rattle.b1_inv_peer.specs.Needs.{SlotsFit, CommitsAnew}
use Rattle.b1_peer.proofs.KeptSends.{of_fields, committable, commit_kept}
use Rattle.b1_peer.proofs.state.PeerState.commit.Goals as goal

pub commit-requires-clause-committable : goal.commit-requires-clause-committable
commit-requires-clause-committable g c =
    committable _ c.self.invariant c.args.origin c.args.index c.args.stamp c.args.slots.now
    (of_fields (λ s. SlotsFit s.part (find_stage s.part c.args.origin c.args.index) c.args.slots.now) _ _ c.self.invariant c.self.view_is c.requires.slots)
    (of_fields (λ s. CommitsAnew s.part (find_stage s.part c.args.origin c.args.index) (record { stamp = c.args.stamp; origin = c.args.origin; index = c.args.index })) _ _ c.self.invariant c.self.view_is c.requires.new_key)

pub invariant_of-self : goal.invariant_of-self
invariant_of-self g c =
    rw c.commit.ensures.committed
    (commit_kept _ c.self.invariant c.args.origin c.args.index c.args.stamp c.args.slots.now c.requires.stamp.even
    (of_fields (λ s. SlotsFit s.part (find_stage s.part c.args.origin c.args.index) c.args.slots.now) _ _ c.self.invariant c.self.view_is c.requires.slots))
