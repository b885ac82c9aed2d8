use Rattle.b1_inv_peer.specs.Needs.{AreDying}
use Rattle.b1_peer.proofs.KeptSends.{of_fields}
use Rattle.b1_peer.proofs.KeptStamps.{stamp_kept}
use Rattle.b1_peer.proofs.state.PeerState.stamp_destroy.Goals as goal

pub invariant_of-self-2 : goal.invariant_of-self-2
invariant_of-self-2 g c =
    let dying = of_fields (λ s. AreDying s.part c.args.doomed.now) _ _ c.self.invariant c.self.view_is c.requires.dying in
    stamp_kept _ c.self.invariant _ c.args.doomed.now c.stamped.new.self c.late-late.new.self dying c.late-late.ensures.emptied c.stamped.ensures
