use Rattle.b1_peer.proofs.KeptSends.{notices_kept}
use Rattle.b1_peer.proofs.state.PeerState.commit_notices.Goals as goal

pub invariant_of-self : goal.invariant_of-self
invariant_of-self g c = rw c.commit_notices.ensures (notices_kept _ c.self.invariant c.args.origin c.args.stamp)
