use Rattle.b1_peer.proofs.KeptSends.{release_kept}
use Rattle.b1_peer.proofs.state.PeerState.release.Goals as goal

pub invariant_of-self : goal.invariant_of-self
invariant_of-self g c = release_kept _ c.self.invariant c.give_up.result c.give_up.new.self c.give_up.ensures.given_up c.give_up.ensures.unchanged
