use Rattle.b1_peer.proofs.KeptSends.{slice_release_kept}
use Rattle.b1_peer.proofs.state.PeerState.slice_release.Goals as goal

pub invariant_of-self : goal.invariant_of-self
invariant_of-self g c = slice_release_kept _ c.self.invariant c.release.new.self c.args.offset c.release.ensures.slices c.release.ensures.bytes c.release.ensures.sound
