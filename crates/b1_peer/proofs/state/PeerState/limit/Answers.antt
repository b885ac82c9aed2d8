use Rattle.b1_peer.proofs.KeptFlush.{limit_kept}
use Rattle.b1_peer.proofs.state.PeerState.limit.Goals as goal

pub invariant_of-self : goal.invariant_of-self
invariant_of-self g c = limit_kept _ c.self.invariant c.args.limits c.limit.new.self c.limit.ensures
