use Rattle.std.proofs.Common.{subst}
use Rattle.b1_peer.specs.Seen.{PeerSeen}
use Rattle.b1_peer.specs.Fronts.{GoesWell}
use Rattle.b1_peer.proofs.Discards.{gone_still}
use Rattle.b1_peer.proofs.state.PeerState.front_facts.Goals as goal

pub returns : goal.returns
returns g c = subst (λ (s : PeerSeen). GoesWell s.part) c.self.view_is (record { rising = c.self.invariant.ok.rising; still = gone_still _ c.self.invariant })
