use Rattle.std.proofs.Common.{subst}
use Rattle.b1_peer.specs.Seen.{PeerSeen, HasPayloads}
use Rattle.b1_peer.proofs.Payloads.{payloads_begin}
use Rattle.b1_peer.proofs.state.PeerState.facts.Goals as goal

pub returns-clause-payloads : goal.returns-clause-payloads
returns-clause-payloads g c = subst (λ (s : PeerSeen). HasPayloads s) c.self.view_is (payloads_begin _ c.self.invariant)
