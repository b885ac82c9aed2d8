use Rattle.std.proofs.Common.{◌≡◌}
use Rattle.b1_peer.specs.Seen.{PeerSeen}
use Rattle.b1_peer.specs.declared.front.Kind.TheVariants as kind
use Rattle.b1_peer.specs.Fronts.{kind_of}
use Rattle.b1_peer.proofs.KeptSends.{of_fields}
use Rattle.b1_peer.proofs.KeptRecv.{front_some, notice_queued, end_kept}
use Rattle.b1_peer.proofs.state.PeerState.take_foreign.Goals as goal

pub mark_dead-requires : goal.mark_dead-requires
mark_dead-requires g c = notice_queued _ c.self.invariant c.args.node (of_fields (λ (s : PeerSeen). kind_of s.part.queue ≡ kind.Foreign c.args.node) _ _ c.self.invariant c.self.view_is c.requires.kind)

pub take_key-requires : goal.take_key-requires
take_key-requires g c = front_some c.self.inside.mail.queue (kind.Foreign c.args.node) (of_fields (λ (s : PeerSeen). kind_of s.part.queue ≡ kind.Foreign c.args.node) _ _ c.self.invariant c.self.view_is c.requires.kind) (λ e. absurd (cc e))

pub invariant_of-self : goal.invariant_of-self
invariant_of-self g c = rw (c.take_key.ensures.mail, c.mark_dead.ensures) (end_kept _ c.self.invariant c.args.node (of_fields (λ (s : PeerSeen). kind_of s.part.queue ≡ kind.Foreign c.args.node) _ _ c.self.invariant c.self.view_is c.requires.kind))
