use Rattle.std.proofs.Common.{◌≡◌}
use Rattle.b1_peer.specs.Seen.{PeerSeen}
use Rattle.b1_peer.specs.declared.front.Kind.TheVariants as kind
use Rattle.b1_peer.specs.Fronts.{kind_of}
use Rattle.b1_peer.proofs.KeptSends.{of_fields}
use Rattle.b1_peer.proofs.KeptRecv.{front_some, front_release_made}
use Rattle.b1_peer.proofs.Taken.{release_kept}
use Rattle.b1_peer.proofs.state.PeerState.take_release.Goals as goal

pub take_key-requires : goal.take_key-requires
take_key-requires g c = front_some c.self.inside.mail.queue (kind.Release c.args.serial) (of_fields (λ (s : PeerSeen). kind_of s.part.queue ≡ kind.Release c.args.serial) _ _ c.self.invariant c.self.view_is c.requires.kind) (λ e. absurd (cc e))

pub invariant_of-self : goal.invariant_of-self
invariant_of-self g c = rw c.take_key.ensures.mail (release_kept _ c.self.invariant c.args.serial (of_fields (λ (s : PeerSeen). kind_of s.part.queue ≡ kind.Release c.args.serial) _ _ c.self.invariant c.self.view_is c.requires.kind))

pub number-number-requires : goal.number-number-requires
number-number-requires g c = front_release_made _ c.args.serial c.self.inside.mail.queue (of_fields (λ (s : PeerSeen). kind_of s.part.queue ≡ kind.Release c.args.serial) _ _ c.self.invariant c.self.view_is c.requires.kind) c.self.invariant.ok.notices
