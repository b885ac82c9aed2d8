use Rattle.std.proofs.Common.{◌≡◌, sym, ◌∙◌}
use Rattle.b1_peer.specs.Seen.{PeerSeen}
use Rattle.b1_peer.specs.declared.front.Kind.TheVariants as kind
use Rattle.b1_peer.specs.Fronts.{kind_of}
use Rattle.b1_peer.proofs.KeptSends.{of_fields}
use Rattle.b1_peer.proofs.KeptRecv.{front_made}
use Rattle.b1_peer.proofs.state.PeerState.is_front_for_nobody.Goals as goal

pub notice_taken-requires : goal.notice_taken-requires
notice_taken-requires g c =
    front_made c.self.inside.me _ c.in-Message.serial c.self.inside.mail.queue
    (of_fields (λ (s : PeerSeen). kind_of s.part.queue ≡ kind.Message c.in-Message.serial) _ _ c.self.invariant c.self.view_is (sym c.front_kind.ensures ∙ c.in-Message.is))
    c.self.invariant.ok.messages
