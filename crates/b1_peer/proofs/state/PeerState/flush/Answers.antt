use Rattle.std.proofs.Common.{ap, ◌∙◌, ◌+◌}
use Rattle.b1_peer.proofs.KeptFlush.{flush_kept}
use Rattle.b1_peer.proofs.state.PeerState.flush.Goals as goal

pub invariant_of-self : goal.invariant_of-self
invariant_of-self g c =
    flush_kept _ c.self.invariant (c.self.inside.epoch + 1) c.renew.new.self c.clear.new.self c.give_up_all.new.handles c.give_up_all.new.dead
    (ap (λ m. m.queue) c.renew.ensures ∙ ap (λ m. m.queue) c.empty_queue.ensures.mail)
    (ap (λ m. m.spare) c.renew.ensures ∙ ap (λ m. m.spare) c.empty_queue.ensures.mail)
    (ap (λ t. t.records) c.give_up_all.ensures.handles)
    c.clear.ensures.sound
