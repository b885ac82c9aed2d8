use Rattle.std.proofs.Common.{◌≡◌, true, length, sym, ◌∙◌, ap, subst, arith}
use Rattle.b1_model.specs.MachineReceive.{received, received_part}
use Rattle.b1_inv_peer.specs.Needs.{HeldFew}
use Rattle.b1_peer.specs.Seen.{PeerSeen}
use Rattle.b1_peer.specs.Fronts.{front_goes, front_gone, StillReceived}
use Rattle.b1_peer.proofs.Discards.{gone_part, gone_front, gone_removed, gone_len, gone_given, gone_held}
use Rattle.b1_peer.proofs.state.PeerState.discard_all.Goals as goal

pub loop-self-preserved : goal.loop-self-preserved
loop-self-preserved g c =
    let x = c.loop-self.self.part in
    let goes : front_goes c.loop-self.self.part ≡ true = sym c.is_front_for_nobody.ensures ∙ c.loop-self-test.true in
    let up = c.front_facts.ensures.rising in
    let fewer = gone_removed x up goes in
    let shorter = gone_len x goes in
    let count = c.loop-self.invariant.removed in
    let gone_is = c.discard_front.ensures in
    let same_removed = ap (λ (s : PeerSeen). (received s.part).removed) gone_is in
    let same_len = ap (λ (s : PeerSeen). length s.part.queue) gone_is in
    record {
      front = ap (λ (s : PeerSeen). (received s.part).front) gone_is ∙ sym (gone_front x up goes) ∙ c.loop-self.invariant.front;
      part = ap (λ (s : PeerSeen). received_part s.part) gone_is ∙ sym (gone_part x up goes) ∙ c.loop-self.invariant.part;
      removed = omega (arith, fewer, shorter, count, same_removed, same_len);
      still = subst (λ (s : PeerSeen). StillReceived c.args.self.now.part s.part) (sym gone_is) (λ s found received. c.front_facts.ensures.still s (c.loop-self.invariant.still s found received) received);
      given = ap (λ (s : PeerSeen). s.part.given) gone_is ∙ gone_given x ∙ c.loop-self.invariant.given;
      held = λ few. subst (λ (s : PeerSeen). HeldFew s.part) (sym gone_is) (gone_held x (c.loop-self.invariant.held few));
      rest = gone_is ∙ ap {A = PeerSeen} {B = PeerSeen} (λ s. record s { part = front_gone c.loop-self.self.part }) c.loop-self.invariant.rest ∙ ap {A = PeerSeen} {B = PeerSeen} (λ s. record c.args.self.now { part = s.part }) (sym gone_is);
    }
