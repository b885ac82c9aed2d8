use Rattle.std.proofs.Common.{◌∙◌, sym, ap, subst, map}
use Rattle.std.specs.List.{All}
use native.Mathlib.Omega.{arith}
use Rattle.b1_model.specs.MachineStep.{peers_before}
use Rattle.b1_peer.specs.Seen.{PeerSeen}
use Rattle.b1_event.specs.Events.{HasUsers}
use Rattle.b1_core.proofs.Openings.{take_all, count_before, map_more, all_more, peer_more}
use Rattle.b1_core.proofs.making.peers_before.Goals as goal

pub loop-me-preserved : goal.loop-me-preserved
loop-me-preserved g c =
    let o = c.args.opening.now in
    let xs = c.loop-me.peers.items in
    let x = c.in_ok-make.field-0 in
    record {
      parts = ap (map (λ (y : PeerSeen). y.part)) c.in_ok-push.ensures.items ∙ map_more (λ (y : PeerSeen). y.part) xs x ∙ peer_more o c.loop-me.me (map (λ (y : PeerSeen). y.part) xs) x.part (omega (arith, c.loop-me-test.true, c.len-count.ensures)) c.loop-me.invariant.parts c.in_ok-make.ensures.part;
      users = subst (λ l. All (HasUsers o) (map (λ (y : PeerSeen). y.users) l)) (sym c.in_ok-push.ensures.items) (subst (All (HasUsers o)) (sym (map_more (λ (y : PeerSeen). y.users) xs x)) (all_more (HasUsers o) (map (λ (y : PeerSeen). y.users) xs) x.users c.loop-me.invariant.users c.in_ok-make.ensures.users));
    }

pub returns-clause-parts : goal.returns-clause-parts
returns-clause-parts g c =
    let o = c.args.opening.now in
    let count = count_before o 0 o.peers in
    c.loop-me.invariant.parts ∙ take_all (peers_before o 0 o.peers) c.loop-me.me (omega (arith, c.loop-me-test.false, c.len-count.ensures, count))
