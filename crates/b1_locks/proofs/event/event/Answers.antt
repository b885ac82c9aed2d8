use Rattle.std.proofs.Common.{◌≡◌, ap, ◌∙◌, subst, arith}
use Rattle.b1_model.specs.MachineDriver.{next_action, peer_of}
use Rattle.b1_rule.specs.Plays.{Took}
use Rattle.b1_locks.proofs.Events.{aims_within}
use Rattle.b1_locks.proofs.event.event.Goals as goal

pub lock-requires-clause-peer : goal.lock-requires-clause-peer
lock-requires-clause-peer g c =
    let d = c.args.hand.now.state in
    let (before, command, me, begun) = c.requires.begun in
    let (number, within) = aims_within c.args.bus.now.opening c.reached_states_bear_events.ensures before command d begun in
    let at : c.place_of-at.result ≡ peer_of d.part.me (next_action d.part) = c.place_of-at.ensures ∙ ap (λ n. peer_of n c.next.result) c.number-me.ensures ∙ ap (peer_of d.part.me) c.next.ensures.action in
    let words = c.shape.ensures.words in
    omega (arith, within, at, words)

pub unlock-requires-clause-peer : goal.unlock-requires-clause-peer
unlock-requires-clause-peer g c =
    let d = c.args.hand.now.state in
    let (before, command, me, begun) = c.requires.begun in
    let (number, within) = aims_within c.args.bus.now.opening c.reached_states_bear_events.ensures before command d begun in
    let at : c.place_of-at.result ≡ peer_of d.part.me (next_action d.part) = c.place_of-at.ensures ∙ ap (λ n. peer_of n c.next.result) c.number-me.ensures ∙ ap (peer_of d.part.me) c.next.ensures.action in
    let words = c.shape.ensures.words in
    omega (arith, within, at, words)

pub returns-clause-moved : goal.returns-clause-moved
returns-clause-moved g c = λ before command me begun.
    let d = c.args.hand.now.state in
    let (number, within) = aims_within c.args.bus.now.opening c.reached_states_bear_events.ensures before command d begun in
    let at : c.place_of-at.result ≡ peer_of d.part.me (next_action d.part) = c.place_of-at.ensures ∙ ap (λ n. peer_of n c.next.result) c.number-me.ensures ∙ ap (peer_of d.part.me) c.next.ensures.action in
    c.work.ensures.moved before command (record {
      begun = begun;
      at = at ∙ ap (λ n. peer_of n (next_action d.part)) number;
      took = subst (λ m. Took m c.place_of-at.result c.lock.new.seat.me) me c.lock.ensures.took;
    })
