use Rattle.std.proofs.Common.{refl, sym, ap, ◌∙◌, length}
use Rattle.b1_play.proofs.Passing.{rounds_end, rounds_more}
use Rattle.b1_play.proofs.rounds.rounds_of_attempts.Goals as goal

pub returns-then-are_over : goal.returns-then-are_over
returns-then-are_over g c =
    rounds_end c.every_reached_state_is_sound.ensures.reached c.args.core.now c.loop-gain.core c.round.new.core c.args.count (c.requires.count ∙ ap (λ o. length o.peers) (sym c.loop-gain.invariant.follows.opening))
    c.loop-gain.invariant c.in_ok-gain.gain c.in_ok-gain.ensures _ refl c.in_ok-waiting.ensures (c.are_over.ensures.over c.if-are_over.true)

pub loop-gain-preserved : goal.loop-gain-preserved
loop-gain-preserved g c =
    let more = c.are_over.ensures.more c.if-are_over.false in
    (rounds_more c.every_reached_state_is_sound.ensures.reached c.args.core.now c.loop-gain.core c.round.new.core c.args.count (c.requires.count ∙ ap (λ o. length o.peers) (sym c.loop-gain.invariant.follows.opening))
    c.loop-gain.invariant c.in_ok-gain.gain c.in_ok-gain.ensures c.in_ok-waiting.waiting.items c.in_ok-waiting.ensures more.2 more.1 more.0).0
