use Rattle.std.proofs.Common.{sym, ap, ◌∙◌, subst, false, length}
use Rattle.b1_play.specs.Draining.{Empties}
use Rattle.b1_play.proofs.Emptying.{drains_end, drains_more}
use Rattle.b1_play.proofs.drain.drain_all.Goals as goal

pub returns-then-not-branch : goal.returns-then-not-branch
returns-then-not-branch g c =
    drains_end c.every_reached_state_is_sound.ensures.reached c.args.core.now c.loop.core c.pass.new.core c.args.count (c.requires.count ∙ ap (λ o. length o.peers) (sym c.loop.invariant.follows.opening)) c.loop.invariant
    (subst (λ gained. Empties c.loop.core 0 false c.pass.new.core c.args.count gained) c.if-not-branch.true c.in_ok-pass.ensures)

pub loop-preserved : goal.loop-preserved
loop-preserved g c =
    (drains_more c.every_reached_state_is_sound.ensures.reached c.args.core.now c.loop.core c.pass.new.core c.args.count (c.requires.count ∙ ap (λ o. length o.peers) (sym c.loop.invariant.follows.opening)) c.loop.invariant
    (subst (λ gained. Empties c.loop.core 0 false c.pass.new.core c.args.count gained) c.if-not-branch.false c.in_ok-pass.ensures)).0
