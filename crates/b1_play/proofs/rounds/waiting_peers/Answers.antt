use Rattle.std.proofs.Common.{refl, ◌∙◌, arith}
use Rattle.b1_play.proofs.Ended.{left_more}
use Rattle.b1_play.proofs.Passing.{drivers_count}
use Rattle.b1_play.proofs.rounds.waiting_peers.Goals as goal

pub loop-p-preserved : goal.loop-p-preserved
loop-p-preserved g c =
    let count = drivers_count c.every_reached_state_is_sound.ensures.reached c.args.core.now c.requires.good in
    rw (left_more c.args.core.now c.loop-p.p (omega (arith, count, c.requires.count, c.loop-p-test.true)))
    (c.in_ok-push_left.ensures ∙ rw (c.loop-p.invariant, c.at_end.ensures) refl)
