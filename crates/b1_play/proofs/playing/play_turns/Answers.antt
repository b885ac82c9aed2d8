use Rattle.std.proofs.Common.{subst}
use Rattle.std.proofs.lemmas.List.{drop_more}
use Rattle.b1_play.specs.Plays.{TurnsTo}
use Rattle.b1_play.proofs.Scripts.{turn_more}
use Rattle.b1_play.proofs.playing.play_turns.Goals as goal

pub loop-p-preserved : goal.loop-p-preserved
loop-p-preserved g c =
    turn_more c.every_reached_state_is_sound.ensures.reached c.args.core.now c.loop-p.core c.args.turns.now _ _
    (subst (λ list. TurnsTo c.args.core.now c.args.turns.now c.loop-p.core list) (drop_more c.args.turns.now c.loop-p.p-index 0 c.loop-p-test.true) c.loop-p.invariant)
    c.in_ok-step.field-0 c.step.new.self c.in_ok-step.ensures.turn
