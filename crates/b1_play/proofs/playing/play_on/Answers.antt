use Rattle.std.proofs.Common.{sym, ◌∙◌, subst}
use Rattle.b1_schedule.specs.Schedule.{IsPlay}
use Rattle.b1_play.specs.Rounds.{Settles}
use Rattle.b1_play.proofs.Ended.{all_ended}
use Rattle.b1_play.proofs.Scripts.{done, stall_plays, all_closed}
use Rattle.b1_play.proofs.playing.play_on.Goals as goal

pub returns-then-not-nobody_waits : goal.returns-then-not-nobody_waits
returns-then-not-nobody_waits g c = stall_plays c.every_reached_state_is_sound.ensures.reached c.args.script.now c.in_ok-core.core c.play_rounds.new.core c.in_ok-core.ensures c.in_ok-waiting.waiting.items (c.nobody_waits.ensures.some c.if-not-nobody_waits.true) c.in_ok-waiting.ensures c.finish.result c.finish.ensures.record c.stall.result c.stall.ensures

pub drain_all-requires-clause-ended : goal.drain_all-requires-clause-ended
drain_all-requires-clause-ended g c = all_ended c.play_rounds.new.core (sym c.in_ok-waiting.ensures.waiting_is ∙ c.nobody_waits.ensures.nobody c.if-not-nobody_waits.false)

pub drain_all-requires-clause-closed : goal.drain_all-requires-clause-closed
drain_all-requires-clause-closed g c = all_closed c.play_rounds.new.core c.in_ok-waiting.ensures.none_open

pub returns : goal.returns
returns g c =
    subst (λ r. IsPlay c.args.script.now.opening c.args.script.now.commands c.args.script.now.turns r) (sym c.finish-2.ensures.record)
    (done c.every_reached_state_is_sound.ensures.reached c.args.script.now c.in_ok-core.core c.play_rounds.new.core c.in_ok-core.ensures c.drain_all.new.core
    (subst (λ waiting. Settles c.in_ok-core.core c.play_rounds.new.core waiting) (c.nobody_waits.ensures.nobody c.if-not-nobody_waits.false) c.in_ok-waiting.ensures) c.in_ok-drain_all.ensures)
