use Rattle.std.proofs.Common.{sym, ◌∙◌, arith}
use Rattle.b1_play.proofs.Passing.{drivers_count}
use Rattle.b1_play.proofs.Emptying.{shut_next}
use Rattle.b1_play.proofs.drain.drain_peer.Goals as goal

pub returns-then-is_shut : goal.returns-then-is_shut
returns-then-is_shut g c =
    shut_next c.args.core.now c.args.p c.args.before c.requires.good c.requires.ended c.requires.closed
    (omega (arith, c.requires.peer, drivers_count c.every_reached_state_is_sound.ensures.reached c.args.core.now c.requires.good))
    (sym c.is_shut.ensures ∙ c.if-is_shut.true)
