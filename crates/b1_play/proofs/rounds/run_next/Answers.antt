use Rattle.std.proofs.Common.{sym, subst, ◌+◌, arith}
use Rattle.b1_play.specs.Runs.{RanCommand}
use Rattle.b1_play.specs.Rounds.{Passes}
use Rattle.b1_play.proofs.Passing.{called_next, waits_next, idle_next, drivers_count}
use Rattle.b1_play.proofs.rounds.run_next.Goals as goal

pub returns-in-Ended : goal.returns-in-Ended
returns-in-Ended g c =
    called_next c.args.core.now c.run_command.new.core c.args.p c.args.gain.now
    (subst (λ how. RanCommand c.args.core.now c.args.p how c.run_command.new.core) c.in-Ended.is c.in_ok-run_command.ensures)

pub returns-in-Waiting : goal.returns-in-Waiting
returns-in-Waiting g c =
    rw c.gained_with-gain.ensures
    (waits_next c.args.core.now c.run_command.new.core c.args.p c.args.gain.now c.in-Waiting.removed
    (subst (λ how. RanCommand c.args.core.now c.args.p how c.run_command.new.core) c.in-Waiting.is c.in_ok-run_command.ensures))

pub returns-in-Idle : goal.returns-in-Idle
returns-in-Idle g c =
    let none = subst (λ how. RanCommand c.args.core.now c.args.p how c.run_command.new.core) c.in-Idle.is c.in_ok-run_command.ensures in
    subst (λ b. Passes c.args.core.now c.args.p c.args.gain.now b (c.args.p + 1) c.args.gain.now) (sym none.0)
    (idle_next c.args.core.now c.args.p c.args.gain.now c.requires.good (omega (arith, c.requires.peer, drivers_count c.every_reached_state_is_sound.ensures.reached c.args.core.now c.requires.good)) none.1)
