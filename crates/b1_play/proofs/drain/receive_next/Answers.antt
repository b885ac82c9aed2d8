use Rattle.std.proofs.Common.{subst}
use Rattle.b1_play.specs.Runs.{RanAttempt}
use Rattle.b1_play.proofs.Emptying.{taken_next, empty_next}
use Rattle.b1_play.proofs.drain.receive_next.Goals as goal

pub returns-in-Ended : goal.returns-in-Ended
returns-in-Ended g c =
    taken_next c.args.core.now c.run_attempt.new.core c.args.p c.args.gained.now c.requires.ended c.requires.closed
    (subst (λ how. RanAttempt c.args.core.now c.args.p how c.run_attempt.new.core) c.in-Ended.is c.in_ok-run_attempt.ensures)

pub returns-in-Waiting : goal.returns-in-Waiting
returns-in-Waiting g c =
    rw c.gained_with.ensures
    (empty_next c.args.core.now c.run_attempt.new.core c.args.p c.args.gained.now c.requires.ended c.requires.closed c.in-Waiting.removed
    (subst (λ how. RanAttempt c.args.core.now c.args.p how c.run_attempt.new.core) c.in-Waiting.is c.in_ok-run_attempt.ensures))
