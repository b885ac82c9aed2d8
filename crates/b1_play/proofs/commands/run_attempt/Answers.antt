use Rattle.std.proofs.Common.{sym, subst, ◌<◌}
use Rattle.b1_play.specs.Runs.{DrainTurns, InDrain, work_after}
use Rattle.b1_play.proofs.RoundSteps.{within_peers}
use Rattle.b1_play.proofs.DrainSteps.{first_try, further_try, try_falls}
use Rattle.b1_play.proofs.commands.run_attempt.Goals as goal

pub loop-turn-init : goal.loop-turn-init
loop-turn-init g c = first_try c.every_reached_state_is_sound.ensures.reached c.args.core.now c.args.p c.requires.closed c.requires.there c.requires.good c.in_ok-turn.turn c.drain_step.new.self c.in_ok-turn.ensures.turn

pub loop-turn-smaller : goal.loop-turn-smaller
loop-turn-smaller g c =
    let runs : InDrain c.args.core.now c.args.p c.loop-turn.core = subst (λ t. DrainTurns c.args.core.now c.args.p t c.loop-turn.core) c.in-Moved.is c.loop-turn.invariant in
    subst (λ t. work_after c.in_ok-turn-2.turn c.drain_step-in-Moved.new.self c.args.p < work_after t c.loop-turn.core c.args.p) (sym c.in-Moved.is)
    (try_falls c.every_reached_state_is_sound.ensures.reached c.a_command_ends.ensures c.loop-turn.core c.drain_step-in-Moved.new.self c.args.p runs.runs.follows.good (within_peers c.args.core.now c.loop-turn.core c.args.p runs.runs.follows c.requires.peer) c.in_ok-turn-2.turn c.in_ok-turn-2.ensures.turn runs.is_open)

pub loop-turn-preserved : goal.loop-turn-preserved
loop-turn-preserved g c =
    further_try c.every_reached_state_is_sound.ensures.reached c.args.core.now c.args.p c.requires.closed c.requires.there c.loop-turn.core (subst (λ t. DrainTurns c.args.core.now c.args.p t c.loop-turn.core) c.in-Moved.is c.loop-turn.invariant) c.in_ok-turn-2.turn c.drain_step-in-Moved.new.self c.in_ok-turn-2.ensures.turn
