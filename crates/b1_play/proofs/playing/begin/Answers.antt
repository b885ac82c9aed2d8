use Rattle.std.proofs.Common.{sym, subst, ◌<◌, [], length}
use Rattle.std.specs.List.{All}
use Rattle.b1_core.specs.Turns.{Bus}
use Rattle.b1_play.specs.Runs.{IsGood}
use Rattle.b1_play.specs.Plays.{TurnsTo}
use Rattle.b1_play.proofs.Scripts.{start_bus, start_good, begun}
use Rattle.b1_play.proofs.playing.begin.Goals as goal

pub play_turns-requires-clause-good : goal.play_turns-requires-clause-good
play_turns-requires-clause-good g c = subst IsGood (sym c.in_ok-core.ensures) (start_good c.args.script.now.opening c.in_ok-commands.commands c.requires.opening)

pub play_turns-requires-clause-peers : goal.play_turns-requires-clause-peers
play_turns-requires-clause-peers g c =
    subst (λ (b : Bus). All (λ p. p < length b.opening.peers) c.as_slice.result.now) (sym c.in_ok-core.ensures)
    (subst (All (λ p. p < length c.args.script.now.opening.peers)) (sym c.as_slice.ensures) c.requires.turns)

pub returns : goal.returns
returns g c =
    begun c.args.script.now c.play_turns.new.core
    (subst (λ turns. TurnsTo (start_bus c.args.script.now.opening c.args.script.now.commands) turns c.play_turns.new.core []) c.as_slice.ensures
    (subst (λ lists. TurnsTo (start_bus c.args.script.now.opening lists) c.as_slice.result.now c.play_turns.new.core []) c.in_ok-commands.ensures
    (subst (λ b. TurnsTo b c.as_slice.result.now c.play_turns.new.core []) c.in_ok-core.ensures c.in_ok-play_turns.ensures)))
