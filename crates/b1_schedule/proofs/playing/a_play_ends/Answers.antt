use Rattle.b1_schedule.proofs.Moves.{finished, stalled}
use Rattle.b1_schedule.proofs.playing.a_play_ends.Goals as goal

pub returns-clause-finished : goal.returns-clause-finished
returns-clause-finished c = finished

pub returns-clause-stalled : goal.returns-clause-stalled
returns-clause-stalled c = stalled
