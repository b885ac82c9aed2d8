use Rattle.b1_play_commands.proofs.Recorded.{played_follows, stalled_follows}
use Rattle.b1_play_commands.proofs.laws.what_is_played_is_scripted.Goals as goal

pub returns-clause-played : goal.returns-clause-played
returns-clause-played c = λ o lists turns r valid sound play. played_follows o lists turns sound r play

pub returns-clause-stalled : goal.returns-clause-stalled
returns-clause-stalled c = λ o lists turns waiting r valid sound stall p. stalled_follows o lists turns sound waiting r stall p
