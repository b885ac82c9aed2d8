use Rattle.b1_play_legal.proofs.Plays.{played_legal, played_whole, stalled_legal}
use Rattle.b1_play_legal.proofs.laws.plays_are_legal.Goals as goal

pub returns-clause-legal : goal.returns-clause-legal
returns-clause-legal x = λ o lists turns r valid play. played_legal o lists turns r valid play

pub returns-clause-whole : goal.returns-clause-whole
returns-clause-whole x = λ o lists turns r valid play. played_whole o lists turns r valid play

pub returns-clause-stalled : goal.returns-clause-stalled
returns-clause-stalled x = λ o lists turns waiting r valid stall. stalled_legal o lists turns r valid waiting stall
