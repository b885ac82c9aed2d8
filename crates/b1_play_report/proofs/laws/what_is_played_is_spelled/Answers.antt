use Rattle.b1_play_report.proofs.Spelled.{played_spelled, stalled_spelled, reached_spelled}
use Rattle.b1_play_report.proofs.laws.what_is_played_is_spelled.Goals as goal

pub returns-clause-played : goal.returns-clause-played
returns-clause-played c = λ version o lists turns r valid none play. played_spelled version o lists turns valid none r play

pub returns-clause-stalled : goal.returns-clause-stalled
returns-clause-stalled c = λ version o lists turns waiting r valid none stall. stalled_spelled version o lists turns valid none waiting r stall

pub returns-clause-reached : goal.returns-clause-reached
returns-clause-reached c = λ version o lists s valid none reached placed. reached_spelled version o lists s valid none reached placed
