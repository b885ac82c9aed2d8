use Rattle.b1_serial_law.proofs.Plays.{played, alone, unstalled, stalled}
use Rattle.b1_serial_law.proofs.laws.plays_without_turns_are_serial.Goals as goal

pub returns-clause-played : goal.returns-clause-played
returns-clause-played c = λ o lists turns r valid none play. played o lists turns valid none r play

pub returns-clause-alone : goal.returns-clause-alone
returns-clause-alone c = λ o lists turns r valid none play ample. alone o lists turns valid none r play ample

pub returns-clause-unstalled : goal.returns-clause-unstalled
returns-clause-unstalled c = λ o lists turns r valid none play stalls ample. unstalled o lists turns valid none r play ample stalls

pub returns-clause-stalled : goal.returns-clause-stalled
returns-clause-stalled c = λ o lists turns waiting r valid none stall. stalled o lists turns valid none waiting r stall
