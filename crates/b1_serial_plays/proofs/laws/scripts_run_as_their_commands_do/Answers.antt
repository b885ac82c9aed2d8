use Rattle.b1_serial_plays.proofs.Plays.{play_serial, stall_serial}
use Rattle.b1_serial_plays.proofs.laws.scripts_run_as_their_commands_do.Goals as goal

pub returns-clause-played : goal.returns-clause-played
returns-clause-played c = λ o lists r valid keeps play. play_serial o lists valid keeps r play

pub returns-clause-stalled : goal.returns-clause-stalled
returns-clause-stalled c = λ o lists waiting r valid keeps stall. stall_serial o lists valid keeps waiting r stall
