use Rattle.b1_schedule.specs.Shortage.{no_shortage}
use Rattle.b1_play_end.proofs.Ends.{stalled_stuck}
use Rattle.b1_play_end.proofs.laws.a_stalled_play_is_stuck.Goals as goal

pub returns : goal.returns
returns c = λ o lists turns waiting r valid stall. stalled_stuck lists o valid no_shortage turns stall.state stall.comes
