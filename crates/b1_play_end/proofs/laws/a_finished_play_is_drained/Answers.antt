use Rattle.b1_schedule.specs.Shortage.{shortage_of}
use Rattle.b1_play_end.proofs.Ends.{finished_drained}
use Rattle.b1_play_end.proofs.laws.a_finished_play_is_drained.Goals as goal

pub returns : goal.returns
returns c = λ o lists turns r valid play. finished_drained lists o valid (shortage_of r) turns play.state play.comes
