use Rattle.std.proofs.Common.{sym, ap, ◌∙◌}
use Rattle.b1_model.specs.MachineStep.{record_of_state}
use Rattle.b1_schedule.specs.Schedule.{Finished, Stalled, Playing}
use Rattle.b1_schedule.specs.Shortage.{shortage_of, no_shortage}
use Rattle.b1_schedule.proofs.Ends.{finished, stalled, one_end, apart}
use Rattle.b1_schedule.proofs.laws.a_schedule_has_one_end.Goals as goal

pub returns-clause-one : goal.returns-clause-one
returns-clause-one c = λ o lists turns r q play other same.
    play.record_is
    ∙ ap (λ (at : Playing). record_of_state at.state) (one_end o lists (shortage_of r) (shortage_of q) same turns play.state other.state Finished Finished finished finished play.comes other.comes)
    ∙ sym other.record_is

pub returns-clause-stalled : goal.returns-clause-stalled
returns-clause-stalled c = λ o lists turns r waiting q play stall none.
    apart (ap (λ (at : Playing). at.stage) (one_end o lists (shortage_of r) no_shortage none turns play.state stall.state Finished Stalled finished stalled play.comes stall.comes))
