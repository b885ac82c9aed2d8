use Rattle.b1_schedule.proofs.States.{record_shown, nothing_shown}
use Rattle.b1_schedule.proofs.laws.a_record_shows_its_shortage.Goals as goal

pub returns-clause-shown : goal.returns-clause-shown
returns-clause-shown c = record_shown

pub returns-clause-nowhere : goal.returns-clause-nowhere
returns-clause-nowhere c = nothing_shown
