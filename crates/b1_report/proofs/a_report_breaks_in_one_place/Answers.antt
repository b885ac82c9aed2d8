use Rattle.b1_report.proofs.Places.{one_place, no_place}
use Rattle.b1_report.proofs.a_report_breaks_in_one_place.Goals as goal

pub returns-clause-one : goal.returns-clause-one
returns-clause-one c peers bytes at end a b = one_place peers bytes at end a b

pub returns-clause-none : goal.returns-clause-none
returns-clause-none c peers bytes rec at report fault = no_place peers bytes rec at report fault
