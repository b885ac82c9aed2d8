use Rattle.b1_serial_bus.proofs.Ends.{serial_over, one_end, same_end}
use Rattle.b1_serial_bus.proofs.laws.a_script_has_one_serial_end.Goals as goal

pub returns-clause-over : goal.returns-clause-over
returns-clause-over c = λ o lists m. serial_over lists m o

pub returns-clause-one : goal.returns-clause-one
returns-clause-one c = λ o lists m n over. one_end lists m o n over

pub returns-clause-same : goal.returns-clause-same
returns-clause-same c = λ o lists m w same. same_end o lists m w same
