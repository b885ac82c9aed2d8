use Rattle.b1_serial_rest.proofs.Begins.{begins}
use Rattle.b1_serial_rest.proofs.laws.a_bus_begins_at_rest.Goals as goal

pub returns : goal.returns
returns c = record { opening = λ o valid. begins o valid }
