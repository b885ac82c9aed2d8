use Rattle.b1_serial_send.proofs.Runs.{runs}
use Rattle.b1_serial_send.proofs.laws.a_send_keeps_rest.Goals as goal

pub returns : goal.returns
returns a = record { runs = λ o s bus p y command c m opens reached rest is is_open resolves. runs opens reached rest m p y is is_open command c resolves }
