use Rattle.b1_serial_rest.proofs.Refused.{refused_rests}
use Rattle.b1_serial_rest.proofs.laws.a_refused_release_keeps_rest.Goals as goal

pub returns : goal.returns
returns c = record { kept = λ o s bus p y number m t rest is is_open unheld step. refused_rests o s bus p y number m t rest is is_open unheld step }
