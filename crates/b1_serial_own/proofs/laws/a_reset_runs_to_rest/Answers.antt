use Rattle.b1_model.specs.Script.{resolved}
use Rattle.b1_serial_own.proofs.Led.{led}
use Rattle.b1_serial_own.proofs.Reset.{reset_whole}
use Rattle.b1_serial_own.proofs.laws.a_reset_runs_to_rest.Goals as goal

pub returns : goal.returns
returns c = λ o s bus p y command m opens reached rest is is_open flushes.
    led o s bus p y command m opens reached rest is (λ t whole. reset_whole o s bus p y m t opens reached rest is is_open (resolved command y.calls) flushes whole)
