use Rattle.b1_model.specs.Script.{resolved}
use Rattle.b1_serial_own.proofs.Led.{led, alone_whole}
use Rattle.b1_serial_own.proofs.laws.a_small_command_runs_to_rest.Goals as goal

pub returns : goal.returns
returns c = λ o s bus p y command m opens reached rest is alone. led o s bus p y command m opens reached rest is (λ t whole. alone_whole o s bus p y m t opens reached rest is (resolved command y.calls) alone whole)
