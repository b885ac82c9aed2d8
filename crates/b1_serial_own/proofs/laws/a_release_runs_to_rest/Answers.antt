use Rattle.b1_serial_own.proofs.Led.{led_as, release_whole}
use Rattle.b1_model.specs.declared.commands.Command.TheVariants as cmd
use Rattle.b1_serial_own.proofs.laws.a_release_runs_to_rest.Goals as goal

pub returns : goal.returns
returns c = λ o s bus p y command number m opens reached rest is is_open form.
    led_as o s bus p y command m opens reached rest is (cmd.Release number) form (λ t whole. release_whole o s bus p y m t opens reached rest is number is_open whole)
