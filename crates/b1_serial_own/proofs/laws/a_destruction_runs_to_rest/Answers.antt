use Rattle.b1_model.specs.declared.commands.Command.TheVariants as cmd
use Rattle.b1_serial_own.proofs.Led.{led_as}
use Rattle.b1_serial_own.proofs.Destroy.{destroy_whole}
use Rattle.b1_serial_own.proofs.laws.a_destruction_runs_to_rest.Goals as goal

pub returns : goal.returns
returns c = λ o s bus p y command numbers m opens reached rest is is_open form.
    led_as o s bus p y command m opens reached rest is (cmd.Destroy numbers) form (λ t whole. destroy_whole o s bus p y numbers m t opens reached rest is is_open whole)
