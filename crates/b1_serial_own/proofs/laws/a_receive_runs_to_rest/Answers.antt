use Rattle.std.proofs.Common.{refl}
use Rattle.b1_model.specs.declared.commands.Command.TheVariants as cmd
use Rattle.b1_serial_own.proofs.Led.{led_as}
use Rattle.b1_serial_own.proofs.Waited.{attempt_led}
use Rattle.b1_serial_own.proofs.Received.{recv_whole, await_whole}
use Rattle.b1_serial_own.proofs.laws.a_receive_runs_to_rest.Goals as goal

pub returns-clause-received : goal.returns-clause-received
returns-clause-received c = λ o s bus p y m opens reached rest is is_open.
    led_as o s bus p y cmd.Recv m opens reached rest is cmd.Recv refl (λ t whole. recv_whole o s bus p y m t opens reached rest is is_open whole)

pub returns-clause-awaited : goal.returns-clause-awaited
returns-clause-awaited c = λ o s bus p y m opens reached rest is is_open some.
    led_as o s bus p y cmd.Await m opens reached rest is cmd.Await refl (λ t whole. await_whole o s bus p y m t opens reached rest is is_open some whole)

pub returns-clause-waited : goal.returns-clause-waited
returns-clause-waited c = λ o s bus p y m opens reached rest is none. attempt_led o s bus p y m opens reached rest is none
