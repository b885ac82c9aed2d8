use Rattle.std.proofs.Common.{◌<◌, sym, ap, subst, length, arith}
use Rattle.b1_model.specs.declared.commands.Command.TheVariants as cmd
use Rattle.b1_locks.specs.Calls.{got_answer, Shows}
use Rattle.b1_locks.proofs.Finished.{called_once, await_shows}
use Rattle.b1_locks.proofs.driver.Driver.attempt.Goals as goal

pub tried-requires : goal.tried-requires
tried-requires g c =
    let d = c.args.self.now.own.part in
    let e = c.finish_command.new.self.own.part in
    let more : length d.calls < length e.calls = omega (arith, c.if-calls-before.true, ap length c.calls-before.ensures, ap length c.calls.ensures) in
    let (got, called) = called_once d e c.finish_command.ensures.ended more in
    let last = c.last_answer.ensures d.calls (record { command = cmd.Recv; answer = got }) called.calls in
    subst (Shows got_answer) (sym last) (await_shows got called.kind called.refused)
