use Rattle.std.proofs.Common.{sym, subst}
use Rattle.b1_model.specs.declared.commands.Command.TheVariants as cmd
use Rattle.b1_edge.specs.Ports.{sent_answer}
use Rattle.b1_locks.specs.Calls.{Shows}
use Rattle.b1_locks.proofs.Shown.{send_shows}
use Rattle.b1_locks.proofs.driver.Driver.send.Goals as goal

pub sent-requires-clause-shows : goal.sent-requires-clause-shows
sent-requires-clause-shows g c =
    let (got, calls, did) = c.add_call.ensures in
    let last = c.last_answer.ensures c.args.self.now.own.part.calls (record { command = cmd.Send c.args.cmd; answer = got }) calls in
    subst (Shows sent_answer) (sym last) (send_shows c.args.cmd got did.kind)
