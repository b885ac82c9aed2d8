use Rattle.std.proofs.Common.{sym, subst}
use Rattle.b1_model.specs.declared.commands.Command.TheVariants as cmd
use Rattle.b1_locks.specs.Calls.{got_answer, Shows}
use Rattle.b1_locks.proofs.Shown.{recv_shows}
use Rattle.b1_locks.proofs.driver.Driver.recv.Goals as goal

pub received-requires : goal.received-requires
received-requires g c =
    let (got, calls, did) = c.add_call.ensures in
    let last = c.last_answer.ensures c.args.self.now.own.part.calls (record { command = cmd.Recv; answer = got }) calls in
    subst (Shows got_answer) (sym last) (recv_shows got did.kind did.refused)
