use Rattle.std.proofs.Common.{sym, ap, ◌∙◌, subst}
use Rattle.b1_model.specs.declared.commands.Command.TheVariants as cmd
use Rattle.b1_edge.specs.Ports.{with_call}
use Rattle.b1_locks.specs.Calls.{reset_answer, Did, Shows}
use Rattle.b1_locks.proofs.Shown.{disconnect_shows}
use Rattle.b1_locks.proofs.driver.Driver.disconnect.Goals as goal

pub last_answer-requires : goal.last_answer-requires
last_answer-requires g c = let (got, calls, did) = c.add_call.ensures in (c.args.self.now.own.part.calls, record { command = cmd.Disconnect; answer = got }, calls)

pub reset-requires : goal.reset-requires
reset-requires g c =
    let (got, calls, did) = c.add_call.ensures in
    let last = c.last_answer.ensures c.args.self.now.own.part.calls (record { command = cmd.Disconnect; answer = got }) calls in
    subst (Shows reset_answer) (sym last) (disconnect_shows got did.kind did.refused)

pub returns-clause-call : goal.returns-clause-call
returns-clause-call g c =
    let (got, calls, did) = c.add_call.ensures in
    let last = c.last_answer.ensures c.args.self.now.own.part.calls (record { command = cmd.Disconnect; answer = got }) calls in
    calls ∙ ap (λ a. with_call cmd.Disconnect a c.args.self.now.own.part.calls) (sym (c.reset.ensures ∙ last))

pub returns-clause-did : goal.returns-clause-did
returns-clause-did g c =
    let (got, calls, did) = c.add_call.ensures in
    let last = c.last_answer.ensures c.args.self.now.own.part.calls (record { command = cmd.Disconnect; answer = got }) calls in
    subst (λ a. Did c.args.self.now cmd.Disconnect a c.add_call.new.self) (sym (c.reset.ensures ∙ last)) did
