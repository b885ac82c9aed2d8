use Rattle.std.proofs.Common.{sym, ap, ◌∙◌, subst}
use Rattle.b1_model.specs.declared.commands.Command.TheVariants as cmd
use Rattle.b1_edge.specs.Ports.{with_call, done_answer}
use Rattle.b1_locks.specs.Calls.{Did, Shows}
use Rattle.b1_locks.proofs.Shown.{limit_shows}
use Rattle.b1_locks.proofs.driver.Driver.limit.Goals as goal

pub last_answer-requires : goal.last_answer-requires
last_answer-requires g c = let (got, calls, did) = c.add_call.ensures in (c.args.self.now.own.part.calls, record { command = (cmd.Limit c.args.limits); answer = got }, calls)

pub done-requires : goal.done-requires
done-requires g c =
    let (got, calls, did) = c.add_call.ensures in
    let last = c.last_answer.ensures c.args.self.now.own.part.calls (record { command = (cmd.Limit c.args.limits); answer = got }) calls in
    subst (Shows done_answer) (sym last) (limit_shows c.args.limits got did.kind did.refused)

pub returns-clause-call : goal.returns-clause-call
returns-clause-call g c =
    let (got, calls, did) = c.add_call.ensures in
    let last = c.last_answer.ensures c.args.self.now.own.part.calls (record { command = (cmd.Limit c.args.limits); answer = got }) calls in
    calls ∙ ap (λ a. with_call (cmd.Limit c.args.limits) a c.args.self.now.own.part.calls) (sym (c.done.ensures ∙ last))

pub returns-clause-did : goal.returns-clause-did
returns-clause-did g c =
    let (got, calls, did) = c.add_call.ensures in
    let last = c.last_answer.ensures c.args.self.now.own.part.calls (record { command = (cmd.Limit c.args.limits); answer = got }) calls in
    subst (λ a. Did c.args.self.now (cmd.Limit c.args.limits) a c.add_call.new.self) (sym (c.done.ensures ∙ last)) did
