use Rattle.std.proofs.Common.{ap, ◌∙◌}
use Rattle.b1_model.specs.Ledger.{message}
use Rattle.b1_judge_facts.proofs.facts.Facts.message.Goals as goal

pub returns : goal.returns
returns c = c.get.ensures.value ∙ c.self.invariant.kept.message_is c.args.stamp c.args.origin ∙ ap (λ v. message v.wires v.rec c.args.stamp c.args.origin) c.self.view_is
