use Rattle.std.proofs.Common.{ap, ◌∙◌}
use Rattle.b1_model.specs.Ledger.{slots, message}
use Rattle.b1_judge_facts.specs.Kept.{kept_at}
use Rattle.b1_judge_facts.specs.Steps.{slots_for}
use Rattle.b1_judge_facts.proofs.Passing.{slots_same}
use Rattle.b1_judge_facts.proofs.facts.Facts.slots.Goals as goal

pub returns : goal.returns
returns c =
    c.slots.ensures
    ∙ slots_same (kept_at c.self.inside.messages) (message c.self.inside.opening.now.wires c.self.inside.rec.now) c.args.peer c.args.answer.now c.self.invariant.kept.message_is
    ∙ ap (λ v. slots_for (slots v.wires v.rec c.args.peer) c.args.answer.now) c.self.view_is
