use Rattle.std.proofs.Common.{ap, ◌∙◌}
use Rattle.b1_model.specs.Ledger.{is_late}
use Rattle.b1_judge_facts.specs.Kept.{comes_before}
use Rattle.b1_judge_facts.proofs.facts.Facts.is_late.Goals as goal

pub returns : goal.returns
returns c =
    c.comes_before.ensures
    ∙ ap (λ w. comes_before w c.args.key.now) c.get.ensures.value
    ∙ c.self.invariant.kept.late_is (record { owner = c.node.inside.owner; serial = c.node.inside.serial; epoch = c.node.inside.epoch }) c.args.key.now
    ∙ ap (λ x. is_late c.self.inside.opening.now.wires c.self.inside.rec.now x c.args.key.now) c.node.view_is
    ∙ ap (λ v. is_late v.wires v.rec c.args.node.now c.args.key.now) c.self.view_is
