use Rattle.std.proofs.Common.{sym, ◌∙◌}
use Rattle.b1_judge_facts.proofs.Keeping.{marks_new}
use Rattle.b1_judge_facts.proofs.keep.mark_one.Goals as goal

pub returns : goal.returns
returns c =
    rw (c.in-Some.is, ← c.node.view_is)
    (marks_new c.args.stamp c.args.origin (record { owner = c.node.inside.owner; serial = c.node.inside.serial; epoch = c.node.inside.epoch }) c.args.first.now c.insert.new.self (sym c.contains_key.ensures ∙ c.if-contains_key.false) c.in_ok-insert.ensures.updates.0)
