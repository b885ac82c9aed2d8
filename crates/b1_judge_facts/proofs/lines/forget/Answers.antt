use Rattle.b1_judge_facts.proofs.Indexing.{forgets}
use Rattle.b1_judge_facts.proofs.lines.forget.Goals as goal

pub returns-in-Some : goal.returns-in-Some
returns-in-Some c =
    rw (c.in-Some.is, ← c.node.view_is)
    (forgets (record { owner = c.node.inside.owner; serial = c.node.inside.serial; epoch = c.node.inside.epoch }) c.args.place c.args.by_node.now c.remove.new.self c.remove.ensures.updates.0)
