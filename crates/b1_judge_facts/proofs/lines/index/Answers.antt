use Rattle.b1_judge_facts.proofs.Indexing.{number_put, remembers}
use Rattle.b1_judge_facts.proofs.lines.index.Goals as goal

pub returns-in-Ok : goal.returns-in-Ok
returns-in-Ok c =
    rw (← c.line.view_is) (
      number_put c.line.inside.number c.args.place c.args.by_number.now c.insert.new.self c.in_ok-insert.ensures.updates.0,
      rw (c.in-Some.is, ← c.node.view_is)
          (remembers (record { owner = c.node.inside.owner; serial = c.node.inside.serial; epoch = c.node.inside.epoch }) c.args.place c.args.by_node.now c.insert-in-Some.new.self c.in-Ok.ensures.updates.0),
    )
