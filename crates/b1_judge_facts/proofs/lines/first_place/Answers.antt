use Rattle.std.specs.Map.Iter.{deref}
use Rattle.std.proofs.lemmas.Map.Iter.{rest_all}
use Rattle.b1_judge_facts.proofs.Indexing.{first_some, first_other, first_none}
use Rattle.b1_judge_facts.proofs.lines.first_place.Goals as goal

pub returns-in-Some : goal.returns-in-Some
returns-in-Some c =
    rw (← c.node.view_is)
    (first_some c.args.by_node.now (record { owner = c.node.inside.owner; serial = c.node.inside.serial; epoch = c.node.inside.epoch }) c.range.result (c.range.ensures.in_range tt) c.in-Some.field-0.now c.next.new.self c.in-Some.ensures.steps c.if-owner-node.true c.if-serial-node.true)

pub returns-in_default : goal.returns-in_default
returns-in_default c =
    rw (← c.node.view_is)
    (first_other c.args.by_node.now (record { owner = c.node.inside.owner; serial = c.node.inside.serial; epoch = c.node.inside.epoch }) c.range.result (c.range.ensures.in_range tt) c.in-Some.field-0.now c.next.new.self c.in-Some.ensures.steps (λ _ serial. c.if-serial-node.false serial))

pub returns-in_default-2 : goal.returns-in_default-2
returns-in_default-2 c =
    rw (← c.node.view_is)
    (first_other c.args.by_node.now (record { owner = c.node.inside.owner; serial = c.node.inside.serial; epoch = c.node.inside.epoch }) c.range.result (c.range.ensures.in_range tt) c.in-Some.field-0.now c.next.new.self c.in-Some.ensures.steps (λ owner _. c.if-owner-node.false owner))

pub returns-in_default-3 : goal.returns-in_default-3
returns-in_default-3 c =
    rw (← c.node.view_is)
    (first_none c.args.by_node.now (record { owner = c.node.inside.owner; serial = c.node.inside.serial; epoch = c.node.inside.epoch }) c.range.result (c.range.ensures.in_range tt) (rest_all deref c.range.result c.next.new.self c.next.result c.in_default.is c.next.ensures.steps))
