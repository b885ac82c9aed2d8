use Rattle.b1_judge_facts.proofs.Keeping.{adds_insert, gone_stays}
use Rattle.b1_judge_facts.proofs.gone.Gone.add.Goals as goal

pub invariant_of-self-2 : goal.invariant_of-self-2
invariant_of-self-2 c serial l = gone_stays (c.node.inside.owner, c.node.inside.serial) c.self.inside.nodes c.insert.new.self c.in_ok-insert.ensures.updates.0 c.self.inside.owner serial (c.self.invariant serial l)

pub returns : goal.returns
returns c =
    rw (← c.self.view_is, ← c.node.view_is) (adds_insert (record { owner = c.node.inside.owner; serial = c.node.inside.serial; epoch = c.node.inside.epoch }) c.self.inside.nodes c.insert.new.self c.in_ok-insert.ensures.updates.0)
