use Rattle.b1_judge_facts.proofs.Keeping.{keeps_insert}
use Rattle.b1_judge_facts.proofs.keep.keep_nodes.Goals as goal

pub returns-in_ok-insert : goal.returns-in_ok-insert
returns-in_ok-insert c = rw c.in-Some.is (keeps_insert c.args.stamp c.args.origin c.in-Some.nodes c.args.destroyed.now c.insert.new.self c.in_ok-insert.ensures.updates.0)
