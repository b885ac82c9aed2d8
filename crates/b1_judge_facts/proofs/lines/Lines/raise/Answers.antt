use Rattle.b1_judge_facts.proofs.Indexing.{same_keys}
use Rattle.b1_judge_facts.proofs.lines.Lines.raise.Goals as goal

pub invariant_of-self : goal.invariant_of-self
invariant_of-self c = same_keys c.self.inside.lines.items c.raise.new.lines.items c.self.inside.by_number c.self.inside.by_node c.raise.ensures.keys c.self.invariant
