use Rattle.std.specs.Prelude.{AllPairs}
use Rattle.std.proofs.Common.{sym, subst, ◌∙◌}
use Rattle.b1_judge_facts.specs.Orders.{IsNotAfter}
use Rattle.b1_judge_facts.proofs.Orders.{sorted}
use Rattle.b1_judge_facts.proofs.facts.Facts.order.Goals as goal

pub returns-clause-sorted : goal.returns-clause-sorted
returns-clause-sorted c = subst (AllPairs IsNotAfter) (sym (c.as_slice.ensures ∙ c.self.invariant.kept.order_is)) (sorted c.self.inside.rec.now)
