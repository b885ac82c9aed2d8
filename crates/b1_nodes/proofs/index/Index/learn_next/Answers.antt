use Rattle.std.proofs.Common.{ℕ, Some, ap, refl, ◌∙◌}
use Rattle.std.specs.Prelude.{cond}
use Rattle.std.specs.BTreeMap.{get, is_at}
use Rattle.std.specs.Ordering.{nat_cmp}
use Rattle.b1_model.specs.MachineParts.{NodePart}
use Rattle.b1_nodes.proofs.IndexLemmas.{IsIndex-learned}
use Rattle.b1_nodes.proofs.index.Index.learn_next.Goals as goal

pub returns-clause-index : goal.returns-clause-index
returns-clause-index c =
    IsIndex-learned c.args.self.now c.args.nodes.now c.requires.index _ c.requires.distinct c.requires.next refl
    (λ other.
    c.in_ok-insert.ensures.updates.0 other
    ∙ ap (λ (number : ℕ). cond (is_at (nat_cmp number) other) (Some c.args.self.now.known) (get nat_cmp c.args.self.now.serials other)) (c.number-number.ensures ∙ ap (λ (n : NodePart). n.number) c.node_at.ensures))
