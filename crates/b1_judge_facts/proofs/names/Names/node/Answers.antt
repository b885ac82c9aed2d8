use Rattle.std.proofs.Common.{sym, ap, ◌∙◌}
use Rattle.b1_model.specs.Names.{own_node}
use Rattle.b1_judge_facts.specs.Indexes.{named_at}
use Rattle.b1_judge_facts.proofs.Naming.{node_found, node_missed}
use Rattle.b1_judge_facts.proofs.names.Names.node.Goals as goal

pub returns-in-Some : goal.returns-in-Some
returns-in-Some c =
    c.node_at.ensures
    ∙ ap (named_at c.args.owner c.in-Some.place.now) c.as_slice.ensures.value
    ∙ node_found c.args.owner c.args.number c.self.inside.names.items c.in-Some.place.now (sym (c.self.invariant c.args.number) ∙ sym c.in-Some.ensures.value)
    ∙ ap (λ l. own_node c.args.owner l c.args.number) c.self.view_is

pub returns-in-None : goal.returns-in-None
returns-in-None c =
    node_missed c.args.owner 0 c.args.number c.self.inside.names.items (sym (c.self.invariant c.args.number) ∙ sym c.in-None.ensures.value)
    ∙ ap (λ l. own_node c.args.owner l c.args.number) c.self.view_is
