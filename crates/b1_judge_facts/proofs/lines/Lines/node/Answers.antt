use Rattle.std.proofs.Common.{sym, ap, ◌∙◌}
use Rattle.b1_model.specs.Ledger.{line_node}
use Rattle.b1_judge_facts.specs.Indexes.{line_at, node_in}
use Rattle.b1_judge_facts.proofs.LinesLeft.{node_found, node_missed}
use Rattle.b1_judge_facts.proofs.lines.Lines.node.Goals as goal

pub returns-in-Some : goal.returns-in-Some
returns-in-Some c =
    c.node_at.ensures
    ∙ ap (λ ls. node_in (line_at ls c.in-Some.place.now)) c.as_slice.ensures.value
    ∙ node_found c.self.inside.lines.items c.self.inside.by_number c.self.invariant.numbers c.args.number c.in-Some.place.now (sym c.in-Some.ensures.value)
    ∙ ap (line_node c.args.number) c.self.view_is

pub returns-in-None : goal.returns-in-None
returns-in-None c =
    node_missed c.self.inside.lines.items c.self.inside.by_number c.self.invariant.numbers c.args.number (sym c.in-None.ensures.value)
    ∙ ap (line_node c.args.number) c.self.view_is
