use Rattle.std.proofs.Common.{sym, ap, ◌∙◌}
use Rattle.b1_model.specs.Ledger.{line_number}
use Rattle.b1_judge_facts.specs.Indexes.{line_at, number_in}
use Rattle.b1_judge_facts.proofs.LinesLeft.{number_first, number_none}
use Rattle.b1_judge_facts.proofs.lines.Lines.number.Goals as goal

pub returns-in-Some : goal.returns-in-Some
returns-in-Some c =
    c.number_at.ensures
    ∙ ap (λ ls. number_in (line_at ls c.in-Some.place)) c.as_slice.ensures.value
    ∙ number_first c.args.node.now c.self.inside.lines.items c.in-Some.place
    (sym (c.self.invariant.nodes c.args.node.now c.in-Some.place) ∙ c.in-Some.ensures.0)
    (λ j is. c.in-Some.ensures.1 j (c.self.invariant.nodes c.args.node.now j ∙ is))
    ∙ ap (line_number c.args.node.now) c.self.view_is

pub returns-in-None : goal.returns-in-None
returns-in-None c =
    number_none c.args.node.now c.self.inside.lines.items (λ j. sym (c.self.invariant.nodes c.args.node.now j) ∙ c.in-None.ensures j)
    ∙ ap (line_number c.args.node.now) c.self.view_is
