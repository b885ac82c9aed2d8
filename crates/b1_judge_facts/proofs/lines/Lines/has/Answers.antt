use Rattle.std.proofs.Common.{sym, ap, ◌∙◌}
use Rattle.b1_model.specs.Ledger.{has_line}
use Rattle.b1_judge_facts.proofs.LinesLeft.{has_by}
use Rattle.b1_judge_facts.proofs.lines.Lines.has.Goals as goal

pub returns : goal.returns
returns c =
    c.contains_key.ensures
    ∙ sym (has_by c.self.inside.lines.items c.self.inside.by_number c.self.invariant.numbers c.args.number)
    ∙ ap (has_line c.args.number) c.self.view_is
