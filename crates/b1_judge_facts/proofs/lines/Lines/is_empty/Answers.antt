use Rattle.std.proofs.Common.{sym, ◌∙◌}
use Rattle.b1_judge_facts.proofs.LinesLeft.{nothing_left, empty_gets}
use Rattle.b1_judge_facts.proofs.lines.Lines.is_empty.Goals as goal

pub returns : goal.returns
returns c t =
    sym c.self.view_is
    ∙ nothing_left c.self.inside.lines.items c.self.inside.by_number c.self.invariant.numbers (empty_gets c.self.inside.by_number (c.is_empty.ensures.0 t))
