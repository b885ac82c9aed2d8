use Rattle.std.specs.Prelude.{None, Some}
use Rattle.std.proofs.Common.{arith, sym, ap, ◌∙◌}
use Rattle.b1_model.specs.Ledger.{Line}
use Rattle.b1_judge_facts.specs.Indexes.{line_at}
use Rattle.b1_judge_facts.proofs.LinesLeft.{nothing_lowered, lowered_left, line_within, line_there}
use Rattle.b1_judge_facts.proofs.Indexing.{lower_gone, lower_kept}
use Rattle.b1_judge_facts.proofs.lines.lower.Goals as goal

pub returns-in_default-clause-lowered : goal.returns-in_default-clause-lowered
returns-in_default-clause-lowered c = nothing_lowered c.args.lines.now.items c.args.by_number.now c.requires.numbers c.args.number (sym c.in_default.ensures.value)

pub returns-in_default-line_at-clause-lowered : goal.returns-in_default-line_at-clause-lowered
returns-in_default-line_at-clause-lowered c =
    absurd (line_there c.args.lines.now.items c.args.by_number.now c.requires.numbers c.args.number c.in-Some.place.now (sym c.in-Some.ensures.value)
    (sym (c.in_default-line_at.ensures ∙ ap (λ ls. line_at ls c.in-Some.place.now) c.as_slice.ensures.value)))

pub returns-in-Some-less-clause-indexed : goal.returns-in-Some-less-clause-indexed
returns-in-Some-less-clause-indexed c =
    lower_kept c.args.lines.now.items c.in-Some.place.now c.in-Some-line_at.line c.in-Some-less.kept c.args.by_number.now c.args.by_node.now c.requires
    (sym (c.in-Some-line_at.ensures ∙ ap (λ ls. line_at ls c.in-Some.place.now) c.as_slice.ensures.value))
    c.in-Some-less.ensures

pub returns-in-Some-less-clause-lowered : goal.returns-in-Some-less-clause-lowered
returns-in-Some-less-clause-lowered c =
    lowered_left c.args.lines.now.items c.args.by_number.now c.requires.numbers c.args.number c.in-Some.place.now c.in-Some-line_at.line (Some c.in-Some-less.kept)
    (sym c.in-Some.ensures.value)
    (sym (c.in-Some-line_at.ensures ∙ ap (λ ls. line_at ls c.in-Some.place.now) c.as_slice.ensures.value))
    c.in-Some-less.ensures

pub returns-in-None-clause-indexed : goal.returns-in-None-clause-indexed
returns-in-None-clause-indexed c =
    lower_gone c.args.lines.now.items c.in-Some.place.now c.args.number c.in-Some-line_at.line c.line.inside.node c.args.by_number.now c.remove.new.self c.args.by_node.now c.forget.new.by_node c.requires
    (sym c.in-Some.ensures.value)
    (sym (c.in-Some-line_at.ensures ∙ ap (λ ls. line_at ls c.in-Some.place.now) c.as_slice.ensures.value))
    (ap (λ (l : Line). l.node) c.line.view_is) c.remove.ensures.updates.0 c.forget.ensures

pub returns-in-None-clause-lowered : goal.returns-in-None-clause-lowered
returns-in-None-clause-lowered c =
    lowered_left c.args.lines.now.items c.args.by_number.now c.requires.numbers c.args.number c.in-Some.place.now c.in-Some-line_at.line None
    (sym c.in-Some.ensures.value)
    (sym (c.in-Some-line_at.ensures ∙ ap (λ ls. line_at ls c.in-Some.place.now) c.as_slice.ensures.value))
    c.in-None.ensures

pub index_mut-requires : goal.index_mut-requires
index_mut-requires c = omega (arith, line_within c.args.lines.now.items c.in-Some.place.now c.in-Some-line_at.line (sym (c.in-Some-line_at.ensures ∙ ap (λ ls. line_at ls c.in-Some.place.now) c.as_slice.ensures.value)))
