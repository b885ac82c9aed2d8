use Rattle.std.proofs.Common.{arith, sym, ap, ◌∙◌}
use Rattle.b1_model.specs.Ledger.{Line}
use Rattle.b1_judge_facts.specs.Indexes.{line_at}
use Rattle.b1_judge_facts.proofs.LinesLeft.{nothing_raised, raised_left, line_within, line_there}
use Rattle.b1_judge_facts.proofs.Indexing.{set_keys}
use Rattle.b1_judge_facts.proofs.lines.raise.Goals as goal

pub returns-in_default-clause-raised : goal.returns-in_default-clause-raised
returns-in_default-clause-raised c = nothing_raised c.args.lines.now.items c.args.by_number.now c.requires c.args.number (sym c.in_default.ensures.value)

pub index_mut-requires : goal.index_mut-requires
index_mut-requires c = omega (arith, line_within c.args.lines.now.items c.in-Some.place.now c.in-Some-line_at.line (sym (c.in-Some-line_at.ensures ∙ ap (λ ls. line_at ls c.in-Some.place.now) c.as_slice.ensures.value)))

pub returns-in_ok-more-clause-keys : goal.returns-in_ok-more-clause-keys
returns-in_ok-more-clause-keys c =
    set_keys c.args.lines.now.items c.in-Some.place.now c.in-Some-line_at.line c.in_ok-more.field-0
    (sym (c.in-Some-line_at.ensures ∙ ap (λ ls. line_at ls c.in-Some.place.now) c.as_slice.ensures.value))
    (ap (λ (l : Line). l.number) c.in_ok-more.ensures) (ap (λ (l : Line). l.node) c.in_ok-more.ensures)

pub returns-in_ok-more-clause-raised : goal.returns-in_ok-more-clause-raised
returns-in_ok-more-clause-raised c =
    raised_left c.args.lines.now.items c.args.by_number.now c.requires c.args.number c.in-Some.place.now c.in-Some-line_at.line c.in_ok-more.field-0
    (sym c.in-Some.ensures.value)
    (sym (c.in-Some-line_at.ensures ∙ ap (λ ls. line_at ls c.in-Some.place.now) c.as_slice.ensures.value))
    c.in_ok-more.ensures

pub returns-in_default-line_at-clause-raised : goal.returns-in_default-line_at-clause-raised
returns-in_default-line_at-clause-raised c =
    absurd (line_there c.args.lines.now.items c.args.by_number.now c.requires c.args.number c.in-Some.place.now (sym c.in-Some.ensures.value)
    (sym (c.in_default-line_at.ensures ∙ ap (λ ls. line_at ls c.in-Some.place.now) c.as_slice.ensures.value)))
