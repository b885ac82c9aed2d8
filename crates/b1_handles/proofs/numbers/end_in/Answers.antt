use Rattle.std.proofs.Common.{ap, sym, ◌∙◌}
use Rattle.b1_handles.specs.Numbers.{names_of}
use Rattle.b1_handles.proofs.Names.{end_ended, end_kept}
use Rattle.b1_handles.proofs.numbers.end_in.Goals as goal

pub returns-then-place-ended-clause-names : goal.returns-then-place-ended-clause-names
returns-then-place-ended-clause-names c = sym (end_ended c.args.ended.now c.args.kept.now.items c.args.place c.if-place-ended.true)

pub returns-clause-names : goal.returns-clause-names
returns-clause-names c =
    c.trim.ensures.names
    ∙ ap (names_of c.args.ended.now) c.end_at.ensures.items
    ∙ sym (end_kept c.args.ended.now c.args.kept.now.items c.args.place c.if-place-ended.false)
