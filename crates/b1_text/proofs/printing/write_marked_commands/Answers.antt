use Rattle.std.proofs.Common.{◌++◌, ◌∙◌, ap, get_or, string_bytes}
use Rattle.b1_model.specs.declared.commands.Command.{Command}
use Rattle.b1_text.specs.declared.statement.Statement.TheVariants as says
use Rattle.b1_text.specs.Texts.{line_text, marked}
use Rattle.b1_text.proofs.Texts.{pairs_more, pairs_all}
use Rattle.b1_text.proofs.printing.write_marked_commands.Goals as goal

pub loop-place-preserved : goal.loop-place-preserved
loop-place-preserved c =
    c.in_ok-write_entry.ensures
    ∙ ap (λ (y : Command). string_bytes c.loop-place.out ++ line_text (says.Command (marked (get_or c.args.cookies.now c.loop-place.place 0, y)))) c.index-commands-place.is
    ∙ pairs_more (λ pair. line_text (says.Command (marked pair))) c.args.cookies.now c.args.commands.now c.loop-place.place 0 c.index-commands-place.result _ _ c.requires c.loop-place-test.true c.loop-place.invariant

pub returns : goal.returns
returns c = pairs_all (λ pair. line_text (says.Command (marked pair))) c.args.cookies.now c.args.commands.now c.loop-place.place _ _ c.requires c.loop-place-test.false c.loop-place.invariant
