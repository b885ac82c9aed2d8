use Rattle.std.proofs.Common.{◌∙◌, ◌++◌, ap, get_or}
use Rattle.b1_model.specs.declared.commands.Command.{Command}
use Rattle.b1_script.specs.Spelling.{entry_spelling}
use Rattle.b1_script.proofs.Entries.{record_written, records_written}
use Rattle.b1_script.proofs.writing.put_entry_records.Goals as goal

pub loop-place-preserved : goal.loop-place-preserved
loop-place-preserved c =
    c.in_ok-encode2.ensures.ok ∙ ap (λ (y : Command). c.loop-place.out.items ++ entry_spelling (get_or c.args.cookies.now c.loop-place.place 0, y)) c.index-commands-place.is
    ∙ record_written c.loop-place.out.items c.args.out.now.items c.args.cookies.now c.args.commands.now c.loop-place.place 0 c.index-commands-place.result c.requires.same c.loop-place-test.true c.loop-place.invariant

pub returns : goal.returns
returns c = records_written c.loop-place.out.items c.args.out.now.items c.args.cookies.now c.args.commands.now c.loop-place.place c.requires.same c.loop-place-test.false c.loop-place.invariant
