-- A line of that word and of numbers.
use Rattle.b1_text_words.proofs.Parts.{slice_begins}
use Rattle.b1_text_words.proofs.commands.begins_slice.Goals as goal

pub returns : goal.returns
returns c = slice_begins c.args.form c.begins_line.result c.args.line.now c.begins_line.ensures
