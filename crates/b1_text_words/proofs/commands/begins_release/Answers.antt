-- A line of that word and of numbers.
use Rattle.b1_text_words.proofs.Parts.{release_begins}
use Rattle.b1_text_words.proofs.commands.begins_release.Goals as goal

pub returns : goal.returns
returns c = release_begins c.args.form c.begins_line.result c.args.line.now c.begins_line.ensures
