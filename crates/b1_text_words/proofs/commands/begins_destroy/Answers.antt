-- A line of that word and of a list.
use Rattle.b1_text_words.proofs.Parts.{destroy_begins}
use Rattle.b1_text_words.proofs.commands.begins_destroy.Goals as goal

pub returns : goal.returns
returns c = destroy_begins c.args.form c.most_numbers.result c.begins_line.result c.args.line.now c.most_numbers.ensures c.begins_line.ensures
