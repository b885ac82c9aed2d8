-- A line of eight words.
use Rattle.b1_text_words.proofs.Sends.{send_begins}
use Rattle.b1_text_words.proofs.commands.begins_send.Goals as goal

pub returns : goal.returns
returns c = send_begins c.args.form c.most_numbers.result c.most_bytes.result c.begins_line.result c.args.line.now c.most_numbers.ensures c.most_bytes.ensures c.begins_line.ensures
