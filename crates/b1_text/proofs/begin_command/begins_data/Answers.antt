use Rattle.std.proofs.Common.{[], codes}
use Rattle.b1_text_words.specs.Numbers.{hex_text}
use Rattle.b1_text.specs.Nexts.{IsPayload}
use Rattle.b1_text.proofs.Begins.{word_some, word_none}
use Rattle.b1_text.proofs.Loads.{bytes_test, no_payload}
use Rattle.b1_text.proofs.begin_command.begins_data.Goals as goal

pub returns-in-Some : goal.returns-in-Some
returns-in-Some c =
    let bytes = bytes_test c.args.room c.most_bytes.result c.in-Some.rest.now c.begins_bytes.result c.most_bytes.ensures c.begins_bytes.ensures in
    word_some (codes "data ") hex_text (IsPayload c.args.room) c.args.line.now c.in-Some.rest.now c.begins_bytes.result c.in-Some.ensures bytes

pub returns-in-None : goal.returns-in-None
returns-in-None c = word_none (codes "data ") hex_text (IsPayload c.args.room) c.args.line.now c.begins_text.result [] (no_payload c.args.room) c.in-None.ensures c.begins_text.ensures
