use Rattle.b1_text_words.specs.Items.{item_text, IsItem}
use Rattle.b1_text.proofs.Begins.{word_some, word_none}
use Rattle.b1_text.proofs.Parts.{some_item}
use Rattle.b1_text.proofs.begin_parts.begins_one.Goals as goal

pub returns-in-Some : goal.returns-in-Some
returns-in-Some c = word_some c.args.word.now (item_text c.args.item) (IsItem c.args.item) c.args.line.now c.in-Some.rest.now c.begins_item.result c.in-Some.ensures c.begins_item.ensures

pub returns-in-None : goal.returns-in-None
returns-in-None c =
    let some = some_item c.args.item in
    word_none c.args.word.now (item_text c.args.item) (IsItem c.args.item) c.args.line.now c.begins_text.result some.0 some.1 c.in-None.ensures c.begins_text.ensures
