use Rattle.std.proofs.Common.{[]}
use Rattle.b1_text_words.specs.Items.{item_text, AreItems}
use Rattle.b1_text_words.specs.Numbers.{list_text}
use Rattle.b1_text.proofs.Begins.{word_some, word_none}
use Rattle.b1_text.proofs.Parts.{no_items}
use Rattle.b1_text.proofs.begin_parts.begins_several.Goals as goal

pub returns-in-Some : goal.returns-in-Some
returns-in-Some c =
    word_some c.args.word.now (list_text (item_text c.args.item)) (AreItems c.args.item c.args.most) c.args.line.now c.in-Some.rest.now c.begins_list.result c.in-Some.ensures c.begins_list.ensures

pub returns-in-None : goal.returns-in-None
returns-in-None c =
    word_none c.args.word.now (list_text (item_text c.args.item)) (AreItems c.args.item c.args.most) c.args.line.now c.begins_text.result [] (no_items c.args.item c.args.most) c.in-None.ensures c.begins_text.ensures
