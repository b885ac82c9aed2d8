-- Something is read where the word spells something.
use Rattle.b1_text_words.specs.Items.{item_text, IsItem}
use Rattle.b1_text_words.proofs.Languages.{spelled_some}
use Rattle.b1_text_words.proofs.items.fits_item.Goals as goal

pub returns : goal.returns
returns c = spelled_some (item_text c.args.item) (IsItem c.args.item) c.args.word.now _ _ c.is_some.ensures c.read_item.ensures
