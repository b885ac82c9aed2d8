-- Something is read where the digits spell something.
use Rattle.std.specs.Prelude.{decimal}
use Rattle.b1_text_words.specs.Items.{IsUpTo}
use Rattle.b1_text_words.proofs.Languages.{spelled_some}
use Rattle.b1_text_words.proofs.decimals.fits_up_to.Goals as goal

pub returns : goal.returns
returns c = spelled_some decimal (IsUpTo c.args.most) c.args.word.now _ _ c.is_some.ensures c.read_up_to.ensures
