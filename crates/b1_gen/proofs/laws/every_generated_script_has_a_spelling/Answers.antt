use Rattle.b1_gen.proofs.Sizes.{has_spelling}
use Rattle.b1_gen.proofs.laws.every_generated_script_has_a_spelling.Goals as goal

pub returns : goal.returns
returns c number = has_spelling number
