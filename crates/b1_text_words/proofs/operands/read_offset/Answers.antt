-- Behind the sign a reference is read.
use Rattle.b1_text_words.specs.Numbers.{slice_text}
use Rattle.b1_text_words.proofs.References.{reads_behind}
use Rattle.b1_text_words.proofs.operands.read_offset.Goals as goal

pub returns-in-Some : goal.returns-in-Some
returns-in-Some c = reads_behind slice_text c.args.most c.args.word.now c.in-Some.rest.now _ c.ranges.most.fits c.in-Some.ensures c.read_slice.ensures
