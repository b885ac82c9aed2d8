-- Behind the sign a reference is read.
use Rattle.b1_text_words.specs.Numbers.{slot_text}
use Rattle.b1_text_words.proofs.References.{reads_behind}
use Rattle.b1_text_words.proofs.operands.read_handle.Goals as goal

pub returns-in-Some : goal.returns-in-Some
returns-in-Some c = reads_behind slot_text c.args.most c.args.word.now c.in-Some.rest.now _ c.ranges.most.fits c.in-Some.ensures c.read_slot.ensures
