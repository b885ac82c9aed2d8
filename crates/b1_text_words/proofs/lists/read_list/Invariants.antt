-- What is read so far, and what is left.
use Rattle.b1_text_words.proofs.Commas.{IsReadTo}
use Rattle.b1_text_words.proofs.lists.read_list.Given as goal

abbrev pub invariant-loop-room : goal.invariant-loop-room
invariant-loop-room l = IsReadTo l.item l.most l.word l.numbers.items l.room l.rest

abbrev pub decreases-loop-room : goal.decreases-loop-room
decreases-loop-room l = l.room
