-- What is read so far and what the rest spells are the whole.
use Rattle.std.proofs.Common.{length}
use Rattle.b1_text_words.proofs.Hex.{IsReadTo}
use Rattle.b1_text_words.proofs.bytes.read_pairs.Given as goal

abbrev pub invariant-loop-rest : goal.invariant-loop-rest
invariant-loop-rest l = IsReadTo l.word l.bytes.items l.rest

abbrev pub decreases-loop-rest : goal.decreases-loop-rest
decreases-loop-rest l = length l.rest
