-- The separator stands in none of the bytes so far.
use Rattle.std.proofs.Common.{take}
use Rattle.b1_text_words.specs.Words.{IsFree}
use Rattle.b1_text_words.proofs.splitting.split.Given as goal

abbrev pub invariant-loop-at : goal.invariant-loop-at
invariant-loop-at l = IsFree l.separator (take l.at l.bytes)
