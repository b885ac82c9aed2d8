-- It comes nearer to the last number with each digit.
use Rattle.std.proofs.Common.{◌-◌}
use Rattle.b1_text_words.proofs.decimals.+reaches.Given as goal

abbrev pub decreases-reaches : goal.decreases-reaches
decreases-reaches l = l.numbers.most - l.low
