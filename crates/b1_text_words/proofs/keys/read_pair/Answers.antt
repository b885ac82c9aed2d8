-- Two numbers, if both are there.
use Rattle.std.proofs.Common.{◌^◌, ◌-◌}
use Rattle.std.specs.Prelude.{decimal}
use Rattle.b1_text_words.specs.Items.{IsUpTo, IsPair}
use Rattle.b1_text_words.specs.Numbers.{pair_text}
use Rattle.b1_text_words.proofs.Pairs.{no_separator, no_first, no_second, both_read, of_small}
use Rattle.b1_text_words.proofs.keys.read_pair.Goals as goal

pub returns-in_default : goal.returns-in_default
returns-in_default c = no_separator c.args.separator decimal (IsUpTo (2 ^ 32 - 1)) decimal (IsUpTo (2 ^ 32 - 1)) (pair_text c.args.separator) IsPair (of_small c.args.separator c.requires) c.args.word.now c.in_default.ensures.free

pub returns-in_default-read_small : goal.returns-in_default-read_small
returns-in_default-read_small c = no_first c.args.separator decimal (IsUpTo (2 ^ 32 - 1)) decimal (IsUpTo (2 ^ 32 - 1)) (pair_text c.args.separator) IsPair (of_small c.args.separator c.requires) c.args.word.now c.in-Some.first.now c.in-Some.second.now _ c.in-Some.ensures.parts c.in-Some.ensures.first c.in_default-read_small.is c.read_small.ensures

pub returns-in-Some-read_small-2 : goal.returns-in-Some-read_small-2
returns-in-Some-read_small-2 c = both_read c.args.separator decimal (IsUpTo (2 ^ 32 - 1)) decimal (IsUpTo (2 ^ 32 - 1)) (pair_text c.args.separator) IsPair (of_small c.args.separator c.requires) c.args.word.now c.in-Some.first.now c.in-Some.second.now c.in-Some-read_small.first c.in-Some-read_small-2.second _ _ c.in-Some.ensures.parts c.in-Some.ensures.first c.in-Some-read_small.is c.read_small.ensures c.in-Some-read_small-2.is c.read_small-2.ensures

pub returns-in-None : goal.returns-in-None
returns-in-None c = no_second c.args.separator decimal (IsUpTo (2 ^ 32 - 1)) decimal (IsUpTo (2 ^ 32 - 1)) (pair_text c.args.separator) IsPair (of_small c.args.separator c.requires) c.args.word.now c.in-Some.first.now c.in-Some.second.now _ c.in-Some.ensures.parts c.in-Some.ensures.first c.in-None.is c.read_small-2.ensures
