-- A number and two more, if all are there.
use Rattle.std.proofs.Common.{◌^◌, ◌-◌}
use Rattle.std.specs.Prelude.{decimal}
use Rattle.b1_text_words.specs.Commands.{limits_text, AreLimits}
use Rattle.b1_text_words.specs.Items.{IsUpTo, IsPair}
use Rattle.b1_text_words.specs.Numbers.{pair_text}
use Rattle.b1_text_words.proofs.Pairs.{no_separator, no_first, no_second, both_read, of_limits}
use Rattle.b1_text_words.proofs.commands.read_limits.Goals as goal

pub returns-in_default : goal.returns-in_default
returns-in_default c = no_separator 32 decimal (IsUpTo (2 ^ 32 - 1)) (pair_text 32) IsPair limits_text AreLimits of_limits c.args.line.now c.in_default.ensures.free

pub returns-in_default-read_small : goal.returns-in_default-read_small
returns-in_default-read_small c = no_first 32 decimal (IsUpTo (2 ^ 32 - 1)) (pair_text 32) IsPair limits_text AreLimits of_limits c.args.line.now c.in-Some.entries.now c.in-Some.rest.now _ c.in-Some.ensures.parts c.in-Some.ensures.first c.in_default-read_small.is c.read_small.ensures

pub returns-in-Some-read_pair : goal.returns-in-Some-read_pair
returns-in-Some-read_pair c = both_read 32 decimal (IsUpTo (2 ^ 32 - 1)) (pair_text 32) IsPair limits_text AreLimits of_limits c.args.line.now c.in-Some.entries.now c.in-Some.rest.now c.in-Some-read_small.entries (c.in-Some-read_pair.bytes, c.in-Some-read_pair.handles) _ _ c.in-Some.ensures.parts c.in-Some.ensures.first c.in-Some-read_small.is c.read_small.ensures c.in-Some-read_pair.is c.read_pair.ensures

pub returns-in-None : goal.returns-in-None
returns-in-None c = no_second 32 decimal (IsUpTo (2 ^ 32 - 1)) (pair_text 32) IsPair limits_text AreLimits of_limits c.args.line.now c.in-Some.entries.now c.in-Some.rest.now _ c.in-Some.ensures.parts c.in-Some.ensures.first c.in-None.is c.read_pair.ensures
