use Rattle.std.proofs.Common.{◌≡◌, refl}
use Rattle.std.specs.Fmt.{decimal}
use Rattle.b1_text.proofs.Begins.{word_some, word_none}
use Rattle.b1_text.proofs.begin_parts.begins_number.Goals as goal

pub returns-in-Some : goal.returns-in-Some
returns-in-Some c = word_some c.args.word.now decimal (λ n. n ≡ c.args.number) c.args.line.now c.in-Some.rest.now c.begins_decimal.result c.in-Some.ensures c.begins_decimal.ensures

pub returns-in-None : goal.returns-in-None
returns-in-None c = word_none c.args.word.now decimal (λ n. n ≡ c.args.number) c.args.line.now c.begins_text.result c.args.number refl c.in-None.ensures c.begins_text.ensures
