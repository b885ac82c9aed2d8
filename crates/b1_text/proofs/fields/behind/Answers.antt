use Rattle.std.proofs.Common.{eqb}
use Rattle.std.proofs.lemmas.Bool.Decides.{Decides-eqb}
use Rattle.std.proofs.lemmas.Slice.Eq.{strip_prefix_is}
use Rattle.b1_text.proofs.fields.behind.Goals as goal

pub returns : goal.returns
returns c = strip_prefix_is {E = eqb} Decides-eqb c.args.line.now c.args.word.now c.strip_prefix.result (rw c.as_bytes.ensures.value at c.strip_prefix.ensures.cases)
