use Rattle.std.proofs.Common.{arith}
use Rattle.b1_script.proofs.Laws.{few_turns}
use Rattle.b1_script.proofs.writing.put_sizes.Goals as goal

pub overflow_cast-len-2 : goal.overflow_cast-len-2
overflow_cast-len-2 c = omega (arith, c.len-2.ensures, few_turns c.args.script.now c.requires.has_spelling)
