use Rattle.std.proofs.Common.{ap, Some, arith, drop}
use Rattle.std.proofs.lemmas.Grind.{common_steps}
use Rattle.b1_io.proofs.Steps.{given_first}
use Rattle.b1_io.proofs.memory.MemSourceSource.read.Goals as goal

pub returns-clause-first : goal.returns-clause-first
returns-clause-first c =
    let copied = rw c.deref-2.ensures.value at c.copy_from_slice.ensures.after in
    rw (← c.self.view_is)
    (ap Some (given_first c.self.inside.bytes.items c.copy_from_slice.new.self (drop c.min-n.result c.args.buf.now) c.self.inside.at c.min-n.result copied (grind (arith, common_steps, c.copy_from_slice.ensures.len))))
