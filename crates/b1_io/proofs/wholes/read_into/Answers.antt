use Rattle.std.proofs.Common.{◌+◌, arith, length}
use Rattle.std.proofs.lemmas.Grind.{common_steps}
use Rattle.b1_io.proofs.Steps.{lost_more, on_err}
use Rattle.b1_io.proofs.wholes.read_into.Goals as goal

pub returns-in_err-n-clause-lost : goal.returns-in_err-n-clause-lost
returns-in_err-n-clause-lost g c =
    on_err _
    (lost_more _ _ _ (g.T.Pieces.taken c.loop-given.to) (length c.read_more.new.chunk) (c.args.limit + 1) c.loop-given.invariant.gave c.in_err-n.ensures.lost
    (grind (arith, common_steps, c.read_more.auto.chunk, c.loop-given.invariant.counted, c.loop-given-test.true)))
