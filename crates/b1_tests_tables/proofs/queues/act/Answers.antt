use Rattle.std.proofs.Common.{◌+◌, arith}
use Rattle.b1_tests_tables.proofs.Numbered.{numbered_more, numbered_without}
use Rattle.b1_tests_tables.proofs.queues.act.Goals as goal

pub returns-in-1 : goal.returns-in-1
returns-in-1 g c =
    let q = g.Q.QueueKind.listed c.args.queue.now in
    rw c.remove.ensures.listed
    (numbered_without _ (c.args.index + 2) q
    (numbered_more c.args.index (c.args.index + 2) q (omega arith) c.requires.numbered))
