use Rattle.b1_text.proofs.Firsts.{clock_kind, some_reads, none_reads}
use Rattle.b1_text.proofs.lines.read_clock.Goals as goal

pub returns-in-Some : goal.returns-in-Some
returns-in-Some c = some_reads clock_kind c.args.body.now c.read_u64.result c.in-Some.clock c.read_u64.ensures c.in-Some.is

pub returns-in-None : goal.returns-in-None
returns-in-None c = none_reads clock_kind c.args.body.now c.read_u64.result c.read_u64.ensures c.in-None.is
