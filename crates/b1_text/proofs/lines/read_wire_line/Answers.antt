use Rattle.b1_text.proofs.Firsts.{wire_kind, some_reads, none_reads}
use Rattle.b1_text.proofs.lines.read_wire_line.Goals as goal

pub returns-in-Some : goal.returns-in-Some
returns-in-Some c = some_reads wire_kind c.args.body.now c.read_wire.result c.in-Some.wire c.read_wire.ensures c.in-Some.is

pub returns-in-None : goal.returns-in-None
returns-in-None c = none_reads wire_kind c.args.body.now c.read_wire.result c.read_wire.ensures c.in-None.is
