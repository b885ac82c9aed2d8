use Rattle.b1_text.proofs.Firsts.{commands_kind, some_reads, none_reads}
use Rattle.b1_text.proofs.lines.read_commands.Goals as goal

pub returns-in-Some : goal.returns-in-Some
returns-in-Some c = some_reads commands_kind c.args.body.now c.read_u32.result c.in-Some.peer c.read_u32.ensures c.in-Some.is

pub returns-in-None : goal.returns-in-None
returns-in-None c = none_reads commands_kind c.args.body.now c.read_u32.result c.read_u32.ensures c.in-None.is
