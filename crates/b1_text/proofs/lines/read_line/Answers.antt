use Rattle.b1_text.proofs.Firsts.{marked_reads, nothing_reads}
use Rattle.b1_text.proofs.lines.read_line.Goals as goal

pub returns-in-Some-2 : goal.returns-in-Some-2
returns-in-Some-2 c =
    marked_reads c.args.line.now c.in_ok-cookie.field-0 (c.in-Some-2.cookie, c.in-Some-2.command)
    (record { name = c.in_default.ensures; clock = c.in_default-behind.ensures; peer = c.in_default-behind-2.ensures; wire = c.in_default-behind-3.ensures; commands = c.in_default-behind-4.ensures; turns = c.in_default-behind-5.ensures })
    c.in_ok-cookie.ensures c.in-Some-2.is

pub returns-in-None : goal.returns-in-None
returns-in-None c =
    nothing_reads c.args.line.now c.in_ok-cookie.field-0 c.in_ok-command.field-0
    (record { name = c.in_default.ensures; clock = c.in_default-behind.ensures; peer = c.in_default-behind-2.ensures; wire = c.in_default-behind-3.ensures; commands = c.in_default-behind-4.ensures; turns = c.in_default-behind-5.ensures })
    c.in_ok-cookie.ensures c.in_default-2.is c.in_ok-command.ensures c.in-None.is
