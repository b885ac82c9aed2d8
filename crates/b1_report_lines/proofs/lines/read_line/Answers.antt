use Rattle.std.specs.Option.{option_copied}
use Rattle.b1_report_lines.proofs.ExactLines.{header_tells, count_tells, done_tells}
use Rattle.b1_report_lines.proofs.lines.read_line.Goals as goal

pub returns-in-Header : goal.returns-in-Header
returns-in-Header c = rw c.in-Header.is (header_tells (option_copied c.args.cookies) c.args.peers c.args.bytes.now c.version_of.result c.header.result c.version_of.ensures c.header.ensures)

pub returns-in-Count : goal.returns-in-Count
returns-in-Count c = rw c.in-Count.is (count_tells (option_copied c.args.cookies) c.args.peers c.args.bytes.now c.count.result c.count.ensures)

pub returns-in-Done : goal.returns-in-Done
returns-in-Done c = rw c.in-Done.is (done_tells (option_copied c.args.cookies) c.args.peers c.args.bytes.now)
