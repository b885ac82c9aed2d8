use Rattle.b1_report_lines.proofs.ExactLines.{header_one, header_two}
use Rattle.b1_report_lines.proofs.lines.header.Goals as goal

pub returns-in-One : goal.returns-in-One
returns-in-One c = header_one c.args.version c.args.bytes.now c.fixed.result c.in-One.is c.fixed.ensures

pub returns-in-Two : goal.returns-in-Two
returns-in-Two c = header_two c.args.version c.args.bytes.now c.fixed-in-Two.result c.in-Two.is c.fixed-in-Two.ensures
