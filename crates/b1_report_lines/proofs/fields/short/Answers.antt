use Rattle.std.proofs.Common.{arith, ◌^◌, ◌-◌}
use Rattle.b1_report_lines.proofs.Leaves.{number_some, number_none}
use Rattle.b1_report_lines.proofs.fields.short.Goals as goal

pub returns-in-Some : goal.returns-in-Some
returns-in-Some c = number_some (2 ^ 32 - 1) (2 ^ 32) c.args.bytes.now c.in-Some.number (omega arith) (omega arith) c.in-Some.ensures

pub returns-in-None : goal.returns-in-None
returns-in-None c = rw c.no_number.ensures (number_none (2 ^ 32 - 1) (2 ^ 32) c.args.bytes.now (omega arith) (omega arith) c.in-None.ensures)
