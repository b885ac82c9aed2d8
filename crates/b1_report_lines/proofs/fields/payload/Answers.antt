use Rattle.std.proofs.Common.{◌<◌, ◌^◌, length, Some, None, arith}
use Rattle.b1_report_lines.proofs.ExactCalls.{not_true}
use Rattle.b1_report_lines.proofs.HexLeaves.{bytes_found, bytes_cut, bytes_broken, bytes_as}
use Rattle.b1_report_lines.proofs.fields.payload.Goals as goal

pub returns-in-Ok-Some : goal.returns-in-Ok-Some
returns-in-Ok-Some c =
    let x = c.in-Ok-Some in
    bytes_found c.args.bytes.now x.payload (bytes_as c.args.bytes.now x.field-0 (Some x.payload) x.field-0-is x.ensures)

pub returns-in-Ok-None : goal.returns-in-Ok-None
returns-in-Ok-None c =
    let x = c.in-Ok-None in
    let fits : length c.args.bytes.now < 2 ^ 64 = omega arith in
    bytes_cut c.args.bytes.now fits (bytes_as c.args.bytes.now x.field-0 None x.field-0-is x.ensures) (c.begins_bytes.ensures.0 c.if-begins_bytes.true)

pub returns-in-Ok-None-2 : goal.returns-in-Ok-None-2
returns-in-Ok-None-2 c =
    let x = c.in-Ok-None in
    let fits : length c.args.bytes.now < 2 ^ 64 = omega arith in
    bytes_broken c.args.bytes.now fits (bytes_as c.args.bytes.now x.field-0 None x.field-0-is x.ensures) (λ b. not_true c.begins_bytes.result (c.begins_bytes.ensures.1 b) c.if-begins_bytes.false)
