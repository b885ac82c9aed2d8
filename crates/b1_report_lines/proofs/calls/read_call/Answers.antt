use Rattle.std.proofs.Common.{Some, None, sym}
use Rattle.b1_report_lines.proofs.ExactCalls.{not_spaced, no_command, none_read, with_answer, reads_as}
use Rattle.b1_report_lines.proofs.calls.read_call.Goals as goal

pub returns-in_default-spaced : goal.returns-in_default-spaced
returns-in_default-spaced c = not_spaced c.args.version c.args.bytes.now (c.in-Some.left.now, c.in-Some.right.now) (sym c.in-Some.ensures) c.in_default-spaced.ensures

pub returns-in-Ok-Some : goal.returns-in-Ok-Some
returns-in-Ok-Some c =
    let x = c.in-Ok-Some in
    with_answer c.args.version c.args.bytes.now c.in-Some-spaced.word.now (c.in-Some.left.now, c.in-Some.right.now) x.command (sym c.in-Some.ensures) c.in-Some-spaced.ensures
    (reads_as c.args.version c.in-Some-spaced.word.now x.field-0 (Some x.command) x.field-0-is x.ensures) c.answered.result c.answered.ensures.gives c.answered.ensures.command

pub returns-in-Ok-None : goal.returns-in-Ok-None
returns-in-Ok-None c =
    let x = c.in-Ok-None in
    no_command c.args.version c.args.bytes.now c.in-Some-spaced.word.now (c.in-Some.left.now, c.in-Some.right.now) (sym c.in-Some.ensures) c.in-Some-spaced.ensures
    (none_read c.args.version c.in-Some-spaced.word.now (reads_as c.args.version c.in-Some-spaced.word.now x.field-0 None x.field-0-is x.ensures))
