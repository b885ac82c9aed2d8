use Rattle.std.proofs.Common.{Some, None}
use Rattle.b1_report_lines.proofs.ExactCalls.{command_begins, command_ended, no_front, not_behind, none_read, reads_as, not_true}
use Rattle.b1_report_lines.proofs.calls.unanswered.Goals as goal

pub returns-then-begins_command : goal.returns-then-begins_command
returns-then-begins_command c = command_begins c.args.version c.args.bytes.now c.requires (c.begins_command.ensures.0 c.if-begins_command.true)

pub returns-in_default : goal.returns-in_default
returns-in_default c =
    no_front c.args.version c.args.bytes.now c.requires (λ b. not_true c.begins_command.result (c.begins_command.ensures.1 b) c.if-begins_command.false)
    (λ command h e. c.in_default.ensures _ e)

pub returns-in-Ok-Some : goal.returns-in-Ok-Some
returns-in-Ok-Some c =
    let x = c.in-Ok-Some in
    command_ended c.args.version c.args.bytes.now c.in-Some.word.now x.field-0-0 c.requires c.in-Some.ensures
    (reads_as c.args.version c.in-Some.word.now x.field-0 (Some x.field-0-0) x.field-0-is x.ensures)

pub returns-in-Ok-None : goal.returns-in-Ok-None
returns-in-Ok-None c =
    let x = c.in-Ok-None in
    no_front c.args.version c.args.bytes.now c.requires (λ b. not_true c.begins_command.result (c.begins_command.ensures.1 b) c.if-begins_command.false)
    (not_behind c.args.version c.args.bytes.now c.in-Some.word.now c.in-Some.ensures (none_read c.args.version c.in-Some.word.now (reads_as c.args.version c.in-Some.word.now x.field-0 None x.field-0-is x.ensures)))
