use Rattle.b1_text.specs.Nexts.{is_send}
use Rattle.b1_text.proofs.Begins.{ok_test}
use Rattle.b1_text.proofs.CommandLines.{last, not_true, any_begins, any_last}
use Rattle.b1_text.proofs.begin_command.begins_command.Goals as goal

pub returns : goal.returns
returns c =
    ok_test c.begins_send.result
    (λ b h. last b h (any_begins is_send c.args.room c.args.line.now) (any_last c.args.room c.args.line.now (not_true c.if-begins_plain.ensures) (not_true c.if-begins_reference.ensures) (not_true c.if-begins_reset.ensures)))
    c.begins_send.ensures
