use Rattle.std.proofs.Common.{refl}
use Rattle.b1_text.proofs.Begins.{ok_test}
use Rattle.b1_text.proofs.CommandLines.{last, not_so, first_flag, second_flag, second_last}
use Rattle.b1_text.proofs.begin_command.begins_send.Goals as goal

pub returns-then-branch : goal.returns-then-branch
returns-then-branch c = (λ _. first_flag c.args.room c.args.line.now c.if-room-lt24.false (c.in_ok-begins_flag.ensures.0 c.if-branch.true), λ _. refl)

pub returns : goal.returns
returns c =
    let none = not_so c.in_ok-begins_flag.field-0 c.if-branch.false c.in_ok-begins_flag.ensures in
    ok_test c.begins_flag-2.result (λ b h. last b h (second_flag c.args.room c.args.line.now c.if-room-lt24.false) (second_last c.args.room c.args.line.now none)) c.begins_flag-2.ensures
