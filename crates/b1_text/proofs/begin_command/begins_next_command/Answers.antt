use Rattle.b1_text.proofs.Begins.{ok_test}
use Rattle.b1_text.proofs.CommandLines.{plain_lines, marked_lines}
use Rattle.std.proofs.Common.{arith}
use Rattle.b1_text.proofs.begin_command.begins_next_command.Goals as goal

pub returns-in-One : goal.returns-in-One
returns-in-One c =
    rw c.in-One.is (ok_test c.begins_command.result (λ b h. plain_lines c.args.peers c.args.len c.args.line.now b (omega (arith, c.if-len-most.false, c.most_len-most.ensures)) h) (rw c.most_len-most.ensures at c.begins_command.ensures))

pub returns-in-Two : goal.returns-in-Two
returns-in-Two c =
    rw c.in-Two.is (ok_test c.begins_marked.result (λ b h. marked_lines c.args.peers c.args.len c.args.line.now b (omega (arith, c.if-len-most.false, c.most_len-most.ensures)) h) (rw c.most_len-most.ensures at c.begins_marked.ensures))
