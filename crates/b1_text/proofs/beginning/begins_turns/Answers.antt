use Rattle.std.proofs.Common.{arith}
use Rattle.b1_text.proofs.NextLines.{turns_test}
use Rattle.b1_text.proofs.beginning.begins_turns.Goals as goal

pub returns : goal.returns
returns c =
    let top = rw c.len.ensures at c.most_len-most.ensures in
    turns_test c.args.opening.now c.args.lists c.args.len _ c.args.line.now c.begins_several.result (omega arith) c.requires (omega (arith, c.if-len-most.false, top)) (omega (arith, top)) c.begins_several.ensures
